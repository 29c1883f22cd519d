use Rattle.std.proofs.Common.{◌-◌, ◌^◌, ◌≤◌}
use Rattle.pgm_grid.specs.declared.fault.PgmFault.{PgmFault}
use Rattle.pgm_grid.specs.Progress.{taken, StaysRefused}
use Rattle.run_laws.proofs.FileLemmas.{IsOpen}
use Rattle.run_files.proofs.ReadingLemmas.{IsReading}
use Rattle.run_files.proofs.grid_file.read_grid.Given as goal

-- the reader has taken a prefix of the file, and the shelf has not failed
abbrev pub invariant-pieces : goal.invariant-pieces
invariant-pieces g l = record {
  reading : IsReading (g.O.Outside.moment l.fn.outside).shelf.files
      (g.O.Outside.moment l.outside).shelf.rest l.name l.reader;
  unsettled : (fault : PgmFault) → StaysRefused l.reader fault → ⊥;
  few : taken l.reader ≤ 2 ^ 28;
  opened : IsOpen (g.O.Outside.moment l.fn.outside) (g.O.Outside.moment l.outside);
  same : g.O.Outside.is_same l.fn.outside l.outside;
}

abbrev pub decreases-pieces : goal.decreases-pieces
decreases-pieces g l = 2 ^ 28 - taken l.reader
