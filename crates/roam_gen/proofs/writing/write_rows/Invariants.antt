use Rattle.std.proofs.Common.{◌≡◌, ◌*◌}
use Rattle.roam_edge.specs.Fault.{IsInTime}
use Rattle.mesh_defs.specs.HeightField.{side_of}
use Rattle.roam_gen.specs.Rows.{Wrote}
use Rattle.roam_gen.proofs.RowLemmas.{samples_from}
use Rattle.roam_gen.proofs.writing.write_rows.Given as goal

-- the rows so far were written
abbrev pub invariant-loop-above : goal.invariant-loop-above
invariant-loop-above g l = record {
  written : Wrote (g.S.Sink.contents l.fn.out) (g.S.Sink.contents l.out)
      (samples_from l.n l.seed 0 (l.above * side_of l.n));
  calm : g.S.Sink.faults l.out ≡ g.S.Sink.faults l.fn.out;
  in_time : IsInTime (g.S.Sink.late l.fn.out) (g.S.Sink.faults l.fn.out) (g.S.Sink.late l.out);
}
