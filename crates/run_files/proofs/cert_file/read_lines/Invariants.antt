use Rattle.std.proofs.Common.{◌≡◌, ◌+◌, ◌-◌, ◌*◌, ◌^◌, length}
use Rattle.roam_script.specs.declared.limits.TheConstants.{MOST_LINE_BYTES}
use Rattle.run_laws.specs.CertFile.{HaveCome}
use Rattle.run_laws.proofs.CertFileLemmas.{place}
use Rattle.run_laws.proofs.FileLemmas.{HasReadOf, IsOpen}
use Rattle.run_files.specs.LineStage.{IsStage}
use Rattle.run_files.proofs.cert_file.read_lines.Given as goal

-- the bytes that were read were taken, and the shelf has not failed
abbrev pub invariant-pieces : goal.invariant-pieces
invariant-pieces g l = record {
  reading : HasReadOf (λ bytes. HaveCome (g.R.LineReader.step l.n) g.R.LineReader.start bytes
      (place (g.R.LineReader.said l.stage.reader) l.stage.lines l.stage.part.items))
      (g.O.Outside.moment l.fn.outside).shelf.files (g.O.Outside.moment l.outside).shelf.rest l.name;
  level : g.R.LineReader.level l.stage.reader ≡ l.n;
  sound : IsStage (g.R.LineReader.Goes l.stage.reader) (g.R.LineReader.count (g.R.LineReader.said l.stage.reader))
      l.stage.lines l.stage.part.items;
  opened : IsOpen (g.O.Outside.moment l.fn.outside) (g.O.Outside.moment l.outside);
  same : g.O.Outside.is_same l.fn.outside l.outside;
}

-- each byte makes a line longer, or is the last of an accepted line
abbrev pub decreases-pieces : goal.decreases-pieces
decreases-pieces g l =
    (MOST_LINE_BYTES + 1) * 2 ^ 32 - ((MOST_LINE_BYTES + 1) * l.stage.lines + length l.stage.part.items)
