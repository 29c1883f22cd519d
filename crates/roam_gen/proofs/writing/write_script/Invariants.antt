use Rattle.std.proofs.Common.{◌≡◌, ◌-◌, take}
use Rattle.roam_edge.specs.Fault.{IsInTime}
use Rattle.std.specs.List.{flat_map}
use Rattle.roam_gen.specs.Generated.{made_lines}
use Rattle.roam_gen.specs.Written.{line_text}
use Rattle.roam_gen.specs.Rows.{Wrote}
use Rattle.roam_gen.proofs.writing.write_script.Given as goal

-- the lines so far were written
abbrev pub invariant-loop-i : goal.invariant-loop-i
invariant-loop-i g l = record {
  written : Wrote (g.S.Sink.contents l.fn.out) (g.S.Sink.contents l.out)
      (flat_map line_text (take (l.i - 1) (made_lines l.n l.seed)));
  calm : g.S.Sink.faults l.out ≡ g.S.Sink.faults l.fn.out;
  in_time : IsInTime (g.S.Sink.late l.fn.out) (g.S.Sink.faults l.fn.out) (g.S.Sink.late l.out);
}
