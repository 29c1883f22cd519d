-- The lines so far are put.
use Rattle.std.proofs.Common.{◌≡◌, take}
use Rattle.std.specs.List.{flat_map}
use Rattle.roam_edge.specs.Fault.{IsInTime}
use Rattle.cert_text.specs.Lines.{ended}
use Rattle.cert_text.specs.Page.{Puts}
use Rattle.cert_text.proofs.page.put_lines.Given as goal

abbrev pub invariant-loop-line : goal.invariant-loop-line
invariant-loop-line g l = record {
  put : Puts (g.S.Sink.contents l.fn.out) (g.S.Sink.contents l.out) l.fn.page.items l.page.items
      (flat_map (λ line. ended (g.L.PageLine.text line)) (take l.line-index l.lines));
  calm : g.S.Sink.faults l.out ≡ g.S.Sink.faults l.fn.out;
  in_time : IsInTime (g.S.Sink.late l.fn.out) (g.S.Sink.faults l.fn.out) (g.S.Sink.late l.out);
}
