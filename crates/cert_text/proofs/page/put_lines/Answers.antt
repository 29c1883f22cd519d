-- One line more, or the first ones cut short.
use Rattle.std.proofs.Common.{◌<◌, take, drop, length, refl, sym, ◌∙◌, subst, arith}
use Rattle.std.specs.List.{flat_map}
use Rattle.std.proofs.lemmas.List.{take_all}
use Rattle.std.proofs.lemmas.Result.{err_from_is_err_and}
use Rattle.cert_text.specs.Lines.{ended}
use Rattle.cert_text.specs.Page.{Puts}
use Rattle.cert_text.proofs.PageLemmas.{puts-none, puts-then, cuts-longer, texts-cut, texts-next}
use Rattle.cert_text.proofs.page.put_lines.Goals as goal

pub loop-line-init : goal.loop-line-init
loop-line-init g c = record {
  put = puts-none _ _;
  calm = refl;
  in_time = λ late calm. late;
}

pub loop-line-preserved : goal.loop-line-preserved
loop-line-preserved g c =
    let below : c.loop-line.line-index < length c.args.lines.now = omega arith in
    record {
      put = subst (Puts (g.S.Sink.contents c.args.out.now) (g.S.Sink.contents c.put_line.new.out) c.args.page.now.items
          c.put_line.new.page.items)
          (sym (texts-next (λ line. ended (g.L.PageLine.text line)) c.args.lines.now c.loop-line.line-index
          c.line-item.result below c.line-item.is))
          (puts-then _ _ _ _ _ _ _ _ c.loop-line.invariant.put c.in_ok-put_line.ensures.ok);
      calm = c.in_ok-put_line.ensures.faults.ok ∙ c.loop-line.invariant.calm;
      in_time = λ late calm. c.in_ok-put_line.ensures.in_time (c.loop-line.invariant.in_time late calm)
          (c.loop-line.invariant.calm ∙ calm);
    }

pub returns-in_err-put_line-clause-err : goal.returns-in_err-put_line-clause-err
returns-in_err-put_line-clause-err g c =
    let p = err_from_is_err_and c.from_residual.result c.from_residual.ensures.1 in
    let k = c.loop-line.line-index in
    rw p.1 (cuts-longer _ _ _ (flat_map (λ line. ended (g.L.PageLine.text line)) (take k c.args.lines.now))
    (flat_map (λ line. ended (g.L.PageLine.text line)) (drop k c.args.lines.now)) _
    (texts-cut (λ line. ended (g.L.PageLine.text line)) c.args.lines.now k)
    (λ before text put. c.in_err-put_line.ensures.err before _ (c.loop-line.invariant.put before text put)))

pub returns-clause-ok : goal.returns-clause-ok
returns-clause-ok g c =
    subst (λ l. Puts (g.S.Sink.contents c.args.out.now) (g.S.Sink.contents c.loop-line.out) c.args.page.now.items
    c.loop-line.page.items (flat_map (λ line. ended (g.L.PageLine.text line)) l))
    (take_all c.loop-line.line-index c.args.lines.now (omega arith)) c.loop-line.invariant.put
