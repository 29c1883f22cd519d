-- A row more, and all of them.
use Rattle.std.proofs.Common.{◌||◌, ◌≡◌, arith}
use Rattle.page_store.proofs.EditLemmas.{raised-due, level-step, near-end, found-then, found-else}
use Rattle.page_store.proofs.edits.Raise.level.Goals.{then-row, else-row}
use Rattle.page_store.proofs.edits.Raise.level.Goals as goal

pub loop-y-preserved : goal.loop-y-preserved
loop-y-preserved c =
    let found : c.if-row.found ≡ c.loop-y.found || c.row.result = elim c.if-row.branch [
      | then-row w ↦ found-then _ _ _ w.found-is w.if-row.true
      | else-row w ↦ found-else _ _ _ w.found-is w.if-row.false
    ] in
    level-step (omega arith) c.loop-y.invariant c.row.ensures.raised
    (let first = c.span-first.ensures.first in omega (arith, c.loop-y.auto.y))
    (let end = c.span-first.ensures.end in omega (arith, c.loop-y-test.true)) found

pub returns : goal.returns
returns c = record {
  raised = raised-due c.loop-y.invariant _
      (λ q t i. (
        i.0,
        i.1,
        let less = near-end _ _ c.args.q q _ _ t (omega arith) c.span-first.ensures.end i.0 i.1 in
            omega (arith, c.loop-y-test.false),
      ))
      (λ q t i. (i.0, i.1));
}
