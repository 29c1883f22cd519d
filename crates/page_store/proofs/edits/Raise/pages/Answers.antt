-- A resolution more, and all of them.
use Rattle.std.proofs.Common.{◌||◌, ◌≡◌, arith}
use Rattle.page_store.proofs.EditLemmas.{raised-due, pages-step, found-then, found-else}
use Rattle.page_store.proofs.edits.Raise.pages.Goals.{then-level, else-level}
use Rattle.page_store.proofs.edits.Raise.pages.Goals as goal

pub loop-q-preserved : goal.loop-q-preserved
loop-q-preserved c =
    let found : c.if-level.found ≡ c.loop-q.found || c.level.result = elim c.if-level.branch [
      | then-level w ↦ found-then _ _ _ w.found-is w.if-level.true
      | else-level w ↦ found-else _ _ _ w.found-is w.if-level.false
    ] in
    pages-step c.loop-q.invariant c.level.ensures.raised found

pub returns : goal.returns
returns c = record {
  raised = raised-due c.loop-q.invariant _
      (λ q t i. (omega (arith, i.0, c.loop-q-test.false), i.1))
      (λ q t i. (omega (arith, i.0, c.loop-q.auto.q-end), i.1));
}
