-- A square more, and all of them.
use Rattle.std.proofs.Common.{◌||◌, ◌≡◌, arith}
use Rattle.page_store.proofs.EditLemmas.{raised-sized, raised-due, row-step, found-then, found-else}
use Rattle.page_store.proofs.edits.Raise.row.Goals.{then-square, else-square}
use Rattle.page_store.proofs.edits.Raise.row.Goals as goal

pub square-requires-clause-sized : goal.square-requires-clause-sized
square-requires-clause-sized c = raised-sized c.loop-x.invariant c.requires.sized

pub loop-x-preserved : goal.loop-x-preserved
loop-x-preserved c =
    let found : c.if-square.found ≡ c.loop-x.found || c.square.result = elim c.if-square.branch [
      | then-square w ↦ found-then _ _ _ w.found-is w.if-square.true
      | else-square w ↦ found-else _ _ _ w.found-is w.if-square.false
    ] in
    row-step c.loop-x.invariant c.square.ensures.raised
    (let first = c.span-first.ensures.first in omega (arith, c.loop-x.auto.x))
    (let end = c.span-first.ensures.end in omega (arith, c.loop-x-test.true)) found

pub returns : goal.returns
returns c = record {
  raised = raised-due c.loop-x.invariant _
      (λ q t i. (i.0, i.1, i.2, i.3, let end = c.span-first.ensures.end in omega (arith, i.3, c.loop-x-test.false)))
      (λ q t i. (i.0, i.1, i.2, i.3));
}
