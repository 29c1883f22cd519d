-- There are four squares in a square.
use Rattle.std.proofs.Common.{◌+◌, ◌-◌, ◌*◌, ◌/◌, ◌%◌, ap, sym, ◌∙◌, arith, is_some}
use Rattle.page_store.specs.Store.{page_at}
use Rattle.page_store.proofs.UnloadLemmas.{in-square, four-above, copied-loaded}
use Rattle.page_store.proofs.table.Table.has_finer.Goals as goal

pub returns-clause-no : goal.returns-clause-no
returns-clause-no c = λ _ u above.
    ap (λ z. is_some (page_at c.args.self.now (c.args.q - 1) z)) (in-square c.args.square u above)
    ∙ c.loop-k.invariant (2 * (u.y % 2) + u.x % 2) (omega (arith, c.loop-k-test.false))

pub returns-then-is_some-clause-yes : goal.returns-then-is_some-clause-yes
returns-then-is_some-clause-yes c = λ _. (
  record { x = 2 * c.args.square.x + c.loop-k.k % 2; y = 2 * c.args.square.y + c.loop-k.k / 2 },
  ap is_some (sym c.page.ensures.value) ∙ copied-loaded c.page.result ∙ sym c.is_some.ensures ∙ c.if-is_some.true,
  four-above c.args.square c.loop-k.k (omega arith),
)
