-- All four were looked at.
use Rattle.std.proofs.Common.{arith}
use Rattle.page_store.proofs.AgreementLemmas.{beside-side}
use Rattle.page_store.proofs.table.Table.lacks_beside.Goals as goal

pub returns-clause-no : goal.returns-clause-no
returns-clause-no c = λ _ u tile beside.
    let b = beside-side c.args.square u beside in
    c.loop-side.invariant b.0 u (omega (arith, b.1, c.loop-side-test.false)) b.2 tile
