-- No other points of the page are loaded.
use Rattle.std.proofs.Common.{subst, arith}
use Rattle.page_store.specs.Store.{IsTable}
use Rattle.page_store.proofs.AgreementLemmas.{agreed-all}
use Rattle.page_store.proofs.table.Table.differing_on_grid.Goals as goal

pub returns-clause-none : goal.returns-clause-none
returns-clause-none c =
    let i : IsTable c.args.self.now = subst IsTable c.self.view_is c.self.invariant in
    λ _. agreed-all c.args.self.now i c.args.q c.args.square c.args.grid.now.heights c.requires.finer
    c.requires.missing c.loop-side.invariant.0 (λ side less. c.loop-side.invariant.1 side
    (omega (arith, c.loop-side-test.false)))
