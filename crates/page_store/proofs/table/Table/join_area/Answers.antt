-- Up to the coarsest page.
use Rattle.std.proofs.Common.{◌≡◌, ap, arith}
use Rattle.page_store.specs.Store.{Store}
use Rattle.page_store.proofs.RejoinLemmas.{all-done}
use Rattle.page_store.proofs.table.Table.join_area.Goals as goal

pub returns-clause-joined : goal.returns-clause-joined
returns-clause-joined c =
    let large : c.self.inside.large ≡ c.args.self.now.large = ap (λ (s : Store). s.large) c.self.view_is in
    let n : c.self.inside.n ≡ c.args.self.now.n = ap (λ (s : Store). s.n) c.self.view_is in
    let i = c.loop-q.invariant in
    let same-large = i.grids.large in
    let same-n = i.grids.n in
    all-done c.loop-q.self _ c.loop-q.q i.valid.fits (omega (arith, c.loop-q-test.false)) i.joined
