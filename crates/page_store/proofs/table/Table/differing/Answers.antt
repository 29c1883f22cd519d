-- Each point of a page lies in the terrain.
use Rattle.std.proofs.Common.{◌+◌, ◌-◌, ◌*◌, ◌^◌, ◌≤◌, ap, sym, subst, arith}
use Rattle.page_store.specs.Store.{Store, IsTable}
use Rattle.page_store.proofs.AgreementLemmas.{terrain-small}
use Rattle.page_store.proofs.table.Table.differing.Goals as goal

pub on_terrain-requires-clause-column : goal.on_terrain-requires-clause-column
on_terrain-requires-clause-column c =
    let i : IsTable c.args.self.now = subst IsTable c.self.view_is c.self.invariant in
    subst (λ n. 2 ^ n * c.args.square.x + c.in_ok-point.point.x ≤ 2 ^ (14 - c.args.q))
    (sym (ap (λ (s : Store). s.n) c.self.view_is))
    (terrain-small c.args.self.now i c.args.q c.args.square.x c.in_ok-point.point.x (omega (arith, c.requires.finer))
    c.requires.in_square.column c.in_ok-point.ensures.some.inside.x)

pub on_terrain-requires-clause-row : goal.on_terrain-requires-clause-row
on_terrain-requires-clause-row c =
    let i : IsTable c.args.self.now = subst IsTable c.self.view_is c.self.invariant in
    subst (λ n. 2 ^ n * c.args.square.y + c.in_ok-point.point.y ≤ 2 ^ (14 - c.args.q))
    (sym (ap (λ (s : Store). s.n) c.self.view_is))
    (terrain-small c.args.self.now i c.args.q c.args.square.y c.in_ok-point.point.y (omega (arith, c.requires.finer))
    c.requires.in_square.row c.in_ok-point.ensures.some.inside.y)
