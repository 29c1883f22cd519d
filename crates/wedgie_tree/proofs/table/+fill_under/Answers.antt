use Rattle.std.proofs.Common.{◌^◌, ◌+◌, ◌<◌, ◌≤◌, arith}
use Rattle.mesh_defs.specs.Triangle.{level_of}
use Rattle.wedgie_tree.specs.Table.{IsWedge, kept_levels}
use Rattle.wedgie_tree.proofs.TableLemmas.{AllUnder-filled, HasEntry-set}
use Rattle.wedgie_tree.proofs.table.+fill_under.Goals as goal

pub returns-clause-under : goal.returns-clause-under
returns-clause-under t c =
    let low : 2 ≤ c.args.tri = omega arith in
    let coarse : level_of c.args.tri < kept_levels c.args.grid.now.n = omega arith in
    let place : c.args.tri < 2 ^ (kept_levels c.args.grid.now.n + 1) =
    (c.level_laws.ensures.below c.args.tri (kept_levels c.args.grid.now.n) low).0 coarse in
    AllUnder-filled c.args.grid.now (kept_levels c.args.grid.now.n) c.args.tri c.left.result c.right.result
    c.number.result c.fill_under-left.new.table
    c.fill_under-right.new.table c.over-wedge.result c.left.ensures.value c.right.ensures.value c.left.ensures.level
    c.right.ensures.level coarse c.fill_under-left.ensures.under c.fill_under-right.ensures.others
    c.fill_under-right.ensures.under
    c.number.ensures.value (omega arith) c.over-wedge.ensures

pub returns-clause-others : goal.returns-clause-others
returns-clause-others t c =
    let low : 2 ≤ c.args.tri = omega arith in
    let place : c.args.tri < 2 ^ (kept_levels c.args.grid.now.n + 1) =
    (c.level_laws.ensures.below c.args.tri (kept_levels c.args.grid.now.n) low).0 (omega arith) in
    let wedge : IsWedge c.args.grid.now c.number.result c.over-wedge.result =
    rw c.number.ensures.value c.over-wedge.ensures in
    λ a has. HasEntry-set c.args.grid.now c.fill_under-right.new.table c.number.result c.over-wedge.result (omega arith)
    wedge a (c.fill_under-right.ensures.others a (c.fill_under-left.ensures.others a has))

pub bounds-table-number : goal.bounds-table-number
bounds-table-number t c =
    let low : 2 ≤ c.args.tri = omega arith in
    let place : c.args.tri < 2 ^ (kept_levels c.args.grid.now.n + 1) =
    (c.level_laws.ensures.below c.args.tri (kept_levels c.args.grid.now.n) low).0 (omega arith) in
    omega arith
