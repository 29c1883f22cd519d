use Rattle.std.proofs.Common.{◌+◌, ◌^◌, ◌<◌, ◌≤◌, arith, sym, subst, slice_index_or}
use Rattle.wedgie_tree.specs.declared.wedge.Wedge.{Wedge}
use Rattle.wedgie_tree.specs.Table.{IsWedge, kept_levels}
use Rattle.wedgie_tree.proofs.table.entry.Goals as goal

pub bounds-table-number : goal.bounds-table-number
bounds-table-number c =
    let low : 2 ≤ c.args.tri = omega arith in
    let place : c.args.tri < 2 ^ (kept_levels c.args.grid.now.n + 1) =
    (c.level_laws.ensures.below c.args.tri (kept_levels c.args.grid.now.n) low).0 c.requires.kept in
    let count = c.requires.table.count in
    omega arith

pub returns : goal.returns
returns c =
    let unused : Wedge = record { thickness = 0; low = 0; high = 0 } in
    subst (λ i. IsWedge c.args.grid.now c.args.tri (slice_index_or c.args.table.now i unused))
    (sym c.number.ensures.value)
    (c.requires.table.each c.args.tri (record { low = omega arith; coarse = c.requires.kept }) unused)
