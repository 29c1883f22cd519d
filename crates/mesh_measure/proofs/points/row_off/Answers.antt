-- The plane along the columns that the triangle holds, by its steps.
use Rattle.std.proofs.Common.{◌≡◌, ◌+◌, ◌^◌, ◌≤◌, true, refl, subst, arith, pow_mono}
use Rattle.mesh_defs.specs.BoundingBox.{is_in_closed}
use Rattle.bintree_laws.proofs.LatticeLemmas.{same_point}
use Rattle.fit_laws.specs.PlaneHeight.{off_plane}
use Rattle.mesh_measure.specs.Most.{IsInRow}
use Rattle.mesh_measure.proofs.MostLemmas.{IsMost-none, columns-within}
use Rattle.mesh_measure.proofs.RowLemmas.{row-most}
use Rattle.mesh_measure.proofs.points.row_off.Goals as goal

pub held_columns-columns-requires-clause-row : goal.held_columns-columns-requires-clause-row
held_columns-columns-requires-clause-row c =
    let side : 2 ^ c.args.grid.now.n ≤ 2 ^ 14 = pow_mono c.requires.facet.in_grid in
    let row = c.requires.y_in_grid in
    omega arith

pub returns-then-columns : goal.returns-then-columns
returns-then-columns c =
    IsMost-none (IsInRow c.args.facet.corners c.args.y c.args.left (c.args.right + 1))
    (off_plane c.args.grid.now.n c.args.grid.now.heights c.args.t) (λ r p.
    let empty = c.if-columns.true in
    let same = same_point r.x r.y r.x c.args.y refl p.row in
    let column = (c.held_columns-columns.ensures r.x).1 (
      (p.from, p.before),
      subst (λ q. is_in_closed c.args.facet.corners q ≡ true) same p.held,
    ) in
    omega arith)

pub row_of-requires-clause-end_in_grid : goal.row_of-requires-clause-end_in_grid
row_of-requires-clause-end_in_grid c =
    let end = columns-within c.args.facet.corners c.args.y c.args.left c.args.right c.held_columns-columns.result
    c.if-columns.false c.held_columns-columns.ensures in
    let right = c.requires.right_in_grid in
    omega arith

pub returns : goal.returns
returns c =
    let some = c.if-columns.false in
    row-most c.args.grid.now.n c.args.grid.now.heights c.args.t c.args.facet.corners c.args.y c.args.left c.args.right
    c.n-n.result c.height_at-at.result c.greatest_off.result c.args.slopes c.held_columns-columns.result c.row_of.result.now
    c.requires.corners c.n-n.ensures.value c.requires.slopes (omega arith) c.row_of.ensures.count
    c.held_columns-columns.ensures c.row_of.ensures.heights c.height_at-at.ensures c.greatest_off.ensures
