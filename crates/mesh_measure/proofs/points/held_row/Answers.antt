-- The columns that the triangle holds lie in the row, and along them the line of its plane is small.
use Rattle.std.proofs.Common.{◌≡◌, ◌-◌, ◌^◌, ◌≤◌, true, refl, subst, arith, pow_mono}
use Rattle.mesh_defs.specs.Thickness.{height_of}
use Rattle.mesh_defs.specs.BoundingBox.{is_in_closed}
use Rattle.bintree_laws.proofs.LatticeLemmas.{same_point}
use Rattle.mesh_measure.specs.Line.{line_at}
use Rattle.mesh_measure.proofs.MostLemmas.{columns-within}
use Rattle.mesh_measure.proofs.LineLemmas.{line-shifted, sums-small-on}
use Rattle.mesh_measure.proofs.points.held_row.Goals as goal

pub held_columns-columns-requires-clause-row : goal.held_columns-columns-requires-clause-row
held_columns-columns-requires-clause-row c =
    let side : 2 ^ c.args.grid.now.n ≤ 2 ^ 14 = pow_mono c.requires.facet.in_grid in
    let row = c.requires.y_in_grid in
    omega arith

pub returns-then-columns-clause-none : goal.returns-then-columns-clause-none
returns-then-columns-clause-none c r p =
    let empty = c.if-columns.true in
    let same = same_point r.x r.y r.x c.args.y refl p.row in
    let column = (c.held_columns-columns.ensures r.x).1 (
      (p.from, p.before),
      subst (λ q. is_in_closed c.args.facet.corners q ≡ true) same p.held,
    ) in
    omega arith

pub line_in-line-requires-clause-x_in_grid : goal.line_in-line-requires-clause-x_in_grid
line_in-line-requires-clause-x_in_grid c =
    let end =
    columns-within c.args.facet.corners c.args.y c.args.left c.args.right c.held_columns-columns.result
    c.if-columns.false c.held_columns-columns.ensures in
    let side : 2 ^ c.args.grid.now.n ≤ 2 ^ 14 = pow_mono c.requires.facet.in_grid in
    let right = c.requires.right_in_grid in
    let less = c.if-columns.false in
    omega arith

pub line_in-line-requires-clause-y_in_grid : goal.line_in-line-requires-clause-y_in_grid
line_in-line-requires-clause-y_in_grid c =
    let side : 2 ^ c.args.grid.now.n ≤ 2 ^ 14 = pow_mono c.requires.facet.in_grid in
    let row = c.requires.y_in_grid in
    omega arith

pub returns-clause-some : goal.returns-clause-some
returns-clause-some c =
    let f = height_of c.args.grid.now.n c.args.grid.now.heights in
    let plane = c.args.plane in
    let small = c.requires.plane.small in
    let columns = c.held_columns-columns.result in
    let held = c.held_columns-columns.ensures in
    let end = columns-within c.args.facet.corners c.args.y c.args.left c.args.right columns c.if-columns.false held in
    let side : 2 ^ c.args.grid.now.n ≤ 2 ^ 14 = pow_mono c.requires.facet.in_grid in
    let right = c.requires.right_in_grid in
    let row = c.requires.y_in_grid in
    let less = c.if-columns.false in
    record {
      ordered = less;
      within = end;
      held = held;
      lined = line-shifted c.args.facet.corners f c.args.y columns.from (line_at plane c.args.y) c.line_in-line.result
          (c.requires.plane.line c.args.y) c.line_in-line.ensures.high c.line_in-line.ensures.low
          c.line_in-line.ensures.rise c.line_in-line.ensures.fall;
      high = sums-small-on plane.high c.args.y plane.up columns.from plane.rise c.line_in-line.result.high
          (columns.end - columns.from) c.line_in-line.result.rise small.high (omega arith) small.up (omega arith)
          small.rise c.line_in-line.ensures.high c.line_in-line.ensures.rise;
      low = sums-small-on plane.low c.args.y plane.down columns.from plane.fall c.line_in-line.result.low
          (columns.end - columns.from) c.line_in-line.result.fall small.low (omega arith) small.down (omega arith)
          small.fall c.line_in-line.ensures.low c.line_in-line.ensures.fall;
    }
