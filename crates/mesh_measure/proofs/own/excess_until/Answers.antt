-- A row more, until a gap is beyond the tolerance of its point.
use Rattle.std.proofs.Common.{ℕ, ◌+◌, ◌^◌, ◌≤◌, sym, subst, arith}
use Rattle.mesh_defs.specs.declared.point.Point.{Point}
use Rattle.mesh_defs.specs.Thickness.{height_of}
use Rattle.mesh_measure.specs.Most.{gap_beyond, IsMost, IsInRows}
use Rattle.mesh_measure.proofs.MostLemmas.{IsMost-rows_next, IsMostUntil-all, IsMostUntil-some}
use Rattle.mesh_measure.proofs.own.excess_until.Goals as goal

pub loop-y-preserved : goal.loop-y-preserved
loop-y-preserved c =
    let n : ℕ = c.args.grid.now.n in
    let f : Point → ℕ = gap_beyond (2 ^ n) c.args.facet.corners (height_of n c.args.grid.now.heights)
    (height_of n c.args.tolerances.now) in
    let from : c.args.bounds.low ≤ c.loop-y.y = omega arith in
    subst (λ z. IsMost (IsInRows c.args.facet.corners c.args.bounds (c.loop-y.y + 1)) f z) (sym c.greater-most.ensures)
    (IsMost-rows_next c.args.facet.corners c.args.bounds c.loop-y.y f c.loop-y.most c.row_excess-row.result from
    c.loop-y.invariant c.row_excess-row.ensures)

pub returns-then-most-gt0 : goal.returns-then-most-gt0
returns-then-most-gt0 c =
    let n : ℕ = c.args.grid.now.n in
    let f : Point → ℕ = gap_beyond (2 ^ n) c.args.facet.corners (height_of n c.args.grid.now.heights)
    (height_of n c.args.tolerances.now) in
    let from : c.args.bounds.low ≤ c.loop-y.y = omega arith in
    IsMostUntil-some c.args.facet.corners c.args.bounds f 0 (c.loop-y.y + 1) c.greater-most.result
    (omega arith) c.if-most-gt0.true
    (subst (λ z. IsMost (IsInRows c.args.facet.corners c.args.bounds (c.loop-y.y + 1)) f z) (sym c.greater-most.ensures)
    (IsMost-rows_next c.args.facet.corners c.args.bounds c.loop-y.y f c.loop-y.most c.row_excess-row.result from
    c.loop-y.invariant c.row_excess-row.ensures))

pub returns : goal.returns
returns c =
    let n : ℕ = c.args.grid.now.n in
    let ordered = c.requires.ordered in
    let end : c.loop-y.y ≤ c.args.bounds.high + 1 = c.loop-y.auto.y-end (omega arith) in
    IsMostUntil-all c.args.facet.corners c.args.bounds
    (gap_beyond (2 ^ n) c.args.facet.corners (height_of n c.args.grid.now.heights) (height_of n c.args.tolerances.now))
    0 c.loop-y.y c.loop-y.most (omega arith) end c.loop-y.invariant

pub row_excess-row-requires-clause-plane : goal.row_excess-row-requires-clause-plane
row_excess-row-requires-clause-plane c =
    let f = height_of c.args.grid.now.n c.args.grid.now.heights in
    let valid = c.requires.facet in
    record {
      line = λ y. c.plane_of-plane.ensures.line f y (record { apex = valid.apex; v0 = valid.v0; v1 = valid.v1 });
      small = c.plane_of-plane.ensures.small;
    }
