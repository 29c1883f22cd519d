-- A row more, until a distance is above the limit.
use Rattle.std.proofs.Common.{ℕ, ◌+◌, ◌≤◌, sym, subst, arith}
use Rattle.mesh_defs.specs.declared.point.Point.{Point}
use Rattle.fit_laws.specs.PlaneHeight.{off_plane}
use Rattle.mesh_measure.specs.Most.{IsMost, IsInRows}
use Rattle.mesh_measure.proofs.MostLemmas.{IsMost-rows_next, IsMostUntil-all, IsMostUntil-some}
use Rattle.mesh_measure.proofs.points.most_until.Goals as goal

pub returns-then-most-limit : goal.returns-then-most-limit
returns-then-most-limit c =
    let f : Point → ℕ = off_plane c.args.grid.now.n c.args.grid.now.heights c.args.t in
    let from : c.args.bounds.low ≤ c.loop-y.y = omega arith in
    IsMostUntil-some c.args.facet.corners c.args.bounds f c.args.limit (c.loop-y.y + 1) c.farther-most.result
    (omega arith) c.if-most-limit.true
    (subst (λ z. IsMost (IsInRows c.args.facet.corners c.args.bounds (c.loop-y.y + 1)) f z) (sym c.farther-most.ensures)
    (IsMost-rows_next c.args.facet.corners c.args.bounds c.loop-y.y f c.loop-y.most c.row_off-row.result from
    c.loop-y.invariant c.row_off-row.ensures))

pub loop-y-preserved : goal.loop-y-preserved
loop-y-preserved c =
    let f : Point → ℕ = off_plane c.args.grid.now.n c.args.grid.now.heights c.args.t in
    let from : c.args.bounds.low ≤ c.loop-y.y = omega arith in
    subst (λ z. IsMost (IsInRows c.args.facet.corners c.args.bounds (c.loop-y.y + 1)) f z) (sym c.farther-most.ensures)
    (IsMost-rows_next c.args.facet.corners c.args.bounds c.loop-y.y f c.loop-y.most c.row_off-row.result from
    c.loop-y.invariant c.row_off-row.ensures)

pub returns : goal.returns
returns c =
    let ordered = c.requires.ordered in
    let end : c.loop-y.y ≤ c.args.bounds.high + 1 = c.loop-y.auto.y-end (omega arith) in
    IsMostUntil-all c.args.facet.corners c.args.bounds
    (off_plane c.args.grid.now.n c.args.grid.now.heights c.args.t) c.args.limit
    c.loop-y.y c.loop-y.most (omega arith) end c.loop-y.invariant
