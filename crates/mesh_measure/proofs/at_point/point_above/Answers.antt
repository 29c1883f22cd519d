-- One row more; and the rows of the rectangle have all points that the triangle holds.
use Rattle.std.proofs.Common.{◌≡◌, ◌∙◌, ℕ, ◌^◌, ◌<◌, ◌≤◌, true, sym, ap, subst, arith, ⊎_elim}
use Rattle.std.proofs.lemmas.Bool.{cases_lt}
use Rattle.mesh_defs.specs.declared.point.Corners.{Corners}
use Rattle.mesh_defs.specs.Triangle.{IsAddress, corners_of}
use Rattle.mesh_defs.specs.BoundingBox.{point, points_of, is_in_closed, holds_point}
use Rattle.mesh_defs.proofs.PointLemmas.{greatest-le}
use Rattle.fit_laws.specs.PlaneHeight.{off_plane}
use Rattle.mesh_laws.proofs.DescentLemmas.{IsAddress-level}
use Rattle.mesh_measure.specs.Above.{IsAbove}
use Rattle.mesh_measure.specs.Most.{IsInBounds}
use Rattle.mesh_measure.proofs.BoxLemmas.{IsInBounds-held}
use Rattle.mesh_measure.proofs.ErrorLemmas.{bounds-in_grid}
use Rattle.mesh_measure.proofs.at_point.point_above.Goals as goal

pub loop-y-preserved : goal.loop-y-preserved
loop-y-preserved c k j left right low below is = ⊎_elim
    (λ (less : j < c.loop-y.y). c.loop-y.invariant k j left right low less is)
    (λ (last : c.loop-y.y ≤ j).
    let same : j ≡ c.loop-y.y = omega arith in
    c.in_default.ensures.none k left right
    (subst (λ z. IsAbove c.args.grid.now.n c.args.grid.now.heights c.args.t c.args.tolerance (point k z)) same is))
    (cases_lt j c.loop-y.y)

pub returns-clause-none : goal.returns-clause-none
returns-clause-none c =
    let n : ℕ = c.args.grid.now.n in
    let heights = c.args.grid.now.heights in
    let t : ℕ = c.args.t in
    let corners : Corners = c.corners.result in
    let bounds = c.bounds_of-bounds.result in
    let low : 2 ≤ t = omega arith in
    let address : IsAddress n t = IsAddress-level n t low c.requires.level in
    let at : corners ≡ corners_of n t = c.corners.ensures.value ∙ ap (λ k. corners_of k t) c.n.ensures.value in
    let b = c.bounds_of-bounds.ensures in
    let in_grid = bounds-in_grid n t corners bounds at b in
    greatest-le c.args.tolerance (off_plane n heights t) (holds_point n t) (λ r held. ⊎_elim
    (λ (above : c.args.tolerance < off_plane n heights t r).
    let box : IsInBounds corners bounds r =
    IsInBounds-held n t corners bounds r address at b
    (subst (λ (d : Corners). is_in_closed d r ≡ true) (sym at) held) in
    let right = box.right in
    let high = box.high in
    let wide = in_grid.0 in
    let tall = in_grid.1 in
    let column : r.x ≤ 2 ^ n = omega arith in
    let row : r.y ≤ 2 ^ n = omega arith in
    let before : r.y < c.loop-y.y = omega arith in
    absurd (c.loop-y.invariant r.x r.y box.left box.right box.low before
    (record { column = column; row = row; held = held; above = above })))
    (λ (fits : off_plane n heights t r ≤ c.args.tolerance). fits)
    (cases_lt c.args.tolerance (off_plane n heights t r))) (points_of n)
