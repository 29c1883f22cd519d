-- The gap at the point, times 2^n over twice the area, is how far the surface is from the plane.
use Rattle.std.proofs.Common.{◌≡◌, ◌∙◌, ℕ, ◌*◌, ◌/◌, ◌^◌, ◌≤◌, true, refl, sym, ap, subst, arith}
use Rattle.std.proofs.lemmas.Bool.{false≢true, both_ways}
use Rattle.mesh_defs.specs.declared.point.Corners.{Corners}
use Rattle.mesh_defs.specs.Triangle.{corners_of}
use Rattle.mesh_defs.specs.Thickness.{height_of}
use Rattle.mesh_defs.specs.BoundingBox.{point, is_in_closed}
use Rattle.fit_laws.specs.PlaneHeight.{area_of, off_plane}
use Rattle.mesh_laws.proofs.DescentLemmas.{IsAddress-level}
use Rattle.mesh_measure.specs.Most.{gap_of}
use Rattle.mesh_measure.proofs.AreaLemmas.{IsInSquare-largest, product, area-some}
use Rattle.mesh_measure.proofs.GapLemmas.{off_plane-quotient}
use Rattle.mesh_measure.proofs.at_point.off_point.Goals as goal

pub of-areas-requires-clause-point_in_grid : goal.of-areas-requires-clause-point_in_grid
of-areas-requires-clause-point_in_grid c =
    IsInSquare-largest c.args.grid.now.n c.args.x c.args.y c.facet_of-facet.ensures.valid.in_grid
    c.requires.x_in_grid c.requires.y_in_grid

pub returns-then-not-is_held-clause-held : goal.returns-then-not-is_held-clause-held
returns-then-not-is_held-clause-held c =
    let r = point c.args.x c.args.y in (
      λ h. absurd (false≢true h),
      λ held. absurd (both_ways (is_in_closed c.facet_of-facet.result.corners r)
          (sym (c.is_held.ensures c.facet_of-facet.result.corners r c.of-areas.ensures.value) ∙ c.if-not-is_held.true)
          (subst (λ (d : Corners). is_in_closed d r ≡ true) (sym c.facet_of-facet.ensures.corners) held)),
    )

pub overflow_mul-result : goal.overflow_mul-result
overflow_mul-result c =
    let small : c.side.result * c.gap-gap.result ≤ 16384 * 281474976710656 =
    product c.side.result c.gap-gap.result 16384 281474976710656 c.side.ensures.small c.gap-gap.ensures.small in
    omega arith

pub nonzero_div-result : goal.nonzero_div-result
nonzero_div-result c =
    area-some c.args.grid.now.n c.args.grid.now.heights c.args.t c.facet_of-facet.result (omega arith) c.requires.level
    c.facet_of-facet.ensures.valid c.facet_of-facet.ensures.corners

pub returns-clause-held : goal.returns-clause-held
returns-clause-held c =
    let r = point c.args.x c.args.y in (
      λ _. subst (λ (d : Corners). is_in_closed d r ≡ true) c.facet_of-facet.ensures.corners
          (sym (c.is_held.ensures c.facet_of-facet.result.corners r c.of-areas.ensures.value) ∙ c.if-not-is_held.false),
      λ _. refl,
    )

pub returns-clause-value : goal.returns-clause-value
returns-clause-value c =
    let n : ℕ = c.args.grid.now.n in
    let heights = c.args.grid.now.heights in
    let facet = c.facet_of-facet.result in
    let r = point c.args.x c.args.y in
    let low : 2 ≤ c.args.t = omega arith in
    let gap : c.gap-gap.result ≡ gap_of (corners_of n c.args.t) (height_of n heights) r =
    c.gap-gap.ensures.value ∙ ap (λ (d : Corners). gap_of d (height_of n heights) r) c.facet_of-facet.ensures.corners in
    subst (λ k. c.side.result * k / facet.area ≡ off_plane n heights c.args.t r) (sym gap)
    (off_plane-quotient n heights c.args.t r c.side.result facet.area (IsAddress-level n c.args.t low c.requires.level)
    (c.side.ensures.value ∙ ap (λ k. 2 ^ k) c.n.ensures.value)
    (c.facet_of-facet.ensures.valid.area ∙ ap area_of c.facet_of-facet.ensures.corners))
