-- The quotient is that of the definition, its divisor is not 0, and it is small.
use Rattle.std.proofs.Common.{◌≡◌, ◌∙◌, ◌*◌, ◌/◌, ◌^◌, pos, w64, ap, subst, arith}
use Rattle.std.proofs.lemmas.Int.{to_z_pos}
use Rattle.mesh_defs.specs.HeightField.{HeightField, IsHeightField}
use Rattle.mesh_defs.specs.BoundingBox.{point}
use Rattle.mesh_defs.specs.Triangle.{corners_of}
use Rattle.mesh_laws.proofs.DescentLemmas.{IsAddress-level}
use Rattle.mesh_measure.specs.Facet.{IsFacet}
use Rattle.mesh_measure.proofs.AreaLemmas.{IsInSquare-largest, product-small, plane_height-facet, area-some}
use Rattle.mesh_measure.proofs.RowLemmas.{plane-small}
use Rattle.mesh_measure.proofs.facet.plane_height.Goals as goal

pub of-areas-requires-clause-point_in_grid : goal.of-areas-requires-clause-point_in_grid
of-areas-requires-clause-point_in_grid c =
    let valid = subst (λ (g : HeightField). IsFacet g.n g.heights c.facet_of-facet.result) c.grid.ensures.value
    c.facet_of-facet.ensures.valid in
    IsInSquare-largest c.args.w.now.n c.args.x c.args.y valid.in_grid c.requires.x_in_grid c.requires.y_in_grid

pub overflow_mul-height : goal.overflow_mul-height
overflow_mul-height c =
    let small = product-small c.side.result c.weighted.result c.facet_of-facet.result.area c.side.ensures.small
    c.weighted.ensures.small in
    let less = small.0 in omega arith

pub nonzero_div-height : goal.nonzero_div-height
nonzero_div-height c =
    let valid = subst (λ (g : HeightField). IsFacet g.n g.heights c.facet_of-facet.result) c.grid.ensures.value
    c.facet_of-facet.ensures.valid in
    let corners = subst (λ (g : HeightField). c.facet_of-facet.result.corners ≡ corners_of g.n c.args.t)
    c.grid.ensures.value c.facet_of-facet.ensures.corners in
    area-some c.args.w.now.n c.args.w.now.heights c.args.t c.facet_of-facet.result
    (let low = c.number-address.ensures.low in omega arith)
    c.requires.level valid corners

pub overflow_cast-result : goal.overflow_cast-result
overflow_cast-result c =
    let small = product-small c.side.result c.weighted.result c.facet_of-facet.result.area c.side.ensures.small
    c.weighted.ensures.small in
    let less = small.1 in omega arith

pub returns : goal.returns
returns c =
    let n = c.args.w.now.n in
    let heights = c.args.w.now.heights in
    let facet = c.facet_of-facet.result in
    let valid =
    subst (λ (g : HeightField). IsFacet g.n g.heights facet) c.grid.ensures.value c.facet_of-facet.ensures.valid in
    let corners = subst (λ (g : HeightField). facet.corners ≡ corners_of g.n c.args.t) c.grid.ensures.value
    c.facet_of-facet.ensures.corners in
    let small =
    product-small c.side.result c.weighted.result facet.area c.side.ensures.small c.weighted.ensures.small in
    let same : c.n.result ≡ n = c.n.ensures.value ∙ ap (λ (g : HeightField). g.n) c.grid-2.ensures.value in
    let quotient = plane_height-facet n heights c.args.t facet
    (point c.args.x c.args.y) c.of-areas.result c.side.result c.weighted.result
    valid corners c.of-areas.ensures.value (c.side.ensures.value ∙ ap (λ k. 2 ^ k) same) c.weighted.ensures.value in
    let less = small.1 in
    let grid : IsHeightField c.args.w.now = c.grid.ensures.valid in
    let low = c.number-address.ensures.low in
    let address = IsAddress-level n c.args.t (omega (arith, c.number-address.ensures.value)) c.requires.level in
    let plane = plane-small n heights c.args.t c.args.w.now.maxval (point c.args.x c.args.y) address grid.n_high
    grid.maxval_high grid.bounded c.requires.held in record {
      value = to_z_pos w64 (c.side.result * c.weighted.result / facet.area) (omega arith) ∙ ap pos quotient;
      small = omega arith;
    }
