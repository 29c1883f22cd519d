-- The greatest gap beyond the tolerances along the columns that the triangle holds.
use Rattle.std.proofs.Common.{◌^◌, sym, ◌∙◌, ap}
use Rattle.mesh_defs.specs.Thickness.{height_of}
use Rattle.mesh_measure.proofs.MostLemmas.{IsMost-excesses}
use Rattle.mesh_measure.proofs.own.row_excess.Goals as goal

pub returns-in-Some : goal.returns-in-Some
returns-in-Some c =
    let n = c.args.grid.now.n in
    IsMost-excesses c.args.facet.corners (height_of n c.args.grid.now.heights) (height_of n c.args.tolerances.now)
    c.args.y c.args.left c.args.right c.args.facet.area (2 ^ n) c.side-side.result c.in-Some.row
    c.row_of-heights.result.now c.tolerances_of-allowed.result.now c.greatest_excess.result c.requires.facet.area
    (c.side-side.ensures.value ∙ ap (λ k. 2 ^ k) c.n.ensures.value) c.in-Some.ensures.some
    c.row_of-heights.ensures.count (c.tolerances_of-allowed.ensures.count ∙ sym c.row_of-heights.ensures.count)
    c.row_of-heights.ensures.heights c.tolerances_of-allowed.ensures.tolerances c.greatest_excess.ensures
