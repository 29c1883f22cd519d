use Rattle.std.proofs.Common.{rules, FitsSigned, w64}
use Rattle.std.proofs.lemmas.Int.{to_z-of_z}
use Rattle.cull_marks.specs.Cuboid.{as_box}
use Rattle.cull_marks.proofs.CornerLemmas.{far_value-by_ends}
use Rattle.cull_marks.proofs.plane.Plane.farthest_inside.Goals as goal

pub returns : goal.returns
returns c =
    let p = c.self.inside in
    let box = c.args.cuboid.now in
    let a_fits : FitsSigned w64 p.a = search rules in
    let b_fits : FitsSigned w64 p.b = search rules in
    let c_fits : FitsSigned w64 p.c = search rules in
    let x0_fits : FitsSigned w64 box.x0 = search rules in
    let x1_fits : FitsSigned w64 box.x1 = search rules in
    let y0_fits : FitsSigned w64 box.y0 = search rules in
    let y1_fits : FitsSigned w64 box.y1 = search rules in
    let z0_fits : FitsSigned w64 box.z0 = search rules in
    let z1_fits : FitsSigned w64 box.z1 = search rules in
    let x_fits : FitsSigned w64 c.end_along-x.result = search rules in
    let y_fits : FitsSigned w64 c.end_along-y.result = search rules in
    let z_fits : FitsSigned w64 c.end_along-z.result = search rules in
    let value_fits : FitsSigned w64 c.value_at.result = search rules in
    let x_is = simp to_z-of_z at c.end_along-x.ensures.value in
    let y_is = simp to_z-of_z at c.end_along-y.ensures.value in
    let z_is = simp to_z-of_z at c.end_along-z.ensures.value in
    let value_is = simp to_z-of_z at c.value_at.ensures in
    simp to_z-of_z (far_value-by_ends _ _ (as_box box) _ _ _ _ c.self.view_is x_is y_is z_is value_is)
