use Rattle.std.proofs.Common.{rules, sym, ap, ◌∙◌, FitsSigned, w64, int_lt, pos}
use Rattle.std.proofs.lemmas.Int.{to_z-of_z}
use Rattle.cull_marks.specs.Cuboid.{as_box}
use Rattle.cull_marks.proofs.CornerLemmas.{all_outside-far}
use Rattle.cull_marks.proofs.plane.Plane.leaves_out.Goals as goal

pub returns : goal.returns
returns c =
    let box = c.args.cuboid.now in
    let value_fits : FitsSigned w64 c.farthest_inside.result = search rules in
    let by_corner = all_outside-far c.args.self.now (as_box box)
    (record { x = box.x_ordered; y = box.y_ordered; z = box.z_ordered }) in
    simp to_z-of_z (ap (λ v. int_lt v (pos 0)) c.farthest_inside.ensures ∙ sym by_corner)
