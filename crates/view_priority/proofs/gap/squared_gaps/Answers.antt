use Rattle.std.proofs.lemmas.Grind.{common_steps}
use Rattle.std.proofs.Common.{rules, FitsSigned, w64, arith}
use Rattle.std.proofs.lemmas.Int.{to_z-of_z}
use Rattle.cull_marks.specs.Cuboid.{as_box}
use Rattle.view_priority.proofs.RootLemmas.{squared_distance-by_gaps}
use Rattle.view_priority.proofs.gap.squared_gaps.Goals as goal

pub returns-clause-value : goal.returns-clause-value
returns-clause-value c =
    let box = c.args.c.now in
    let x_fits : FitsSigned w64 c.x.result = search rules in
    let y_fits : FitsSigned w64 c.y.result = search rules in
    let z_fits : FitsSigned w64 c.z.result = search rules in
    let x0_fits : FitsSigned w64 box.x0 = search rules in
    let x1_fits : FitsSigned w64 box.x1 = search rules in
    let y0_fits : FitsSigned w64 box.y0 = search rules in
    let y1_fits : FitsSigned w64 box.y1 = search rules in
    let z0_fits : FitsSigned w64 box.z0 = search rules in
    let z1_fits : FitsSigned w64 box.z1 = search rules in
    squared_distance-by_gaps (as_box box) c.args.camera.now _ _ _ _ _ _ c.x.ensures.value c.y.ensures.value
    c.z.ensures.value (simp to_z-of_z at c.gap_to-x.ensures.value) (simp to_z-of_z at c.gap_to-y.ensures.value)
    (simp to_z-of_z at c.gap_to-z.ensures.value)

pub overflow_add-result : goal.overflow_add-result
overflow_add-result c = grind (arith, common_steps)

pub overflow_add-result-2 : goal.overflow_add-result-2
overflow_add-result-2 c = grind (arith, common_steps)

pub returns-clause-bounded : goal.returns-clause-bounded
returns-clause-bounded c = grind (arith, common_steps)
