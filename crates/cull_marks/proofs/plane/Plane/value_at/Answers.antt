use Rattle.std.proofs.lemmas.Grind.{common_steps}
use Rattle.std.proofs.Common.{◌*ℤ◌, ◌+ℤ◌, arith, FitsSigned, w64}
use Rattle.std.proofs.lemmas.Int.{ints, to_z-of_z}
use Rattle.cull_marks.proofs.SlopeLemmas.{product_small, small_fits}
use Rattle.cull_marks.proofs.plane.Plane.value_at.Goals as goal

pub overflow_add-result-2 : goal.overflow_add-result-2
overflow_add-result-2 c =
    let p = c.self.inside in
    let b_fits = small_fits p.b (omega arith) in
    let c_fits = small_fits p.c (omega arith) in
    let d_fits = small_fits p.d (omega arith) in
    let by = product_small p.b c.args.y c.self.invariant.b_small c.requires.y_reach in
    let cz = product_small p.c c.args.z c.self.invariant.c_small c.requires.z_reach in
    let by_fits = small_fits (p.b *ℤ c.args.y) (omega arith) in
    let cz_fits = small_fits (p.c *ℤ c.args.z) (omega arith) in
    let y_fits = c.ranges.y in
    let z_fits = c.ranges.z in
    let sum_fits : FitsSigned w64 ((p.c *ℤ c.args.z) +ℤ p.d) = omega (arith, ints) in
    simp to_z-of_z (omega (arith, ints))

pub overflow_add-result-3 : goal.overflow_add-result-3
overflow_add-result-3 c =
    let p = c.self.inside in
    let a_fits = small_fits p.a (omega arith) in
    let b_fits = small_fits p.b (omega arith) in
    let c_fits = small_fits p.c (omega arith) in
    let d_fits = small_fits p.d (omega arith) in
    let ax = product_small p.a c.args.x c.self.invariant.a_small c.requires.x_reach in
    let by = product_small p.b c.args.y c.self.invariant.b_small c.requires.y_reach in
    let cz = product_small p.c c.args.z c.self.invariant.c_small c.requires.z_reach in
    let ax_fits = small_fits (p.a *ℤ c.args.x) (omega arith) in
    let by_fits = small_fits (p.b *ℤ c.args.y) (omega arith) in
    let cz_fits = small_fits (p.c *ℤ c.args.z) (omega arith) in
    let x_fits = c.ranges.x in
    let y_fits = c.ranges.y in
    let z_fits = c.ranges.z in
    let last_fits : FitsSigned w64 ((p.c *ℤ c.args.z) +ℤ p.d) = omega (arith, ints) in
    let two_fit : FitsSigned w64 ((p.b *ℤ c.args.y) +ℤ ((p.c *ℤ c.args.z) +ℤ p.d)) = omega (arith, ints) in
    simp to_z-of_z (omega (arith, ints))

pub returns : goal.returns
returns c =
    let p = c.self.inside in
    let a_fits = small_fits p.a (omega arith) in
    let b_fits = small_fits p.b (omega arith) in
    let c_fits = small_fits p.c (omega arith) in
    let d_fits = small_fits p.d (omega arith) in
    let ax = product_small p.a c.args.x c.self.invariant.a_small c.requires.x_reach in
    let by = product_small p.b c.args.y c.self.invariant.b_small c.requires.y_reach in
    let cz = product_small p.c c.args.z c.self.invariant.c_small c.requires.z_reach in
    let ax_fits = small_fits (p.a *ℤ c.args.x) (omega arith) in
    let by_fits = small_fits (p.b *ℤ c.args.y) (omega arith) in
    let cz_fits = small_fits (p.c *ℤ c.args.z) (omega arith) in
    let x_fits = c.ranges.x in
    let y_fits = c.ranges.y in
    let z_fits = c.ranges.z in
    let last_fits : FitsSigned w64 ((p.c *ℤ c.args.z) +ℤ p.d) = omega (arith, ints) in
    let two_fit : FitsSigned w64 ((p.b *ℤ c.args.y) +ℤ ((p.c *ℤ c.args.z) +ℤ p.d)) = omega (arith, ints) in
    let all_fit : FitsSigned w64 ((p.a *ℤ c.args.x) +ℤ ((p.b *ℤ c.args.y) +ℤ ((p.c *ℤ c.args.z) +ℤ p.d))) =
    omega (arith, ints) in
    simp to_z-of_z (rw (← c.self.view_is))

pub overflow_mul-result : goal.overflow_mul-result
overflow_mul-result c = grind (arith, common_steps)

pub overflow_mul-result-2 : goal.overflow_mul-result-2
overflow_mul-result-2 c = grind (arith, common_steps)

pub overflow_mul-result-3 : goal.overflow_mul-result-3
overflow_mul-result-3 c = grind (arith, common_steps)

pub overflow_add-result : goal.overflow_add-result
overflow_add-result c = grind (arith, common_steps)
