use Rattle.std.proofs.Common.{ℕ, ◌*◌, ◌^◌, ◌<◌, ◌≤◌, arith, mul-le-mul}
use Rattle.mesh_within.proofs.deviation.is_greater.Goals as goal

small-product : (i j : ℕ) → i < 2 ^ 64 → j < 2 ^ 32 → i * j < 2 ^ 128
small-product i j first second =
    let wide : i ≤ 2 ^ 64 = omega arith in
    let tall : j ≤ 2 ^ 32 = omega arith in
    let h : i * j ≤ 2 ^ 64 * 2 ^ 32 = mul-le-mul wide tall in
    omega arith

pub overflow_mul-here : goal.overflow_mul-here
overflow_mul-here c = record {
  fits = small-product c.from-first.result c.from-first_area.result (omega (arith, c.ranges.gap.fits)) (omega (arith, c.ranges.other_area.fits));
}

pub overflow_mul-there : goal.overflow_mul-there
overflow_mul-there c = record {
  fits = small-product c.from-second.result c.from-second_area.result (omega (arith, c.ranges.other_gap.fits)) (omega (arith, c.ranges.area.fits));
}
