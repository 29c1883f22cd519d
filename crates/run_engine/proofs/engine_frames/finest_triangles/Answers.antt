use Rattle.std.proofs.Common.{ℕ, ◌^◌, ◌≤◌, ◌<◌, arith}
use Rattle.std.proofs.Math.Nat.{pow-le-pow_right}
use Rattle.run_engine.proofs.engine_frames.finest_triangles.Goals as goal

-- a power of 4 up to the fourteenth
within : (n : ℕ) → n ≤ 14 → 4 ^ n ≤ 268435456
within n small =
    let high : 4 ^ n ≤ 4 ^ 14 = pow-le-pow_right {n = 4} (let h : 0 < 4 = omega arith in h) small in
    omega arith

pub pow-requires : goal.pow-requires
pow-requires c = let bound = within c.args.n c.requires.in_grid in omega arith

pub overflow_mul-result : goal.overflow_mul-result
overflow_mul-result c = let bound = within c.args.n c.requires.in_grid in omega arith
