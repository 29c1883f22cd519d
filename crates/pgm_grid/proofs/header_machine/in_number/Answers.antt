use Rattle.std.proofs.Common.{◌^◌, ◌≤◌, arith}
use Rattle.std.proofs.Math.Nat.{pow-le-pow_right}
use Rattle.pgm_grid.proofs.header_machine.in_number.Goals as goal

pub overflow_mul-value : goal.overflow_mul-value
overflow_mul-value c =
    let short : c.args.digits ≤ 8 = omega arith in
    let bound : 10 ^ c.args.digits ≤ 10 ^ 8 = pow-le-pow_right (omega arith) short in
    omega (arith, c.requires.fits)

pub overflow_add-value : goal.overflow_add-value
overflow_add-value c =
    let short : c.args.digits ≤ 8 = omega arith in
    let bound : 10 ^ c.args.digits ≤ 10 ^ 8 = pow-le-pow_right (omega arith) short in
    omega (arith, c.requires.fits)
