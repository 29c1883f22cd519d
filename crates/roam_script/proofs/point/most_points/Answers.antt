use Rattle.std.proofs.Common.{◌+◌, ◌*◌, ◌≤◌, ◌^◌, ◌%◌, arith, lit<}
use Rattle.std.proofs.Math.Nat.{pow-le-pow_right}
use Rattle.std.proofs.lemmas.Nat.{mul-le}
use Rattle.roam_script.proofs.point.most_points.Goals as goal

pub returns-clause-few : goal.returns-clause-few
returns-clause-few c =
    let power : 2 ^ c.args.n ≤ 2 ^ 14 = pow-le-pow_right (lit< tt) c.requires.level in
    let side : 1 * 2 ^ c.args.n % 4294967296 + 1 ≤ 16385 = omega (arith, power) in
    let square = mul-le _ _ _ _ side side in
    omega (arith, square)
