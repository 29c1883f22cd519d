use Rattle.std.proofs.Common.{◌+◌, ◌^◌, ◌≤◌, length, ap, ◌∙◌, arith}
use Rattle.std.proofs.Math.Nat.{mul-le-mul}
use Rattle.std.proofs.Math.Pow.{pow_mono}
use Rattle.std.proofs.lemmas.List.{length-replicate}
use Rattle.mesh_compare.proofs.comparing.room.Goals as goal

pub returns-clause-few : goal.returns-clause-few
returns-clause-few c =
    let power : 2 ^ c.args.n ≤ 2 ^ 14 = pow_mono c.requires.in_grid.1 in
    let side : 2 ^ c.args.n + 1 ≤ 16385 = omega arith in
    let all = mul-le-mul side side in
    let long = ap length c.in_ok-numbers.ensures ∙ length-replicate _ _ in
    omega arith
