use Rattle.std.proofs.Common.{◌+◌, ◌*◌, ◌^◌, ◌≤◌, arith}
use Rattle.std.proofs.Math.Pow.{pow_mono}
use Rattle.height_edit.proofs.holders.bases.Goals as goal

pub push_pair-requires-clause-high : goal.push_pair-requires-clause-high
push_pair-requires-clause-high c =
    let some : 2 ≤ 2 * c.args.n + 2 = omega arith in
    let least : 2 ^ 2 ≤ 2 ^ (2 * c.args.n + 2) = pow_mono some in omega arith
