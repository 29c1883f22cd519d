use Rattle.std.proofs.Common.{◌≡◌, ◌*◌, ◌^◌, ◌%◌, ◌≤◌, arith}
use Rattle.std.proofs.lemmas.Nat.{one_shl}
use Rattle.std.proofs.Math.Pow.{pow_mono}
use Rattle.pgm_grid.proofs.grid.side_for.Goals as goal

pub returns-clause-high : goal.returns-clause-high
returns-clause-high c =
    let whole : 1 * 2 ^ c.args.n % 18446744073709551616 ≡ 2 ^ c.args.n =
    one_shl c.args.n 64 (omega (arith, c.requires)) in
    let small : 2 ^ c.args.n ≤ 2 ^ 14 = pow_mono c.requires in
    rw whole (omega (arith, small))
