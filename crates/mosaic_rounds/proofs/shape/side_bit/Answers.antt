-- A side has 2 ^ n bits.
use Rattle.std.proofs.Common.{◌+◌, ◌*◌, ◌^◌, ◌≡◌, arith}
use Rattle.std.proofs.lemmas.Nat.{mul-add-lt, pow-add, shl_whole}
use Rattle.mosaic_rounds.proofs.shape.side_bit.Goals as goal

pub returns-clause-within : goal.returns-clause-within
returns-clause-within c =
    let n = c.args.n in
    let small = c.requires.side in
    let high = c.requires.in_grid in
    let place = c.requires.place in
    let whole = shl_whole c.args.side 2 c.args.n 64 (omega arith) (omega arith) in
    let four : 2 ^ (c.args.n + 2) ≡ 2 ^ c.args.n * 2 ^ 2 = pow-add 2 c.args.n 2 in
    let less = mul-add-lt c.args.side (2 ^ c.args.n) c.args.place 4 small place in
    omega arith
