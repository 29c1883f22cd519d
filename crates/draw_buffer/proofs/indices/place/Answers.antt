use Rattle.std.proofs.Common.{◌≡◌, ◌+◌, ◌-◌, ◌*◌, ◌%◌, ◌^◌, arith}
use Rattle.std.proofs.lemmas.Nat.{mul-add-lt}
use Rattle.bintree_laws.proofs.CornerLemmas.{side_small}
use Rattle.draw_buffer.proofs.indices.place.Goals as goal

pub returns-clause-within : goal.returns-clause-within
returns-clause-within c =
    let column = c.requires.column in
    let row = c.requires.row in
    let h = mul-add-lt (2 ^ c.args.n - c.args.point.y) (2 ^ c.args.n + 1) c.args.point.x (2 ^ c.args.n + 1)
    (omega arith) (omega arith) in
    let small = side_small c.args.n c.requires.in_grid in
    let last : 1 * 2 ^ c.args.n % 4294967296 ≡ 2 ^ c.args.n = omega (arith, small.1) in
    rw last h
