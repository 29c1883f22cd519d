-- Nothing is shifted out.
use Rattle.std.proofs.Common.{◌≡◌, ◌*◌, ◌%◌, ◌^◌, ◌<◌, sym, arith}
use Rattle.std.proofs.lemmas.Nat.{pow_below}
use Rattle.page_store.proofs.PlaceLemmas.{number-less, place-is}
use Rattle.page_store.proofs.table.place.Goals as goal

pub returns : goal.returns
returns c =
    let p = c.args.cuts in
    let few : 2 ^ (2 * p) < 2 ^ 64 = pow_below (2 * p) 64 (omega arith) in
    let less = number-less p c.args.square c.requires.in_square in
    let swap : c.args.square.y * 2 ^ p ≡ 2 ^ p * c.args.square.y = omega arith in
    let squares : 1 * 2 ^ (2 * p) % 18446744073709551616 ≡ 2 ^ (2 * p) = omega arith in
    let rows : c.args.square.y * 2 ^ p % 18446744073709551616 ≡ 2 ^ p * c.args.square.y = omega arith in
    record { value = rw (squares, rows) (sym (place-is p c.args.square)) }
