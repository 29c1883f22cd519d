-- The square of a page lies in that of a finest one of its columns.
use Rattle.std.proofs.Common.{◌-◌, ◌^◌, ◌≤◌, arith, pow_mono}
use Rattle.page_store.proofs.edits.part_of.Goals as goal

pub start_of-start-requires-clause-in_square : goal.start_of-start-requires-clause-in_square
start_of-start-requires-clause-in_square c =
    let m : 2 ^ (14 - c.args.n - c.args.q) ≤ 2 ^ (14 - c.args.n) = pow_mono (omega arith) in omega arith
