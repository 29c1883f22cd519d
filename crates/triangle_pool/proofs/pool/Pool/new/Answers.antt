use Rattle.std.proofs.Common.{◌-◌, arith}
use Rattle.triangle_pool.proofs.NewLemmas.{first_pairs, first_room}
use Rattle.triangle_pool.proofs.pool.Pool.new.Goals as goal

pub invariant_of-result : goal.invariant_of-result
invariant_of-result c =
    let nodes = c.in_ok-new.ensures in let free = c.in_ok-new-2.ensures in
    first_pairs c.args.leaves c.in_ok-new.field-0.pairs c.in_ok-new-2.field-0 c.requires.some c.requires.few nodes.count
    nodes.first nodes.free free.returned free.unused free.pairs

pub returns-clause-room : goal.returns-clause-room
returns-clause-room c =
    let nodes = c.in_ok-new.ensures in let some = c.requires.some in
    let room =
    first_room c.in_ok-new.field-0.pairs (c.args.leaves - 1) nodes.count (omega arith) nodes.first nodes.free in
    omega arith
