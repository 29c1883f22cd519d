use Rattle.std.proofs.Common.{arith, length-append}
use Rattle.mesh_laws.specs.Slots.{has_children, address_at}
use Rattle.mesh_arrays.proofs.SlotLemmas.{when_some, AreBelow, slots_below, put_both}
use Rattle.mesh_arrays.proofs.patch.+put_under.Goals as goal

pub put_under-requires : goal.put_under-requires
put_under-requires t c =
    let pairs = c.args.pool.now.pairs in
    let split = when_some (has_children pairs (address_at pairs c.args.s.0)) c.in-Some.ensures.none.1 in
    let below : AreBelow c.args.pool.now.n pairs c.args.levels c.args.s.0 c.in-Some.left.0 c.in-Some.right.0 =
    slots_below c.args.pool.now.n pairs c.args.levels c.args.s.0 c.in-Some.left.0 c.in-Some.right.0
    c.n-n.ensures.valid c.requires.live c.requires.level split c.in-Some.ensures.some.0 c.in-Some.ensures.some.1 in
    (omega arith, (below.left_live, (below.left_level, omega arith)))

pub put_under-requires-in-Some : goal.put_under-requires-in-Some
put_under-requires-in-Some t c =
    let pairs = c.args.pool.now.pairs in
    let split = when_some (has_children pairs (address_at pairs c.args.s.0)) c.in-Some.ensures.none.1 in
    let below : AreBelow c.args.pool.now.n pairs c.args.levels c.args.s.0 c.in-Some.left.0 c.in-Some.right.0 =
    slots_below c.args.pool.now.n pairs c.args.levels c.args.s.0 c.in-Some.left.0 c.in-Some.right.0
    c.n-n.ensures.valid c.requires.live c.requires.level split c.in-Some.ensures.some.0 c.in-Some.ensures.some.1 in
    (omega arith, (below.right_live, (below.right_level, rw c.put_under.ensures (simp length-append (omega arith)))))

pub returns-in-Some : goal.returns-in-Some
returns-in-Some t c =
    let pairs = c.args.pool.now.pairs in
    let split = when_some (has_children pairs (address_at pairs c.args.s.0)) c.in-Some.ensures.none.1 in
    let below : AreBelow c.args.pool.now.n pairs c.args.levels c.args.s.0 c.in-Some.left.0 c.in-Some.right.0 =
    slots_below c.args.pool.now.n pairs c.args.levels c.args.s.0 c.in-Some.left.0 c.in-Some.right.0
    c.n-n.ensures.valid c.requires.live c.requires.level split c.in-Some.ensures.some.0 c.in-Some.ensures.some.1 in
    put_both c.args.walk.now c.put_under.new.walk c.put_under-in-Some.new.walk _ _ _ below.list c.put_under.ensures
    c.put_under-in-Some.ensures
