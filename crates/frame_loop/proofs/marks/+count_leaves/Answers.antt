use Rattle.std.proofs.Common.{ap, length, sym, refl, arith}
use Rattle.mesh_laws.specs.Slots.{address_at, has_children}
use Rattle.frame_loop.proofs.LeafListLemmas.{when_some, children_below, leaf_at}
use Rattle.frame_loop.proofs.marks.+count_leaves.Goals as goal

pub count_leaves-lower-requires : goal.count_leaves-lower-requires
count_leaves-lower-requires t c =
    let pairs = c.args.pool.now.pairs in
    let split = when_some (has_children pairs (address_at pairs c.args.s.0)) c.in-Some.ensures.none.1 in
    let below = children_below c.args.pool.now.n pairs c.args.levels c.args.s.0 c.in-Some.left.0 c.in-Some.right.0
    c.n-n.ensures.valid c.requires.live c.requires.level split c.in-Some.ensures.some.0 c.in-Some.ensures.some.1 in
    (omega arith, (below.left_live, (below.left_level, omega arith)))

pub count_leaves-upper-requires : goal.count_leaves-upper-requires
count_leaves-upper-requires t c =
    let pairs = c.args.pool.now.pairs in
    let split = when_some (has_children pairs (address_at pairs c.args.s.0)) c.in-Some.ensures.none.1 in
    let below = children_below c.args.pool.now.n pairs c.args.levels c.args.s.0 c.in-Some.left.0 c.in-Some.right.0
    c.n-n.ensures.valid c.requires.live c.requires.level split c.in-Some.ensures.some.0 c.in-Some.ensures.some.1 in
    (omega arith, (below.right_live, (below.right_level, omega arith)))

pub returns-in-Some : goal.returns-in-Some
returns-in-Some t c =
    let pairs = c.args.pool.now.pairs in
    let split = when_some (has_children pairs (address_at pairs c.args.s.0)) c.in-Some.ensures.none.1 in
    let below = children_below c.args.pool.now.n pairs c.args.levels c.args.s.0 c.in-Some.left.0 c.in-Some.right.0
    c.n-n.ensures.valid c.requires.live c.requires.level split c.in-Some.ensures.some.0 c.in-Some.ensures.some.1 in
    omega arith

pub returns-in-None : goal.returns-in-None
returns-in-None t c =
    let pairs = c.args.pool.now.pairs in
    sym (ap length (leaf_at pairs c.args.levels c.args.s.0 (c.in-None.ensures.none.0 refl)))

pub overflow_add-result : goal.overflow_add-result
overflow_add-result t c =
    let pairs = c.args.pool.now.pairs in
    let split = when_some (has_children pairs (address_at pairs c.args.s.0)) c.in-Some.ensures.none.1 in
    let below = children_below c.args.pool.now.n pairs c.args.levels c.args.s.0 c.in-Some.left.0 c.in-Some.right.0
    c.n-n.ensures.valid c.requires.live c.requires.level split c.in-Some.ensures.some.0 c.in-Some.ensures.some.1 in
    let count = below.count in
    let short = c.requires.short in
    let lower = c.count_leaves-lower.ensures in
    let upper = c.count_leaves-upper.ensures in
    omega (arith, count, short, lower, upper)
