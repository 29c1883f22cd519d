use Rattle.std.proofs.Common.{◌≡◌, ap, ℕ, ◌+◌, ◌≤◌, arith, subst, List, refl, None, Some}
use Rattle.mesh_laws.specs.Edge.{mate_of}
use Rattle.mesh_laws.specs.Slots.{address_at, room_of, IsSplit, diamond_size}
use Rattle.triangle_pool.specs.Answer.{IsBirth}
use Rattle.triangle_pool.specs.Links.{MaySplit, MaySplitMate}
use Rattle.triangle_pool.proofs.BirthLemmas.{birth_one, birth_two, room_one, room_two}
use Rattle.triangle_pool.proofs.PoolLemmas.{may_split_seen, second_seen, room_seen, mate_room, next_room, next_small}
use Rattle.triangle_pool.proofs.PoolLemmas.{pairs_one, pairs_two, border_of, IsSplit-alone, IsSplit-both}
use Rattle.triangle_pool.proofs.pool.Pool.split.Goals as goal
use Rattle.triangle_pool.proofs.pool.Pool.split.Goals.{After-take-k, After-take-j}

-- the triangle may be split
may_split : (c : After-take-k) → MaySplit c.self.inside.nodes.n c.self.inside.nodes.pairs c.args.s.0 c.take-k.result
    (address_at c.self.inside.nodes.pairs c.args.s.0)
may_split c =
    may_split_seen c.self.inside.nodes.n c.self.inside.most c.self.inside.nodes.pairs c.self.inside.free
    c.take-k.new.self c.args.s.0 c.take-k.result c.args.self.now.n c.args.self.now.pairs
    (ap (λ p. p.n) c.self.view_is) (ap (λ p. p.pairs) c.self.view_is) c.base-base.ensures.grid c.self.invariant
    c.requires.leaf.live c.requires.leaf.leaf c.requires.coarse c.requires.room_1 c.take-k.ensures.next

-- and so may its mate
second : (c : After-take-j) → (2 ≤ room_of c.self.inside.nodes.pairs)
    × MaySplitMate c.self.inside.nodes.pairs c.base-base.result c.take-k.result c.take-j.result
    (address_at c.self.inside.nodes.pairs c.args.s.0)
second c =
    second_seen c.self.inside.most c.self.inside.nodes.pairs c.self.inside.free c.take-k.new.self c.take-j.new.self
    c.args.s.0 c.base-base.result c.take-k.result c.take-j.result c.args.self.now.pairs
    (ap (λ p. p.pairs) c.self.view_is) c.self.invariant c.base-base.ensures.base c.if-base.false c.requires.level
    c.requires.room_2 c.take-k.ensures.next c.take-k.ensures.pairs c.take-j.ensures.next

pub split_alone-requires-clause-may_split : goal.split_alone-requires-clause-may_split
split_alone-requires-clause-may_split c = may_split (goal.at.split_alone-requires-clause-may_split c).After-take-k

pub split_both-requires-clause-may_split : goal.split_both-requires-clause-may_split
split_both-requires-clause-may_split c = may_split (goal.at.split_both-requires-clause-may_split c).After-take-k

pub split_both-requires-clause-second : goal.split_both-requires-clause-second
split_both-requires-clause-second c = (second (goal.at.split_both-requires-clause-second c).After-take-j).1

some_room : (pairs seen : List ℕ) → pairs ≡ seen → 1 ≤ room_of seen → 1 ≤ room_of pairs
some_room pairs seen e some = let z : room_of pairs ≡ room_of seen = ap room_of e in omega arith

pub take-k-requires : goal.take-k-requires
take-k-requires c =
    let some = c.requires.room_1 in
    let room =
    room_seen c.self.inside.most c.self.inside.nodes.pairs c.self.inside.free c.args.self.now.pairs c.self.invariant
    (ap (λ p. p.pairs) c.self.view_is) in
    omega arith

pub take-j-requires : goal.take-j-requires
take-j-requires c =
    let two = mate_room c.self.inside.nodes.pairs c.args.s.0 c.base-base.result c.args.self.now.pairs
    (ap (λ p. p.pairs) c.self.view_is) c.base-base.ensures.base c.if-base.false c.requires.room_2 in
    let room = room_seen c.self.inside.most c.self.inside.nodes.pairs c.self.inside.free c.self.inside.nodes.pairs
    c.self.invariant refl in
    let fewer = next_room c.self.inside.free c.take-k.new.self c.take-k.result c.take-k.ensures.next in
    let same = c.take-k.ensures.pairs in let enough = two.0 in omega arith

pub invariant_of-self : goal.invariant_of-self
invariant_of-self c =
    let e : c.self.inside.nodes.pairs ≡ c.args.self.now.pairs = ap (λ p. p.pairs) c.self.view_is in
    let at : address_at c.self.inside.nodes.pairs c.args.s.0 ≡ address_at c.args.self.now.pairs c.args.s.0 =
    ap (λ t. address_at t c.args.s.0) e in
    let live = c.requires.leaf.live in
    pairs_one c.self.inside.most c.self.inside.nodes.pairs c.self.inside.free c.take-k.new.self c.take-k.result
    (address_at c.self.inside.nodes.pairs c.args.s.0) c.split_alone.new.self.pairs
    c.self.invariant (some_room c.self.inside.nodes.pairs c.args.self.now.pairs e c.requires.room_1)
    c.take-k.ensures.next c.take-k.ensures.pairs (omega arith) c.split_alone.ensures.pairs

pub pair-requires : goal.pair-requires
pair-requires c =
    next_small c.self.inside.most c.self.inside.nodes.pairs c.self.inside.free c.take-k.new.self
    c.take-k.result c.self.invariant
    (some_room c.self.inside.nodes.pairs c.args.self.now.pairs (ap (λ p. p.pairs) c.self.view_is) c.requires.room_1)
    c.take-k.ensures.next

pub pair-requires-else-base : goal.pair-requires-else-base
pair-requires-else-base c =
    next_small c.self.inside.most c.self.inside.nodes.pairs c.self.inside.free c.take-k.new.self
    c.take-k.result c.self.invariant
    (some_room c.self.inside.nodes.pairs c.args.self.now.pairs (ap (λ p. p.pairs) c.self.view_is) c.requires.room_1)
    c.take-k.ensures.next

pub pair-requires-else-base-2 : goal.pair-requires-else-base-2
pair-requires-else-base-2 c =
    let within = (second (goal.at.pair-requires-else-base-2 c).After-take-j).1.within in
    let high = c.self.invariant.most_high in let count = c.self.invariant.pair_count in omega arith

pub invariant_of-self-else-base : goal.invariant_of-self-else-base
invariant_of-self-else-base c =
    let e : c.self.inside.nodes.pairs ≡ c.args.self.now.pairs = ap (λ p. p.pairs) c.self.view_is in
    let two = mate_room c.self.inside.nodes.pairs c.args.s.0 c.base-base.result c.args.self.now.pairs e
    c.base-base.ensures.base c.if-base.false c.requires.room_2 in
    let at : address_at c.self.inside.nodes.pairs c.args.s.0 ≡ address_at c.args.self.now.pairs c.args.s.0 =
    ap (λ t. address_at t c.args.s.0) e in
    let live = c.requires.leaf.live in
    pairs_two c.self.inside.most c.self.inside.nodes.pairs c.self.inside.free c.take-k.new.self c.take-j.new.self
    c.take-k.result c.take-j.result
    (address_at c.self.inside.nodes.pairs c.args.s.0)
    (mate_of (address_at c.self.inside.nodes.pairs c.args.s.0)) c.split_both.new.self.pairs
    c.self.invariant two.0 c.take-k.ensures.next c.take-k.ensures.pairs c.take-j.ensures.next c.take-j.ensures.pairs
    (omega arith) two.2 c.split_both.ensures.pairs

pub returns-then-base-clause-split : goal.returns-then-base-clause-split
returns-then-base-clause-split c =
    let e : c.self.inside.nodes.pairs ≡ c.args.self.now.pairs = ap (λ p. p.pairs) c.self.view_is in
    let o = may_split (goal.at.returns-then-base-clause-split c).After-take-k in
    let none = border_of c.self.inside.most c.self.inside.nodes.pairs c.self.inside.free c.args.s.0 c.base-base.result
    c.self.invariant o.low c.base-base.ensures.base c.if-base.true c.base-base.ensures.root in
    subst (λ t. IsSplit t c.split_alone.new.self.pairs (address_at t c.args.s.0)) e
    (IsSplit-alone c.self.inside.nodes.n c.self.inside.nodes.pairs c.split_alone.new.self.pairs c.args.s.0
    c.take-k.result o none c.split_alone.ensures.pairs)

pub returns-then-base-clause-born : goal.returns-then-base-clause-born
returns-then-base-clause-born c =
    let e : c.self.inside.nodes.pairs ≡ c.args.self.now.pairs = ap (λ p. p.pairs) c.self.view_is in
    let o = may_split (goal.at.returns-then-base-clause-born c).After-take-k in
    let none = border_of c.self.inside.most c.self.inside.nodes.pairs c.self.inside.free c.args.s.0 c.base-base.result
    c.self.invariant o.low c.base-base.ensures.base c.if-base.true c.base-base.ensures.root in
    subst (λ t. IsBirth t c.split_alone.new.self.pairs (address_at t c.args.s.0)
    (record { first = c.pair.result; second = None })) e
    (birth_one c.self.inside.nodes.n c.self.inside.nodes.pairs c.split_alone.new.self.pairs c.args.s.0 c.take-k.result
    c.pair.result o none c.split_alone.ensures.pairs c.pair.ensures.left c.pair.ensures.right)

pub returns-then-base-clause-room : goal.returns-then-base-clause-room
returns-then-base-clause-room c =
    let e : c.self.inside.nodes.pairs ≡ c.args.self.now.pairs = ap (λ p. p.pairs) c.self.view_is in
    let o = may_split (goal.at.returns-then-base-clause-room c).After-take-k in
    let none = border_of c.self.inside.most c.self.inside.nodes.pairs c.self.inside.free c.args.s.0 c.base-base.result
    c.self.invariant o.low c.base-base.ensures.base c.if-base.true c.base-base.ensures.root in
    subst (λ t. room_of c.split_alone.new.self.pairs + diamond_size (address_at t c.args.s.0) ≡ room_of t) e
    (room_one c.self.inside.nodes.n c.self.inside.nodes.pairs c.split_alone.new.self.pairs c.args.s.0 c.take-k.result o
    none c.split_alone.ensures.pairs)

pub returns-else-base-clause-split : goal.returns-else-base-clause-split
returns-else-base-clause-split c =
    let e : c.self.inside.nodes.pairs ≡ c.args.self.now.pairs = ap (λ p. p.pairs) c.self.view_is in
    let o = may_split (goal.at.returns-else-base-clause-split c).After-take-k in
    let both = second (goal.at.returns-else-base-clause-split c).After-take-j in
    subst (λ t. IsSplit t c.split_both.new.self.pairs (address_at t c.args.s.0)) e
    (IsSplit-both c.self.inside.nodes.n c.self.inside.nodes.pairs c.split_both.new.self.pairs c.args.s.0
    c.base-base.result c.take-k.result c.take-j.result o both.1 c.split_both.ensures.pairs)

pub returns-else-base-clause-born : goal.returns-else-base-clause-born
returns-else-base-clause-born c =
    let e : c.self.inside.nodes.pairs ≡ c.args.self.now.pairs = ap (λ p. p.pairs) c.self.view_is in
    let o = may_split (goal.at.returns-else-base-clause-born c).After-take-k in
    let both = second (goal.at.returns-else-base-clause-born c).After-take-j in
    subst (λ t. IsBirth t c.split_both.new.self.pairs (address_at t c.args.s.0) (record {
      first = c.pair-else-base.result;
      second = Some c.pair-else-base-2.result;
    })) e
    (birth_two c.self.inside.nodes.n c.self.inside.nodes.pairs c.split_both.new.self.pairs c.args.s.0 c.base-base.result
    c.take-k.result c.take-j.result c.pair-else-base.result c.pair-else-base-2.result o both.1
    c.split_both.ensures.pairs
    c.pair-else-base.ensures.left c.pair-else-base.ensures.right c.pair-else-base-2.ensures.left
    c.pair-else-base-2.ensures.right)

pub returns-else-base-clause-room : goal.returns-else-base-clause-room
returns-else-base-clause-room c =
    let e : c.self.inside.nodes.pairs ≡ c.args.self.now.pairs = ap (λ p. p.pairs) c.self.view_is in
    let o = may_split (goal.at.returns-else-base-clause-room c).After-take-k in
    let both = second (goal.at.returns-else-base-clause-room c).After-take-j in
    subst (λ t. room_of c.split_both.new.self.pairs + diamond_size (address_at t c.args.s.0) ≡ room_of t) e
    (room_two c.self.inside.nodes.n c.self.inside.nodes.pairs c.split_both.new.self.pairs c.args.s.0 c.base-base.result
    c.take-k.result c.take-j.result o both.1 c.split_both.ensures.pairs)
