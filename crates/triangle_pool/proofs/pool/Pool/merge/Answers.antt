use Rattle.std.proofs.Common.{◌≡◌, ◌≢◌, ap, sym, subst, ℕ, ◌+◌, ◌≤◌, arith, List}
use Rattle.mesh_laws.specs.Edge.{mate_of}
use Rattle.mesh_laws.specs.Net.{nowhere}
use Rattle.mesh_laws.specs.Slots.{address_at, IsLive, IsMergeReady, IsMerge, room_of, diamond_size}
use Rattle.triangle_pool.specs.Links.{HasPairs, AreChildrenAt, MayMerge}
use Rattle.mesh_laws.proofs.SlotLemmas.{pair_in}
use Rattle.triangle_pool.proofs.MergeLemmas.{partner_live, may_merge_of, may_merge_mate, IsMerge-alone, IsMerge-both}
use Rattle.triangle_pool.proofs.MergeLemmas.{pairs_back, pairs_back_two, back_one, back_two}
use Rattle.triangle_pool.proofs.pool.Pool.merge.Goals as goal

-- what the fields are asked for, from what a caller sees
live_inside : (pairs seen : List ℕ) (s : ℕ) → pairs ≡ seen → IsLive seen s → IsLive pairs s
live_inside pairs seen s e = subst (λ t. IsLive t s) (sym e)

ready_inside : (pairs seen : List ℕ) (s : ℕ) → pairs ≡ seen → IsMergeReady seen (address_at seen s) →
    IsMergeReady pairs (address_at pairs s)
ready_inside pairs seen s e = subst (λ t. IsMergeReady t (address_at t s)) (sym e)

-- both halves of the diamond
both : (pairs seen : List ℕ) (s t k j : ℕ) → pairs ≡ seen → IsLive seen s → IsMergeReady seen (address_at seen s) →
    AreChildrenAt pairs (address_at pairs s) k →
    (mate_of (address_at pairs s) ≡ 0 → t ≡ nowhere) →
    (t ≢ nowhere → address_at pairs t ≡ mate_of (address_at pairs s)) → t ≢ nowhere →
    (IsLive pairs t) × (1 ≤ mate_of (address_at pairs s)) × MayMerge pairs s k (address_at pairs s)
    × (AreChildrenAt pairs (address_at pairs t) j → MayMerge pairs t j (mate_of (address_at pairs s)))
both pairs seen s t k j e live ready children none some given =
    let live_in = live_inside pairs seen s e live in let ready_in = ready_inside pairs seen s e ready in
    let found = partner_live pairs s t live_in none some given in
    let at = some given in let two = found.1 in (
      found.1,
      found.0,
      may_merge_of pairs s k live_in children ready_in.own,
      (λ more. may_merge_mate pairs t j (mate_of (address_at pairs s)) at (omega arith) more (ready_in.mate found.0)),
    )

may_merge_one : (pairs seen : List ℕ) (s k : ℕ) → pairs ≡ seen → IsLive seen s → IsMergeReady seen (address_at seen s) →
    AreChildrenAt pairs (address_at pairs s) k → MayMerge pairs s k (address_at pairs s)
may_merge_one pairs seen s k e live ready children =
    may_merge_of pairs s k (live_inside pairs seen s e live) children (ready_inside pairs seen s e ready).own

pub give_back-requires : goal.give_back-requires
give_back-requires c =
    let one = may_merge_one c.self.inside.nodes.pairs c.args.self.now.pairs c.args.s.0 c.children-k.result
    (ap (λ p. p.pairs) c.self.view_is) c.requires.live c.requires.ready c.children-k.ensures in
    (pairs_back c.self.inside.most c.self.inside.nodes.pairs c.self.inside.free c.self.inside.free c.children-k.result
    (address_at c.self.inside.nodes.pairs c.args.s.0) c.self.invariant one.low one.pair).0

pub invariant_of-self : goal.invariant_of-self
invariant_of-self c =
    let one = may_merge_one c.self.inside.nodes.pairs c.args.self.now.pairs c.args.s.0 c.children-k.result
    (ap (λ p. p.pairs) c.self.view_is) c.requires.live c.requires.ready c.children-k.ensures in
    subst (λ t. HasPairs c.self.inside.most t c.give_back.new.self) (sym c.merge_alone.ensures.pairs)
    ((pairs_back c.self.inside.most c.self.inside.nodes.pairs c.self.inside.free c.give_back.new.self
    c.children-k.result (address_at c.self.inside.nodes.pairs c.args.s.0) c.self.invariant one.low one.pair).1
    c.give_back.ensures.returned c.give_back.ensures.unused c.give_back.ensures.pairs)

pub children-j-requires : goal.children-j-requires
children-j-requires c =
    record {
      live = (both c.self.inside.nodes.pairs c.args.self.now.pairs c.args.s.0 c.partner-partner.result
          c.children-k.result 0 (ap (λ p. p.pairs) c.self.view_is) c.requires.live c.requires.ready c.children-k.ensures
          c.partner-partner.ensures.none.1 c.partner-partner.ensures.some c.if-partner.false).0;
    }

pub push_pair-requires-else-partner-clause-small : goal.push_pair-requires-else-partner-clause-small
push_pair-requires-else-partner-clause-small c =
    let all =
    both c.self.inside.nodes.pairs c.args.self.now.pairs c.args.s.0 c.partner-partner.result c.children-k.result
    c.children-j.result (ap (λ p. p.pairs) c.self.view_is) c.requires.live c.requires.ready c.children-k.ensures
    c.partner-partner.ensures.none.1 c.partner-partner.ensures.some c.if-partner.false in
    let second = all.3 c.children-j.ensures in
    let within = pair_in c.self.inside.nodes.pairs c.children-j.result
    (mate_of (address_at c.self.inside.nodes.pairs c.args.s.0)) second.low second.pair in
    let short = c.n-n.ensures.short in omega arith

pub merge_both-requires-clause-second : goal.merge_both-requires-clause-second
merge_both-requires-clause-second c =
    (both c.self.inside.nodes.pairs c.args.self.now.pairs c.args.s.0 c.partner-partner.result c.children-k.result
    c.children-j.result (ap (λ p. p.pairs) c.self.view_is) c.requires.live c.requires.ready c.children-k.ensures
    c.partner-partner.ensures.none.1 c.partner-partner.ensures.some c.if-partner.false).3 c.children-j.ensures

pub give_back-requires-else-partner : goal.give_back-requires-else-partner
give_back-requires-else-partner c =
    let one = may_merge_one c.self.inside.nodes.pairs c.args.self.now.pairs c.args.s.0 c.children-k.result
    (ap (λ p. p.pairs) c.self.view_is) c.requires.live c.requires.ready c.children-k.ensures in
    (pairs_back c.self.inside.most c.self.inside.nodes.pairs c.self.inside.free c.self.inside.free c.children-k.result
    (address_at c.self.inside.nodes.pairs c.args.s.0) c.self.invariant one.low one.pair).0

pub give_back-requires-else-partner-2 : goal.give_back-requires-else-partner-2
give_back-requires-else-partner-2 c =
    let all =
    both c.self.inside.nodes.pairs c.args.self.now.pairs c.args.s.0 c.partner-partner.result c.children-k.result
    c.children-j.result (ap (λ p. p.pairs) c.self.view_is) c.requires.live c.requires.ready c.children-k.ensures
    c.partner-partner.ensures.none.1 c.partner-partner.ensures.some c.if-partner.false in
    (pairs_back_two c.self.inside.nodes.n c.self.inside.most c.self.inside.nodes.pairs c.self.inside.free
    c.give_back-else-partner.new.self c.give_back-else-partner.new.self c.args.s.0 c.partner-partner.result
    c.children-k.result c.children-j.result
    (address_at c.self.inside.nodes.pairs c.args.s.0) c.self.invariant c.n-n.ensures.valid all.2 all.1
    (all.3 c.children-j.ensures)
    c.give_back-else-partner.ensures.returned c.give_back-else-partner.ensures.unused
    c.give_back-else-partner.ensures.pairs).0

pub invariant_of-self-else-partner : goal.invariant_of-self-else-partner
invariant_of-self-else-partner c =
    let all =
    both c.self.inside.nodes.pairs c.args.self.now.pairs c.args.s.0 c.partner-partner.result c.children-k.result
    c.children-j.result (ap (λ p. p.pairs) c.self.view_is) c.requires.live c.requires.ready c.children-k.ensures
    c.partner-partner.ensures.none.1 c.partner-partner.ensures.some c.if-partner.false in
    subst (λ t. HasPairs c.self.inside.most t c.give_back-else-partner-2.new.self) (sym c.merge_both.ensures.pairs)
    ((pairs_back_two c.self.inside.nodes.n c.self.inside.most c.self.inside.nodes.pairs c.self.inside.free
    c.give_back-else-partner.new.self c.give_back-else-partner-2.new.self c.args.s.0 c.partner-partner.result
    c.children-k.result c.children-j.result
    (address_at c.self.inside.nodes.pairs c.args.s.0) c.self.invariant c.n-n.ensures.valid all.2 all.1
    (all.3 c.children-j.ensures)
    c.give_back-else-partner.ensures.returned c.give_back-else-partner.ensures.unused
    c.give_back-else-partner.ensures.pairs).1
    c.give_back-else-partner-2.ensures.returned c.give_back-else-partner-2.ensures.unused
    c.give_back-else-partner-2.ensures.pairs)

pub returns-then-partner-clause-merge : goal.returns-then-partner-clause-merge
returns-then-partner-clause-merge c =
    let e : c.self.inside.nodes.pairs ≡ c.args.self.now.pairs = ap (λ p. p.pairs) c.self.view_is in
    let one = may_merge_one c.self.inside.nodes.pairs c.args.self.now.pairs c.args.s.0 c.children-k.result e
    c.requires.live c.requires.ready c.children-k.ensures in
    subst (λ t. IsMerge t c.merge_alone.new.self.pairs (address_at t c.args.s.0)) e
    (IsMerge-alone c.self.inside.nodes.n c.self.inside.nodes.pairs c.merge_alone.new.self.pairs c.args.s.0
    c.children-k.result (address_at c.self.inside.nodes.pairs c.args.s.0) c.n-n.ensures.valid one
    (c.partner-partner.ensures.none.0 c.if-partner.true) c.merge_alone.ensures.pairs)

pub returns-then-partner-clause-room : goal.returns-then-partner-clause-room
returns-then-partner-clause-room c =
    let e : c.self.inside.nodes.pairs ≡ c.args.self.now.pairs = ap (λ p. p.pairs) c.self.view_is in
    let one = may_merge_one c.self.inside.nodes.pairs c.args.self.now.pairs c.args.s.0 c.children-k.result e
    c.requires.live c.requires.ready c.children-k.ensures in
    subst (λ t. room_of c.merge_alone.new.self.pairs ≡ room_of t + diamond_size (address_at t c.args.s.0)) e
    (back_one c.self.inside.nodes.pairs c.merge_alone.new.self.pairs c.args.s.0 c.children-k.result
    (address_at c.self.inside.nodes.pairs c.args.s.0) one
    (c.partner-partner.ensures.none.0 c.if-partner.true) c.merge_alone.ensures.pairs)

pub returns-else-partner-clause-merge : goal.returns-else-partner-clause-merge
returns-else-partner-clause-merge c =
    let e : c.self.inside.nodes.pairs ≡ c.args.self.now.pairs = ap (λ p. p.pairs) c.self.view_is in
    let all = both c.self.inside.nodes.pairs c.args.self.now.pairs c.args.s.0 c.partner-partner.result
    c.children-k.result c.children-j.result e c.requires.live c.requires.ready c.children-k.ensures
    c.partner-partner.ensures.none.1 c.partner-partner.ensures.some c.if-partner.false in
    subst (λ t. IsMerge t c.merge_both.new.self.pairs (address_at t c.args.s.0)) e
    (IsMerge-both c.self.inside.nodes.n c.self.inside.nodes.pairs c.merge_both.new.self.pairs c.args.s.0
    c.partner-partner.result c.children-k.result c.children-j.result
    (address_at c.self.inside.nodes.pairs c.args.s.0)
    c.n-n.ensures.valid all.2 all.1 (all.3 c.children-j.ensures) c.merge_both.ensures.pairs)

pub returns-else-partner-clause-room : goal.returns-else-partner-clause-room
returns-else-partner-clause-room c =
    let e : c.self.inside.nodes.pairs ≡ c.args.self.now.pairs = ap (λ p. p.pairs) c.self.view_is in
    let all = both c.self.inside.nodes.pairs c.args.self.now.pairs c.args.s.0 c.partner-partner.result
    c.children-k.result c.children-j.result e c.requires.live c.requires.ready c.children-k.ensures
    c.partner-partner.ensures.none.1 c.partner-partner.ensures.some c.if-partner.false in
    subst (λ t. room_of c.merge_both.new.self.pairs ≡ room_of t + diamond_size (address_at t c.args.s.0)) e
    (back_two c.self.inside.nodes.n c.self.inside.nodes.pairs c.merge_both.new.self.pairs c.args.s.0
    c.partner-partner.result c.children-k.result c.children-j.result
    (address_at c.self.inside.nodes.pairs c.args.s.0)
    c.n-n.ensures.valid all.2 all.1 (all.3 c.children-j.ensures) c.merge_both.ensures.pairs)

pub push_pair-requires-clause-small : goal.push_pair-requires-clause-small
push_pair-requires-clause-small c =
    let one = may_merge_one c.self.inside.nodes.pairs c.args.self.now.pairs c.args.s.0 c.children-k.result
    (ap (λ p. p.pairs) c.self.view_is) c.requires.live c.requires.ready c.children-k.ensures in
    let within = pair_in c.self.inside.nodes.pairs c.children-k.result
    (address_at c.self.inside.nodes.pairs c.args.s.0) one.low one.pair in
    let short = c.n-n.ensures.short in omega arith
