-- The pool's invariant through a split.
use Rattle.std.proofs.Common.{◌≡◌, ◌≢◌, ap, sym, ◌∙◌, ◌⊎◌, true, false, cond, nat_eq, ℕ, ◌+◌, ◌*◌, ◌/◌, ◌^◌, ◌<◌, ◌≤◌}
use Rattle.std.proofs.Common.{◌++◌, refl, arith, inl, inr, ⊎_elim, subst, List, [], ◌∷◌, length, get_or, set}
use Rattle.std.proofs.Common.{get_or-set_other, get_or-set_same}
use Rattle.std.proofs.lemmas.List.Sums.{sum_by-set, count_by-le-length}
use Rattle.std.proofs.lemmas.List.{get_or_default, get_or_append_left, get_or_push, get_or_past, length_push}
use Rattle.std.proofs.lemmas.Bool.{cases_lt, ne_eqb}
use Rattle.std.proofs.Math.ListN.{length-set}
use Rattle.mesh_defs.specs.Triangle.{level_of}
use Rattle.mesh_defs.specs.ClosedSet.{IsClosed}
use Rattle.mesh_laws.specs.Edge.{mate_of, owner}
use Rattle.mesh_laws.specs.Net.{nowhere}
use Rattle.mesh_laws.proofs.OwnerLemmas.{owner-split, owner-low}
use Rattle.mesh_laws.proofs.NetLemmas.{read_link}
use Rattle.mesh_laws.proofs.MateLemmas.{mate_of-low}
use Rattle.triangle_pool.specs.declared.forest.Node.{Node}
use Rattle.mesh_laws.specs.Slots.{address_at, has_children, IsLive, split_set, room_of, IsSplit}
use Rattle.triangle_pool.specs.Slots.{FreeState, IsGivenOut, IsFree}
use Rattle.triangle_pool.specs.Links.{node_at, blank_node, edge_link, net_of, IsForest, MaySplit, MaySplitMate, IsMesh}
use Rattle.triangle_pool.specs.Links.{HasPairs}
use Rattle.triangle_pool.proofs.RelinkLemmas.{edge-base}
use Rattle.mesh_laws.proofs.SlotLemmas.{live_within, has_children-added, set_more, set_only, has_children-set}
use Rattle.triangle_pool.proofs.SplitLemmas.{whole_of}
use Rattle.triangle_pool.proofs.HalveLemmas.{address-old, live_apart}

-- ---- reading

-- the node that is read at a live slot, where the pairs are those that are seen
pub node_at-read : (n : ℕ) (pairs seen parents : List ℕ) (nodes : List Node) (s : ℕ) (node : Node) →
    IsMesh n pairs parents nodes →
    pairs ≡ seen → IsLive seen s → node ≡ get_or nodes s node → IsLive pairs s × (node_at nodes s ≡ node)
node_at-read n pairs seen parents nodes s node m e live is =
    let old : IsLive pairs s = subst (λ t. IsLive t s) (sym e) live in
    let within = live_within pairs s old in
    let count = m.forest.node_count in
    (old, get_or_default nodes s blank_node node (omega arith) ∙ sym is)

-- ---- free pairs

-- where a free pair gets a triangle, there is one free pair fewer
pub room-set : (pairs : List ℕ) (k a : ℕ) → k < length pairs → get_or pairs k 0 ≡ 0 → 1 ≤ a →
    room_of (set pairs k a) + 1 ≡ room_of pairs
room-set pairs k a within free some =
    let f : ℕ → ℕ = λ t. cond (nat_eq t 0) 1 0 in
    let all = sum_by-set f pairs k a 0 within in
    let old : f (get_or pairs k 0) ≡ 1 = ap f free in
    let new : f a ≡ 0 = rw (ne_eqb a 0 (λ z. omega arith)) refl in
    omega arith

-- one pair fewer is free
pub next_room : (before after : FreeState) (k : ℕ) → IsGivenOut before after k →
    length before.returned + after.unused ≡ length after.returned + before.unused + 1
next_room before after k next = ⊎_elim
    (λ v.
    let is : length before.returned ≡ length after.returned + 1 = ap length v.0 ∙ length_push after.returned k in
    let same = v.1 in
    omega arith)
    (λ v.
    let old : length before.returned ≡ 0 = ap length v.0 in
    let new : length after.returned ≡ 0 = ap length v.1 in
    let more = v.3 in
    omega arith)
    next

-- the pair that is given out is free
pub next_vacant : (pairs : List ℕ) (before after : FreeState) (k : ℕ) → IsFree pairs before → 1 ≤ room_of pairs →
    IsGivenOut before after k → (k < length pairs) × (get_or pairs k 0 ≡ 0)
next_vacant pairs before after k h some next =
    let within = h.within in let count = h.count in
    ⊎_elim
    (λ v. let is : length before.returned ≡ length after.returned + 1 = ap length v.0 ∙ length_push after.returned k in
    let last : get_or before.returned (length after.returned) 0 ≡ k = ap (λ t. get_or t (length after.returned) 0) v.0
    ∙ get_or_push after.returned k 0 (length after.returned) refl in
    let w = h.vacant (length after.returned) (omega arith) in let low = w.0 in
    ((omega arith), ap (λ t. get_or pairs t 0) (sym last) ∙ w.1))
    (λ v.
    let old : length before.returned ≡ 0 = ap length v.0 in
    let is = v.2 in
    ((omega arith), h.fresh k (omega arith)))
    next

-- once the next pair is given out and a triangle has it, the others are still the free pairs
pub free_less : (pairs : List ℕ) (before after : FreeState) (k a : ℕ) → IsFree pairs before → 1 ≤ room_of pairs →
    IsGivenOut before after k → after.pairs ≡ before.pairs → 1 ≤ a → IsFree (set pairs k a) after
free_less pairs before after k a h some next same_pairs low =
    let free = next_vacant pairs before after k h some next in
    let within : k < length pairs = free.0 in
    let count : length (set pairs k a) ≡ length pairs = length-set pairs k a in
    let room : room_of (set pairs k a) + 1 ≡ room_of pairs = room-set pairs k a within free.1 low in
    let fewer = next_room before after k next in
    let all_is = h.all in let within_is = h.within in let count_is = h.count in
    ⊎_elim
    (λ v. let is : length before.returned ≡ length after.returned + 1 = ap length v.0 ∙ length_push after.returned k in
    let same = v.1 in
    let last : get_or before.returned (length after.returned) 0 ≡ k = ap (λ t. get_or t (length after.returned) 0) v.0
    ∙ get_or_push after.returned k 0 (length after.returned) refl in
    let top : k < before.unused = let w = (h.vacant (length after.returned) (omega arith)).0 in omega arith in
    let kept : (i : ℕ) → i < length after.returned → get_or before.returned i 0 ≡ get_or after.returned i 0 =
    λ i less. ap (λ t. get_or t i 0) v.0 ∙ get_or_append_left after.returned (k ∷ []) 0 i less in
    record {
      all = omega arith;
      within = omega arith;
      count = omega arith;
      fresh = λ i high. get_or-set_other pairs k i a 0 (λ e. omega arith) ∙ h.fresh i (omega arith);
      vacant = λ i less.
          let w = h.vacant i (omega arith) in
          let bound = w.0 in let e = kept i less in
          let apart : get_or after.returned i 0 ≢ k = λ z. let y : i ≡ length after.returned =
          h.distinct i (length after.returned) (omega arith) (omega arith) (e ∙ z ∙ sym last) in omega arith in (
            omega arith,
            get_or-set_other pairs k (get_or after.returned i 0) a 0 apart ∙ ap (λ t. get_or pairs t 0) (sym e) ∙ w.1,
          );
      distinct = λ i j p q e. h.distinct i j (omega arith) (omega arith) (kept i p ∙ e ∙ sym (kept j q));
    })
    (λ v.
    let old : length before.returned ≡ 0 = ap length v.0 in
    let new : length after.returned ≡ 0 = ap length v.1 in
    let is = v.2 in
    let more = v.3 in
    record {
      all = omega arith;
      within = omega arith;
      count = omega arith;
      fresh = λ i high. get_or-set_other pairs k i a 0 (λ e. omega arith) ∙ h.fresh i (omega arith);
      vacant = λ i less. absurd (omega arith);
      distinct = λ i j p q e. absurd (omega arith);
    })
    next

-- what the base's link of a live triangle says
pub base_across : (n : ℕ) (pairs parents : List ℕ) (nodes : List Node) (s : ℕ) →
    IsMesh n pairs parents nodes → IsLive pairs s →
    ((mate_of (address_at pairs s) ≡ 0) × ((node_at nodes s).base ≡ nowhere))
    ⊎ ((1 ≤ mate_of (address_at pairs s))
    × (address_at pairs (node_at nodes s).base ≡ owner (has_children pairs) (mate_of (address_at pairs s))))
base_across n pairs parents nodes s h live =
    let whole = whole_of n pairs parents nodes h.forest h.closed in
    let link : edge_link (node_at nodes s) (address_at pairs s) (address_at pairs s) ≡ (node_at nodes s).base =
    edge-base (node_at nodes s) (address_at pairs s) (address_at pairs s) refl in
    let own : owner (has_children pairs) (address_at pairs s) ≡ address_at pairs s =
    owner-split (has_children pairs) (address_at pairs s) (h.forest.sound.tree.live s live) in
    subst (λ t. ((mate_of (address_at pairs s) ≡ 0) × (t ≡ nowhere)) ⊎ ((1 ≤ mate_of (address_at pairs s))
    × (address_at pairs t ≡ owner (has_children pairs) (mate_of (address_at pairs s))))) link
    (read_link (net_of pairs nodes) s (address_at pairs s) whole h.forest.linked live own)

-- a leaf that is not at the finest level may be split into the pair that is given out next
pub may_split_of : (n : ℕ) (pairs : List ℕ) (free after : FreeState) (s k : ℕ) → n ≤ 14 →
    IsFree pairs free → IsLive pairs s →
    has_children pairs (address_at pairs s) ≡ false → level_of (address_at pairs s) < 2 * n → 1 ≤ room_of pairs →
    IsGivenOut free after k → MaySplit n pairs s k (address_at pairs s)
may_split_of n pairs free after s k high h live leaf coarse some next =
    let top = next_vacant pairs free after k h some next in
    record { address = refl; low = live; coarse = coarse; n_high = high; leaf = leaf; within = top.0; free = top.1 }

-- the pair that is given out second
pub second_vacant : (pairs : List ℕ) (free mid after : FreeState) (k j : ℕ) → IsFree pairs free → 2 ≤ room_of pairs →
    IsGivenOut free mid k → mid.pairs ≡ free.pairs → IsGivenOut mid after j →
    (j < length pairs) × (get_or pairs j 0 ≡ 0) × (j ≢ k)
second_vacant pairs free mid after k j h some first same second =
    let top = next_vacant pairs free mid k h (omega arith) first in
    let within : k < length pairs = top.0 in
    let room = room-set pairs k 1 within top.1 (omega arith) in
    let less = free_less pairs free mid k 1 h (omega arith) first same (omega arith) in
    let next = next_vacant (set pairs k 1) mid after j less (omega arith) second in
    let count : length (set pairs k 1) ≡ length pairs = length-set pairs k 1 in
    let low = next.0 in
    let apart : j ≢ k = λ e. let z : get_or (set pairs k 1) j 0 ≡ 1 =
    ap (λ t. get_or (set pairs k 1) t 0) e ∙ get_or-set_same pairs k 1 0 within in let y = next.1 in omega arith in
    ((omega arith), sym (get_or-set_other pairs k j 1 0 apart) ∙ next.1, apart)

-- its mate, at the slot t, may be split into the pair that is given out second
pub second_of : (pairs : List ℕ) (free mid after : FreeState) (s t k j : ℕ) → IsFree pairs free →
    1 ≤ mate_of (address_at pairs s) →
    address_at pairs t ≡ owner (has_children pairs) (mate_of (address_at pairs s)) →
    has_children pairs (mate_of (address_at pairs s) / 2) ≡ true → 2 ≤ room_of pairs →
    IsGivenOut free mid k → mid.pairs ≡ free.pairs → IsGivenOut mid after j →
    MaySplitMate pairs t k j (address_at pairs s)
second_of pairs free mid after s t k j h mate link same some first same_pairs second =
    let next = second_vacant pairs free mid after k j h some first same_pairs second in
    record {
      some = mate;
      address = link ∙ owner-split (has_children pairs) (mate_of (address_at pairs s)) same;
      within = next.0;
      free = next.1;
      apart = next.2;
    }

-- what is known of the pool's pairs stays so once the next pair is given out and a triangle has it
pub pairs_one : (most : ℕ) (pairs : List ℕ) (free mid : FreeState) (k a : ℕ) (after : List ℕ) →
    HasPairs most pairs free → 1 ≤ room_of pairs → IsGivenOut free mid k → mid.pairs ≡ free.pairs → 1 ≤ a →
    after ≡ set pairs k a → HasPairs most after mid
pairs_one most pairs free mid k a after h some next same low after_is =
    let pair_count = h.pair_count in
    let count : length after ≡ length pairs = ap length after_is ∙ length-set pairs k a in
    record {
      most_low = h.most_low;
      most_high = h.most_high;
      pair_count = omega arith;
      vacancies =
          subst (λ t. IsFree t mid) (sym after_is) (free_less pairs free mid k a h.vacancies some next same low);
    }

-- the same of two pairs, one after the other
pub pairs_two : (most : ℕ) (pairs : List ℕ) (free mid last : FreeState) (k j a b : ℕ) (after : List ℕ) →
    HasPairs most pairs free → 2 ≤ room_of pairs → IsGivenOut free mid k → mid.pairs ≡ free.pairs →
    IsGivenOut mid last j → last.pairs ≡ mid.pairs → 1 ≤ a → 1 ≤ b → after ≡ set (set pairs k a) j b →
    HasPairs most after last
pairs_two most pairs free mid last k j a b after h some first same second same_last low_a low_b after_is =
    let one = pairs_one most pairs free mid k a (set pairs k a) h (omega arith) first same low_a refl in
    let top = next_vacant pairs free mid k h.vacancies (omega arith) first in
    let room = room-set pairs k a top.0 top.1 low_a in
    pairs_one most (set pairs k a) mid last j b after one (omega arith) second same_last low_b after_is

-- a forest whose set is closed is a mesh if there was one in this grid before
pub mesh_by : (n : ℕ) (pairs parents : List ℕ) (nodes : List Node) (pairs' parents' : List ℕ) (nodes' : List Node) →
    IsMesh n pairs parents nodes → IsForest pairs' parents' nodes' →
    IsClosed n (split_set pairs') → IsMesh n pairs' parents' nodes'
mesh_by n pairs parents nodes pairs' parents' nodes' h forest closed = record {
  n_low = h.n_low;
  n_high = h.n_high;
  forest = forest;
  closed = closed;
}

-- ---- from what a caller sees to the fields

-- so many pairs are free
pub room_seen : (most : ℕ) (pairs : List ℕ) (free : FreeState) (seen : List ℕ) → HasPairs most pairs free →
    pairs ≡ seen → length free.returned + free.pairs ≡ room_of seen + free.unused
room_seen most pairs free seen h e =
    let all = h.vacancies.all in
    let count = h.vacancies.count in
    let z : room_of pairs ≡ room_of seen = ap room_of e in
    omega arith

-- a pair that is given out is a small number
pub next_small : (most : ℕ) (pairs : List ℕ) (free after : FreeState) (k : ℕ) → HasPairs most pairs free →
    1 ≤ room_of pairs → IsGivenOut free after k → k < 2 ^ 31
next_small most pairs free after k h some next =
    let v = (next_vacant pairs free after k h.vacancies some next).0 in
    let high = h.most_high in
    let pair_count = h.pair_count in
    omega arith

-- the leaf at s may be split where the grid and the pairs that a caller sees allow it
pub may_split_seen : (n most : ℕ) (pairs : List ℕ) (free after : FreeState) (s k : ℕ) (seen_n : ℕ) (seen : List ℕ) →
    n ≡ seen_n → pairs ≡ seen → n ≤ 14 → HasPairs most pairs free → IsLive seen s →
    has_children seen (address_at seen s) ≡ false → level_of (address_at seen s) < 2 * seen_n → 1 ≤ room_of seen →
    IsGivenOut free after k → MaySplit n pairs s k (address_at pairs s)
may_split_seen n most pairs free after s k seen_n seen e_n e_pairs high h live leaf coarse room next =
    let same : room_of pairs ≡ room_of seen = ap room_of e_pairs in
    let at : address_at pairs s ≡ address_at seen s = ap (λ t. address_at t s) e_pairs in
    let level : level_of (address_at pairs s) ≡ level_of (address_at seen s) = ap level_of at in
    may_split_of n pairs free after s k high h.vacancies (omega arith)
    (ap (λ t. has_children t (address_at t s)) e_pairs ∙ leaf) (omega arith) (omega arith) next

-- where the mate is split too, two pairs are free
pub mate_room : (pairs : List ℕ) (s t : ℕ) (seen : List ℕ) → pairs ≡ seen →
    ((mate_of (address_at pairs s) ≡ 0) × (t ≡ nowhere)) ⊎ ((1 ≤ mate_of (address_at pairs s))
    × (address_at pairs t ≡ owner (has_children pairs) (mate_of (address_at pairs s)))) → t ≢ nowhere →
    (1 ≤ mate_of (address_at seen s) → 2 ≤ room_of seen) →
    (2 ≤ room_of pairs) × (1 ≤ mate_of (address_at seen s)) × (1 ≤ mate_of (address_at pairs s))
    × (address_at pairs t ≡ owner (has_children pairs) (mate_of (address_at pairs s)))
mate_room pairs s t seen e_pairs link given room =
    let same : room_of pairs ≡ room_of seen = ap room_of e_pairs in
    let found = ⊎_elim (λ v. absurd (given v.1)) (λ v. v) link in
    let mate : 1 ≤ mate_of (address_at seen s) = let z : mate_of (address_at pairs s) ≡ mate_of (address_at seen s) =
    ap (λ t. mate_of (address_at t s)) e_pairs in let y = found.0 in omega arith in
    let two = room mate in ((omega arith), mate, found.0, found.1)

-- where the base is linked to a slot, the mate there may be split too, and two pairs are free
pub second_seen : (most : ℕ) (pairs : List ℕ) (free mid after : FreeState) (s t k j : ℕ) (seen : List ℕ) →
    pairs ≡ seen → HasPairs most pairs free →
    ((mate_of (address_at pairs s) ≡ 0) × (t ≡ nowhere)) ⊎ ((1 ≤ mate_of (address_at pairs s))
    × (address_at pairs t ≡ owner (has_children pairs) (mate_of (address_at pairs s)))) → t ≢ nowhere →
    (1 ≤ mate_of (address_at seen s) → has_children seen (mate_of (address_at seen s) / 2) ≡ true) →
    (1 ≤ mate_of (address_at seen s) → 2 ≤ room_of seen) →
    IsGivenOut free mid k → mid.pairs ≡ free.pairs → IsGivenOut mid after j →
    (2 ≤ room_of pairs) × MaySplitMate pairs t k j (address_at pairs s)
second_seen most pairs free mid after s t k j seen e_pairs h link given level room first same second =
    let found = mate_room pairs s t seen e_pairs link given room in (
      found.0,
      second_of pairs free mid after s t k j h.vacancies found.2 found.3
          (ap (λ t. has_children t (mate_of (address_at t s) / 2)) e_pairs ∙ level found.1) found.0 first same second,
    )

-- ---- what a split does

-- at the border, to give the free pair k to the triangle at s is to split it
pub IsSplit-alone : (n : ℕ) (pairs after : List ℕ) (s k : ℕ) → MaySplit n pairs s k (address_at pairs s) →
    mate_of (address_at pairs s) ≡ 0 → after ≡ set pairs k (address_at pairs s) →
    IsSplit pairs after (address_at pairs s)
IsSplit-alone n pairs after s k o none is =
    let a : ℕ = address_at pairs s in let low = o.low in
    subst (λ t. IsSplit pairs t a) (sym is) (record {
      grown = record {
        kept = λ p h. set_more pairs k a p o.within o.free h;
        added = has_children-set (set pairs k a) a o.low (has_children-added pairs k a o.within (omega arith));
        mate = λ some. absurd (omega arith);
        only = λ p h. elim (set_only pairs k a p o.within o.free h) [ inl old ↦ inl old | inr e ↦ inr (inl e) ];
      };
      slots = λ r live. address-old pairs k a r (live_apart pairs k r o.free live);
    })

-- in a diamond, to give a free pair to the triangle at s and one to its mate is to split it
pub IsSplit-both : (n : ℕ) (pairs after : List ℕ) (s t k j : ℕ) → MaySplit n pairs s k (address_at pairs s) →
    MaySplitMate pairs t k j (address_at pairs s) →
    after ≡ set (set pairs k (address_at pairs s)) j (mate_of (address_at pairs s)) →
    IsSplit pairs after (address_at pairs s)
IsSplit-both n pairs after s t k j o two is =
    let a : ℕ = address_at pairs s in let low = o.low in let some = two.some in let b = mate_of-low a low some in
    let count : length (set pairs k a) ≡ length pairs = length-set pairs k a in
    let within : j < length (set pairs k a) = let w = two.within in omega arith in
    let free : get_or (set pairs k a) j 0 ≡ 0 = get_or-set_other pairs k j a 0 two.apart ∙ two.free in
    subst (λ t. IsSplit pairs t a) (sym is) (record {
      grown = record {
        kept = λ p h. set_more (set pairs k a) j (mate_of a) p within free (set_more pairs k a p o.within o.free h);
        added = set_more (set pairs k a) j (mate_of a) a within free
            (has_children-set (set pairs k a) a o.low (has_children-added pairs k a o.within (omega arith)));
        mate = λ _. has_children-set (set (set pairs k a) j (mate_of a)) (mate_of a) b
            (has_children-added (set pairs k a) j (mate_of a) within (omega arith));
        only = λ p h. elim (set_only (set pairs k a) j (mate_of a) p within free h) [
          | inl old ↦ elim (set_only pairs k a p o.within o.free old) [ inl older ↦ inl older | inr e ↦ inr (inl e) ]
          | inr e ↦ inr (inr (some, e))
        ];
      };
      slots = λ r live.
          let first : address_at (set pairs k a) r ≡ address_at pairs r =
          address-old pairs k a r (live_apart pairs k r o.free live) in
          address-old (set pairs k a) j (mate_of a) r (live_apart (set pairs k a) j r free (omega arith)) ∙ first;
    })

-- a triangle whose base is linked to nowhere has its base on the border
pub border_of : (most : ℕ) (pairs : List ℕ) (free : FreeState) (s t : ℕ) → HasPairs most pairs free → IsLive pairs s →
    ((mate_of (address_at pairs s) ≡ 0) × (t ≡ nowhere)) ⊎ ((1 ≤ mate_of (address_at pairs s))
    × (address_at pairs t ≡ owner (has_children pairs) (mate_of (address_at pairs s)))) → t ≡ nowhere →
    has_children pairs 1 ≡ true → mate_of (address_at pairs s) ≡ 0
border_of most pairs free s t h live link none root = ⊎_elim (λ v. v.0)
    (λ v. let two = mate_of-low (address_at pairs s) live v.0 in
    let o = owner-low (has_children pairs) (mate_of (address_at pairs s)) root two in
    let count = h.pair_count in let high = h.most_high in
    let z : get_or pairs (t / 2) 0 ≡ 0 = get_or_past pairs (t / 2) 0 (omega arith) in
    let at = v.1 in absurd (omega arith)) link

-- ---- a pair is freed

-- a pair in use that is freed is one free pair more
pub room-free : (pairs : List ℕ) (k : ℕ) → k < length pairs → 1 ≤ get_or pairs k 0 →
    room_of (set pairs k 0) ≡ room_of pairs + 1
room-free pairs k within used =
    let f : ℕ → ℕ = λ t. cond (nat_eq t 0) 1 0 in
    let all = sum_by-set f pairs k 0 0 within in
    let old : f (get_or pairs k 0) ≡ 0 = rw (ne_eqb (get_or pairs k 0) 0 (λ z. omega arith)) refl in
    omega arith

-- there is space for a pair in use among those that were given back, and with it the free pairs are right again
pub free_more : (pairs : List ℕ) (before after : FreeState) (k : ℕ) → IsFree pairs before → k < length pairs →
    1 ≤ get_or pairs k 0 → (length before.returned < before.unused)
    × (after.returned ≡ before.returned ++ (k ∷ []) → after.unused ≡ before.unused → after.pairs ≡ before.pairs →
    IsFree (set pairs k 0) after)
free_more pairs before after k h within used =
    let count : length (set pairs k 0) ≡ length pairs = length-set pairs k 0 in
    let room : room_of (set pairs k 0) ≡ room_of pairs + 1 = room-free pairs k within used in
    let most : room_of (set pairs k 0) ≤ length (set pairs k 0) =
    count_by-le-length (λ t. nat_eq t 0) (set pairs k 0) in
    let all_is = h.all in let within_is = h.within in let count_is = h.count in
    let below : k < before.unused =
    ⊎_elim (λ w. w) (λ past. absurd (let z = h.fresh k past in omega arith)) (cases_lt k before.unused) in
    let fresh : (i : ℕ) → i < length before.returned → get_or before.returned i 0 ≢ k = λ i less e. let v =
    (h.vacant i less).1 in let z : get_or pairs (get_or before.returned i 0) 0 ≡ get_or pairs k 0 =
    ap (λ t. get_or pairs t 0) e in omega arith in (
      (omega arith),
      λ is same_unused same_pairs.
          let long : length after.returned ≡ length before.returned + 1 =
          ap length is ∙ length_push before.returned k in
          let kept : (i : ℕ) → i < length before.returned → get_or after.returned i 0 ≡ get_or before.returned i 0 =
          λ i less. ap (λ t. get_or t i 0) is ∙ get_or_append_left before.returned (k ∷ []) 0 i less in
          let last : (i : ℕ) → length before.returned ≡ i → get_or after.returned i 0 ≡ k =
          λ i e. ap (λ t. get_or t i 0) is ∙ get_or_push before.returned k 0 i e in
          record {
            all = omega arith;
            within = omega arith;
            count = omega arith;
            fresh = λ i high. get_or-set_other pairs k i 0 0 (λ e. omega arith) ∙ h.fresh i (omega arith);
            vacant = λ i less. ⊎_elim
                (λ old. let v = h.vacant i old in let e = kept i old in let w = v.0 in (
                  omega arith,
                  ap (λ t. get_or (set pairs k 0) t 0) e
                      ∙ get_or-set_other pairs k (get_or before.returned i 0) 0 0 (fresh i old) ∙ v.1,
                ))
                (λ top.
                let e = last i (omega arith) in
                (omega arith, ap (λ t. get_or (set pairs k 0) t 0) e ∙ get_or-set_same pairs k 0 0 within))
                (cases_lt i (length before.returned));
            distinct = λ i j p q e. ⊎_elim
                (λ old_i. ⊎_elim
                (λ old_j. h.distinct i j old_i old_j (sym (kept i old_i) ∙ e ∙ kept j old_j))
                (λ top. absurd (fresh i old_i (sym (kept i old_i) ∙ e ∙ last j (omega arith))))
                (cases_lt j (length before.returned)))
                (λ top. ⊎_elim
                (λ old_j. absurd (fresh j old_j (sym (kept j old_j) ∙ sym e ∙ last i (omega arith))))
                (λ also. omega arith) (cases_lt j (length before.returned)))
                (cases_lt i (length before.returned));
          },
    )
