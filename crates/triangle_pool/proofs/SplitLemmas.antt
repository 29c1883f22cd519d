-- Splitting a diamond, or a triangle at the border.
use Rattle.std.proofs.Common.{◌≡◌, ap, sym, ◌∙◌, true, false, ℕ, ◌+◌, ◌*◌, ◌/◌, ◌^◌, ◌<◌, ◌≤◌, refl, arith, inl, inr}
use Rattle.std.proofs.Common.{⊎_elim, subst, List, length, get_or, set, get_or-set_other, get_or-set_same}
use Rattle.std.proofs.lemmas.Bool.{cases_eq, cases_Bool, true≢false}
use Rattle.std.proofs.Math.ListN.{length-set}
use Rattle.mesh_defs.specs.Triangle.{level_of, IsSplittable, IsMate}
use Rattle.mesh_defs.specs.ClosedSet.{IsClosed}
use Rattle.bintree_laws.proofs.LevelLemmas.{level_of-below}
use Rattle.mesh_laws.specs.Edge.{mate_of}
use Rattle.mesh_laws.specs.Net.{nowhere}
use Rattle.mesh_laws.proofs.MateLemmas.{mate_of-back, mate_of-low, mate_of-level, mate_of-other}
use Rattle.mesh_laws.proofs.NetLemmas.{IsWhole, read_link, read_more}
use Rattle.mesh_laws.proofs.ChainLemmas.{closed_more}
use Rattle.mesh_laws.proofs.OwnerLemmas.{owner-whole}
use Rattle.mesh_laws.proofs.IsMateLemmas.{IsMate-mate_of, mate_of-IsMate}
use Rattle.triangle_pool.specs.declared.forest.Node.{Node}
use Rattle.mesh_laws.specs.Slots.{address_at, has_children, split_set}
use Rattle.triangle_pool.specs.Links.{node_at, edge_link, net_of, ArePairs, IsForest, IsAcross, MayHalve, MaySplit}
use Rattle.triangle_pool.specs.Links.{MaySplitMate}
use Rattle.mesh_laws.proofs.SlotLemmas.{has_children-added, has_children-kept, has_children_low, set-has_children}
use Rattle.mesh_laws.proofs.SlotLemmas.{has_children-set, slot_of, set_more, set_only}
use Rattle.triangle_pool.proofs.RelinkLemmas.{edge-left, edge-right}
use Rattle.triangle_pool.proofs.HalveLemmas.{tree_of, child_shut, address-old, live_apart}

-- ---- the set of split triangles

-- in a forest with a closed set, what is split has its children in slots, and is closed under mates
pub whole_of : (n : ℕ) (pairs parents : List ℕ) (nodes : List Node) → IsForest pairs parents nodes →
    IsClosed n (split_set pairs) → IsWhole (net_of pairs nodes)
whole_of n pairs parents nodes forest closed = record {
  tree = tree_of pairs nodes forest.sound;
  mate = λ p low is some.
      let coarse = (closed.splittable p (has_children-set pairs p low is)).coarse in
      set-has_children pairs (mate_of p)
      (closed.mate p (mate_of p) (has_children-set pairs p low is) (IsMate-mate_of n p low (omega arith) some));
  slot_of = λ c low up. slot_of pairs c low up;
}

-- ---- the set with one pair more

-- ---- the links of a leaf's legs

-- the left leg of a leaf is linked to the leaf across it, or on the border to nowhere
pub left_across : (n : ℕ) (pairs parents : List ℕ) (nodes : List Node) (s a : ℕ) → IsForest pairs parents nodes →
    IsClosed n (split_set pairs) →
    address_at pairs s ≡ a → 2 ≤ a → has_children pairs a ≡ false → IsAcross pairs (2 * a) (node_at nodes s).left
left_across n pairs parents nodes s a forest closed is low leaf =
    let half : 2 * a / 2 ≡ a = omega arith in
    let link : edge_link (node_at nodes s) (address_at pairs s) (2 * a) ≡ (node_at nodes s).left =
    edge-left (node_at nodes s) (address_at pairs s) (2 * a) (λ w. omega arith) (omega arith) in
    subst (λ t. IsAcross pairs (2 * a) t) link (read_link (net_of pairs nodes) s (2 * a)
    (whole_of n pairs parents nodes forest closed) forest.linked (omega arith)
    (owner-whole (has_children pairs) (2 * a) (ap (has_children pairs) half ∙ leaf) ∙ half ∙ sym is))

-- the same of its right leg
pub right_across : (n : ℕ) (pairs parents : List ℕ) (nodes : List Node) (s a : ℕ) → IsForest pairs parents nodes →
    IsClosed n (split_set pairs) →
    address_at pairs s ≡ a → 2 ≤ a → has_children pairs a ≡ false → IsAcross pairs (2 * a + 1) (node_at nodes s).right
right_across n pairs parents nodes s a forest closed is low leaf =
    let half : (2 * a + 1) / 2 ≡ a = omega arith in
    let link : edge_link (node_at nodes s) (address_at pairs s) (2 * a + 1) ≡ (node_at nodes s).right =
    edge-right (node_at nodes s) (address_at pairs s) (2 * a + 1) (λ w. omega arith) (omega arith) in
    subst (λ t. IsAcross pairs (2 * a + 1) t) link (read_link (net_of pairs nodes) s (2 * a + 1)
    (whole_of n pairs parents nodes forest closed) forest.linked (omega arith)
    (owner-whole (has_children pairs) (2 * a + 1) (ap (has_children pairs) half ∙ leaf) ∙ half ∙ sym is))

below_23 : (a n : ℕ) → 2 ≤ a → n ≤ 14 → level_of a < 2 * n → a < 2 ^ 29
below_23 a n low high coarse = (level_of-below a 28 low).0 (omega arith)

-- the mate of a leaf is not split, nor are its children
mate_shut : (n : ℕ) (pairs parents : List ℕ) (nodes : List Node) (s k a : ℕ) → IsForest pairs parents nodes →
    IsClosed n (split_set pairs) → MaySplit n pairs s k a →
    has_children pairs (mate_of a) ≡ false
mate_shut n pairs parents nodes s k a forest closed o =
    let low = o.low in
    ⊎_elim (λ yes. let some : 1 ≤ mate_of a = has_children_low pairs (mate_of a) yes in
    let two = mate_of-low a low some in
    let back : mate_of (mate_of a) ≡ a = mate_of-back a low some in
    let whole = whole_of n pairs parents nodes forest closed in
    absurd
    (true≢false (sym (ap (has_children pairs) (sym back) ∙ whole.mate (mate_of a) two yes (omega arith)) ∙ o.leaf)))
    (λ no. no) (cases_Bool (has_children pairs (mate_of a)))

-- a leaf that may be split may be halved while its mate's children have no pair
pub ready_first : (n : ℕ) (pairs parents : List ℕ) (nodes : List Node) (s k a : ℕ) → IsForest pairs parents nodes →
    IsClosed n (split_set pairs) → MaySplit n pairs s k a →
    MayHalve pairs s k a nowhere
ready_first n pairs parents nodes s k a forest closed o =
    let shut = mate_shut n pairs parents nodes s k a forest closed o in
    let low = o.low in record {
      address = o.address;
      low = o.low;
      high = below_23 a n o.low o.n_high o.coarse;
      leaf = o.leaf;
      within = o.within;
      free = o.free;
      childless = λ some. let two = mate_of-low a low some in (
        child_shut pairs (2 * mate_of a) (mate_of a) forest.sound shut (omega arith) (omega arith),
        child_shut pairs (2 * mate_of a + 1) (mate_of a) forest.sound shut (omega arith) (omega arith),
      );
      alone = λ _. shut;
      paired = λ some. absurd (some refl);
    }

-- ---- the second half of a diamond

-- once a is halved into the pair k, its mate may be halved into the pair j
pub ready_second : (n : ℕ) (pairs parents : List ℕ) (nodes : List Node) (s t k j a : ℕ) → IsForest pairs parents nodes →
    IsClosed n (split_set pairs) → MaySplit n pairs s k a →
    MaySplitMate pairs t k j a → MayHalve (set pairs k a) t j (mate_of a) k
ready_second n pairs parents nodes s t k j a forest closed o two =
    let low = o.low in let mate = two.some in let b = mate_of-low a low mate in
    let back : mate_of (mate_of a) ≡ a = mate_of-back a low mate in
    let other = mate_of-other a low mate in
    let shut = mate_shut n pairs parents nodes s k a forest closed o in
    let short = forest.sound.short in
    let within = o.within in
    let level : level_of (mate_of a) ≡ level_of a = mate_of-level a low mate in
    let coarse = o.coarse in
    let count : length (set pairs k a) ≡ length pairs = length-set pairs k a in
    let at = two.address in
    let child : (p : ℕ) → p / 2 ≡ a → has_children (set pairs k a) p ≡ false = λ p half.
    has_children-kept pairs k a p o.within o.free (omega arith)
    ∙ child_shut pairs p a forest.sound o.leaf half (omega arith) in
    record {
      address = address-old pairs k a t (live_apart pairs k t o.free (omega arith)) ∙ two.address;
      low = b;
      high = below_23 (mate_of a) n b o.n_high (omega arith);
      leaf = has_children-kept pairs k a (mate_of a) o.within o.free other ∙ shut;
      within = (let w = two.within in omega arith);
      free = get_or-set_other pairs k j a 0 two.apart ∙ two.free;
      childless = λ some. (
        ap (λ x. has_children (set pairs k a) (2 * x)) back ∙ child (2 * a) (omega arith),
        ap (λ x. has_children (set pairs k a) (2 * x + 1)) back ∙ child (2 * a + 1) (omega arith),
      );
      alone = λ none. absurd (omega arith);
      paired = λ some. ((omega arith), get_or-set_same pairs k a 0 o.within ∙ sym back);
    }

leg_second : (n : ℕ) (pairs parents more_parents : List ℕ) (nodes more : List Node) (s t k j a e : ℕ) →
    IsForest pairs parents nodes → IsClosed n (split_set pairs) → MaySplit n pairs s k a →
    MaySplitMate pairs t k j a → IsForest (set pairs k a) more_parents more → e / 2 ≡ mate_of a →
    IsAcross (set pairs k a) e (edge_link (node_at more t) (address_at (set pairs k a) t) e)
leg_second n pairs parents more_parents nodes more s t k j a e forest closed o two f half =
    let low = o.low in let mate = two.some in let b = mate_of-low a low mate in
    let shut = mate_shut n pairs parents nodes s k a forest closed o in
    let other = mate_of-other a low mate in
    let at = two.address in
    let at_more : address_at (set pairs k a) t ≡ mate_of a =
    address-old pairs k a t (live_apart pairs k t o.free (omega arith)) ∙ two.address in
    let shut_more : has_children (set pairs k a) (mate_of a) ≡ false =
    has_children-kept pairs k a (mate_of a) o.within o.free other ∙ shut in
    read_more (net_of pairs nodes) (net_of (set pairs k a) more) t e
    (whole_of n pairs parents nodes forest closed) f.linked f.sound.tree.root
    (λ c c_low up. slot_of (set pairs k a) c c_low up)
    (λ p yes. elim (cases_eq p a) [
      | inl same ↦ ap (has_children (set pairs k a)) same ∙ has_children-added pairs k a o.within (omega arith)
      | inr n ↦ has_children-kept pairs k a p o.within o.free n ∙ yes
    ])
    (omega arith) (owner-whole (has_children pairs) e (ap (has_children pairs) half ∙ shut) ∙ half ∙ sym at)
    (omega arith) (owner-whole (has_children (set pairs k a)) e (ap (has_children (set pairs k a)) half ∙ shut_more)
    ∙ half ∙ sym at_more)

-- once a is halved, the left leg of its mate is still linked to the leaf across it, or on the border to nowhere
pub left_second : (n : ℕ) (pairs parents more_parents : List ℕ) (nodes more : List Node) (s t k j a : ℕ) →
    IsForest pairs parents nodes → IsClosed n (split_set pairs) → MaySplit n pairs s k a →
    MaySplitMate pairs t k j a → IsForest (set pairs k a) more_parents more →
    IsAcross (set pairs k a) (2 * mate_of a) (node_at more t).left
left_second n pairs parents more_parents nodes more s t k j a forest closed o two f =
    let low = o.low in let mate = two.some in let b = mate_of-low a low mate in let at = two.address in
    let at_more : address_at (set pairs k a) t ≡ mate_of a =
    address-old pairs k a t (live_apart pairs k t o.free (omega arith)) ∙ two.address in
    subst (λ x. IsAcross (set pairs k a) (2 * mate_of a) x)
    (edge-left (node_at more t) (address_at (set pairs k a) t) (2 * mate_of a) (λ w. omega arith) (omega arith))
    (leg_second n pairs parents more_parents nodes more s t k j a (2 * mate_of a) forest closed o two f (omega arith))

-- the same of its right leg
pub right_second : (n : ℕ) (pairs parents more_parents : List ℕ) (nodes more : List Node) (s t k j a : ℕ) →
    IsForest pairs parents nodes → IsClosed n (split_set pairs) → MaySplit n pairs s k a →
    MaySplitMate pairs t k j a → IsForest (set pairs k a) more_parents more →
    IsAcross (set pairs k a) (2 * mate_of a + 1) (node_at more t).right
right_second n pairs parents more_parents nodes more s t k j a forest closed o two f =
    let low = o.low in let mate = two.some in let b = mate_of-low a low mate in let at = two.address in
    let at_more : address_at (set pairs k a) t ≡ mate_of a =
    address-old pairs k a t (live_apart pairs k t o.free (omega arith)) ∙ two.address in
    subst (λ x. IsAcross (set pairs k a) (2 * mate_of a + 1) x) (edge-right (node_at more t)
    (address_at (set pairs k a) t) (2 * mate_of a + 1) (λ w. omega arith) (omega arith))
    (leg_second n pairs parents more_parents nodes more s t k j a
    (2 * mate_of a + 1) forest closed o two f (omega arith))

-- ---- the set stays closed

up_set : (n : ℕ) (pairs : List ℕ) (s a : ℕ) → ArePairs pairs → address_at pairs s ≡ a → 4 ≤ a →
    split_set pairs (a / 2) ≡ true
up_set n pairs s a h at deep =
    has_children-set pairs (a / 2) (omega arith)
    (ap (λ t. has_children pairs (t / 2)) (sym at) ∙ h.tree.live s (omega arith))

-- a split at the border leaves the set closed
pub closed_one : (n : ℕ) (pairs parents : List ℕ) (nodes : List Node) (s k a : ℕ) → IsForest pairs parents nodes →
    IsClosed n (split_set pairs) → MaySplit n pairs s k a →
    mate_of a ≡ 0 → IsClosed n (split_set (set pairs k a))
closed_one n pairs parents nodes s k a forest closed o none =
    let low = o.low in
    let splittable : IsSplittable n a = record { low = o.low; coarse = o.coarse } in
    let added : split_set (set pairs k a) a ≡ true =
    has_children-set (set pairs k a) a low (has_children-added pairs k a o.within (omega arith)) in
    let no_mate : (q : ℕ) → IsMate n a q → q ≡ a = λ q m. let is =
    mate_of-IsMate n a q low (let c = o.coarse in omega arith) m in absurd (let l = m.address.low in omega arith) in
    closed_more n (split_set pairs) (split_set (set pairs k a)) a a closed
    (λ p h. set_more pairs k a p o.within o.free h) added added
    (λ p h. elim (set_only pairs k a p o.within o.free h) [ inl old ↦ inl old | inr e ↦ inr (inl e) ])
    splittable splittable (λ deep. up_set n pairs s a forest.sound o.address deep)
    (λ deep. up_set n pairs s a forest.sound o.address deep) no_mate no_mate

-- and so does that of a diamond
pub closed_two : (n : ℕ) (pairs parents : List ℕ) (nodes : List Node) (s t k j a : ℕ) → IsForest pairs parents nodes →
    IsClosed n (split_set pairs) → MaySplit n pairs s k a →
    MaySplitMate pairs t k j a → IsClosed n (split_set (set (set pairs k a) j (mate_of a)))
closed_two n pairs parents nodes s t k j a forest closed o two =
    let low = o.low in let mate = two.some in let b = mate_of-low a low mate in
    let coarse = o.coarse in
    let level : level_of (mate_of a) ≡ level_of a = mate_of-level a low mate in
    let back : mate_of (mate_of a) ≡ a = mate_of-back a low mate in
    let one : List ℕ = set pairs k a in
    let count : length (set pairs k a) ≡ length pairs = length-set pairs k a in
    let within : j < length (set pairs k a) = let w = two.within in omega arith in
    let free : get_or (set pairs k a) j 0 ≡ 0 = get_or-set_other pairs k j a 0 two.apart ∙ two.free in
    let added : split_set (set pairs k a) a ≡ true =
    has_children-set (set pairs k a) a low (has_children-added pairs k a o.within (omega arith)) in
    closed_more n (split_set pairs) (split_set (set (set pairs k a) j (mate_of a))) a (mate_of a) closed
    (λ p h. set_more (set pairs k a) j (mate_of a) p within free (set_more pairs k a p o.within o.free h))
    (set_more (set pairs k a) j (mate_of a) a within free added)
    (has_children-set (set (set pairs k a) j (mate_of a)) (mate_of a) b
    (has_children-added (set pairs k a) j (mate_of a) within (omega arith)))
    (λ p h. elim (set_only (set pairs k a) j (mate_of a) p within free h) [
      | inl old ↦ elim (set_only pairs k a p o.within o.free old) [ inl older ↦ inl older | inr e ↦ inr (inl e) ]
      | inr e ↦ inr (inr e)
    ])
    (record { low = o.low; coarse = o.coarse }) (record { low = b; coarse = omega arith })
    (λ deep. up_set n pairs s a forest.sound o.address deep)
    (λ deep. up_set n pairs t (mate_of a) forest.sound two.address deep)
    (λ q m. sym (mate_of-IsMate n a q low (omega arith) m))
    (λ q m. sym (mate_of-IsMate n (mate_of a) q b (omega arith) m) ∙ back)

-- once a has its pair, its mate is still at its slot
pub second_address : (n : ℕ) (pairs : List ℕ) (s t k j a : ℕ) → MaySplit n pairs s k a → MaySplitMate pairs t k j a →
    address_at (set pairs k a) t ≡ mate_of a
second_address n pairs s t k j a o two =
    let mate = two.some in let b = mate_of-low a o.low mate in let at = two.address in
    address-old pairs k a t (live_apart pairs k t o.free (omega arith)) ∙ two.address
