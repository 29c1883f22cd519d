-- The roles of slots, and the leaves and diamonds of the pool's set.
use Rattle.std.proofs.Common.{◌≡◌, ℕ, zero, suc, ◌+◌, ◌*◌, ◌/◌, ◌≤◌, ◌⊎◌, ◌||◌, ◌&&◌, true, false, not, nat_eq, nat_le}
use Rattle.std.proofs.Common.{inl, inr, List, Contains, length, get_or, refl, sym, ◌∙◌, ap, subst, arith, ⊎_elim, Bool}
use Rattle.std.proofs.Common.{eqb, nat_lt}
use Rattle.std.proofs.lemmas.Bool.{cases_lt, both_ways, and_parts, and_from, or_cases, or_left, or_right, leb-true}
use Rattle.std.proofs.lemmas.Bool.{le-leb, not-true, not_from_false, not_from_true, and_right, eqb-true, eq-eqb, lt-ltb}
use Rattle.std.proofs.lemmas.Bool.{false_from_ne_true, or_parts, or_from}
use Rattle.mesh_defs.specs.Triangle.{IsMate, level_of}
use Rattle.mesh_defs.specs.ClosedSet.{leaves_of, among}
use Rattle.mesh_laws.proofs.DescentLemmas.{IsAddress-level}
use Rattle.mesh_laws.specs.Diamond.{IsInDiamond, CanMerge}
use Rattle.mesh_laws.proofs.LeafLemmas.{leaf-where}
use Rattle.mesh_laws.proofs.RankLemmas.{at_place}
use Rattle.mesh_laws.specs.Edge.{mate_of}
use Rattle.mesh_laws.specs.Slots.{address_at, has_children, split_set, room_of, IsLive, IsPool, HasTwoLeaves}
use Rattle.mesh_laws.specs.Slots.{IsMergeReady, HasLeaf}
use Rattle.mesh_laws.proofs.MateLemmas.{mate_of-low, mate_of-back}
use Rattle.mesh_laws.proofs.IsMateLemmas.{IsMate-mate_of, mate_of-IsMate}
use Rattle.mesh_laws.proofs.LeafAcrossLemmas.{leaf-level}
use Rattle.mesh_laws.proofs.SlotLemmas.{IsLeafOf-slot, has_children-set, set-has_children, set_false, member_mate}
use Rattle.mesh_laws.proofs.SlotLemmas.{member_parent, members_count, leaves_count, among-split_list, leaves-split_list}
use Rattle.mesh_laws.specs.Deferred.{IsEntry, leaf as of_leaf, member as of_diamond}
use Rattle.mesh_laws.specs.Steps.{leaf_count}
use Rattle.mesh_laws.specs.Chief.{chief_of}
use Rattle.triangle_pool.specs.Slots.{PoolState}
use Rattle.roam_mesh.specs.Mesh.{slot_of, pool_members}
use Rattle.roam_mesh.specs.Parts.{is_leaf_at, is_bare, is_ready, is_ready_at, is_chief_at, is_entry_at, is_out}
use Rattle.roam_mesh.specs.Change.{chief_slot}
use Rattle.roam_mesh.proofs.PlaceLemmas.{address-slot_of}
use Rattle.mesh_laws.proofs.ChiefLemmas.{chief_of-mate, chief_of-cases}

-- how many leaves the pool's set has
pub members_leaves : (pool : PoolState) → IsPool pool.n pool.pairs →
    leaf_count pool.n (pool_members pool) + room_of pool.pairs ≡ length pool.pairs + 1
members_leaves pool is =
    let same : leaf_count pool.n (pool_members pool) ≡ length (leaves_of pool.n (split_set pool.pairs)) =
    ap length (leaves-split_list pool.n pool.pairs is) in
    let count = leaves_count pool.n pool.pairs is in omega arith

-- what the test of a leaf tells
pub leaf_parts : (pairs : List ℕ) (s : ℕ) → is_leaf_at pairs s ≡ true → HasLeaf pairs s
leaf_parts pairs s leaf =
    let parts = and_parts (nat_le 2 (address_at pairs s)) (not (has_children pairs (address_at pairs s))) leaf in
    record {
      live = leb-true 2 (address_at pairs s) parts.0;
      leaf = not-true (has_children pairs (address_at pairs s)) parts.1;
    }

-- and what it needs
pub leaf_from : (pairs : List ℕ) (s : ℕ) → HasLeaf pairs s → is_leaf_at pairs s ≡ true
leaf_from pairs s is =
    and_from (nat_le 2 (address_at pairs s)) (not (has_children pairs (address_at pairs s)))
    (le-leb 2 (address_at pairs s) is.live) (not_from_false (has_children pairs (address_at pairs s)) is.leaf)

-- what the test of a bare triangle tells
bare_parts : (pairs : List ℕ) (a : ℕ) → is_bare pairs a ≡ true → HasTwoLeaves pairs a
bare_parts pairs a bare =
    let parts = and_parts (has_children pairs a)
    (not (has_children pairs (2 * a)) && not (has_children pairs (2 * a + 1))) bare in
    let both = and_parts (not (has_children pairs (2 * a))) (not (has_children pairs (2 * a + 1))) parts.1 in
    record {
      split = parts.0;
      left = not-true (has_children pairs (2 * a)) both.0;
      right = not-true (has_children pairs (2 * a + 1)) both.1;
    }

bare_from : (pairs : List ℕ) (a : ℕ) → HasTwoLeaves pairs a → is_bare pairs a ≡ true
bare_from pairs a two =
    and_from (has_children pairs a) (not (has_children pairs (2 * a)) && not (has_children pairs (2 * a + 1))) two.split
    (and_from (not (has_children pairs (2 * a))) (not (has_children pairs (2 * a + 1)))
    (not_from_false (has_children pairs (2 * a)) two.left) (not_from_false (has_children pairs (2 * a + 1)) two.right))

-- what the test of a diamond that can be merged tells
pub ready_parts : (pairs : List ℕ) (a : ℕ) → is_ready pairs a ≡ true → IsMergeReady pairs a
ready_parts pairs a ready =
    let parts = and_parts (is_bare pairs a) (nat_eq (mate_of a) 0 || is_bare pairs (mate_of a)) ready in
    record {
      own = bare_parts pairs a parts.0;
      mate = λ some. bare_parts pairs (mate_of a) (⊎_elim
          (λ none. absurd (let z = eqb-true (mate_of a) 0 none in omega arith))
          (λ bare. bare)
          (or_cases (nat_eq (mate_of a) 0) (is_bare pairs (mate_of a)) parts.1));
    }

-- and what it needs
pub ready_from : (pairs : List ℕ) (a : ℕ) → IsMergeReady pairs a → is_ready pairs a ≡ true
ready_from pairs a ready =
    and_from (is_bare pairs a) (nat_eq (mate_of a) 0 || is_bare pairs (mate_of a)) (bare_from pairs a ready.own) (⊎_elim
    (λ none. or_left (nat_eq (mate_of a) 0) (is_bare pairs (mate_of a)) (eq-eqb (mate_of a) 0 (omega arith)))
    (λ some. or_right (nat_eq (mate_of a) 0) (is_bare pairs (mate_of a))
    (bare_from pairs (mate_of a) (ready.mate some)))
    (cases_lt (mate_of a) 1))

-- and that test at a slot
pub ready_at_parts : (pairs : List ℕ) (s : ℕ) → is_ready_at pairs s ≡ true →
    IsLive pairs s × IsMergeReady pairs (address_at pairs s)
ready_at_parts pairs s ready =
    let parts = and_parts (nat_le 2 (address_at pairs s)) (is_ready pairs (address_at pairs s)) ready in
    (leb-true 2 (address_at pairs s) parts.0, ready_parts pairs (address_at pairs s) parts.1)

-- and what it needs
pub ready_at_from : (pairs : List ℕ) (s : ℕ) → IsLive pairs s → IsMergeReady pairs (address_at pairs s) →
    is_ready_at pairs s ≡ true
ready_at_from pairs s live ready =
    and_from (nat_le 2 (address_at pairs s)) (is_ready pairs (address_at pairs s)) (le-leb 2 (address_at pairs s) live)
    (ready_from pairs (address_at pairs s) ready)

-- the diamond of a mate is the same
pub ready_turned : (pairs : List ℕ) (a : ℕ) → 2 ≤ a → 1 ≤ mate_of a → IsMergeReady pairs a →
    IsMergeReady pairs (mate_of a)
ready_turned pairs a low some is = record {
  own = is.mate some;
  mate = λ _. subst (λ z. HasTwoLeaves pairs z) (sym (mate_of-back a low some)) is.own;
}

-- the mate of a leaf is split no more than the leaf
pub mate_leaf : (n : ℕ) (pairs : List ℕ) (a : ℕ) → IsPool n pairs → 2 ≤ a → has_children pairs a ≡ false →
    1 ≤ mate_of a → has_children pairs (mate_of a) ≡ false
mate_leaf n pairs a pool low leaf some = false_from_ne_true (has_children pairs (mate_of a)) (λ is.
    let back = mate_of-back a low some in
    let own : has_children pairs (mate_of (mate_of a)) ≡ true = member_mate n pairs (mate_of a) pool
    (mate_of-low a low some) is (subst (λ z. 1 ≤ z) (sym back) (omega arith)) in
    both_ways (has_children pairs a) leaf (subst (λ z. has_children pairs z ≡ true) back own))

-- a slot with an entry is live
pub entry_live : (pairs : List ℕ) (s : ℕ) → is_entry_at pairs s ≡ true → IsLive pairs s
entry_live pairs s entry = ⊎_elim
    (λ leaf. (leaf_parts pairs s leaf).live)
    (λ ready. (ready_at_parts pairs s ready).0)
    (or_cases (is_leaf_at pairs s) (is_ready_at pairs s) entry)

-- a slot with a leaf is live
pub leaf_live : (pairs : List ℕ) (s : ℕ) → is_leaf_at pairs s ≡ true → IsLive pairs s
leaf_live pairs s leaf = (leaf_parts pairs s leaf).live

-- a slot with a triangle of a diamond that can be merged is live
pub ready_live : (pairs : List ℕ) (s : ℕ) → is_ready_at pairs s ≡ true → IsLive pairs s
ready_live pairs s ready = (ready_at_parts pairs s ready).0

-- a leaf is an entry
pub leaf_entry : (pairs : List ℕ) (s : ℕ) → is_leaf_at pairs s ≡ true → is_entry_at pairs s ≡ true
leaf_entry pairs s leaf = or_left (is_leaf_at pairs s) (is_ready_at pairs s) leaf

-- a triangle of a diamond that can be merged is an entry
pub ready_entry : (pairs : List ℕ) (s : ℕ) → is_ready_at pairs s ≡ true → is_entry_at pairs s ≡ true
ready_entry pairs s ready = or_right (is_leaf_at pairs s) (is_ready_at pairs s) ready

-- and is no leaf
pub not_both : (pairs : List ℕ) (s : ℕ) → is_ready_at pairs s ≡ true → is_leaf_at pairs s ≡ false
not_both pairs s ready =
    and_right (nat_le 2 (address_at pairs s)) (not (has_children pairs (address_at pairs s)))
    (not_from_true (has_children pairs (address_at pairs s)) (ready_at_parts pairs s ready).1.own.split)

-- an entry is a leaf, or else a triangle of a diamond that can be merged
pub entry_cases : (pairs : List ℕ) (s : ℕ) → is_entry_at pairs s ≡ true →
    (is_leaf_at pairs s ≡ true) ⊎ ((is_leaf_at pairs s ≡ false) × (is_ready_at pairs s ≡ true))
entry_cases pairs s entry = ⊎_elim
    (λ leaf. inl leaf)
    (λ ready. inr (not_both pairs s ready, ready))
    (or_cases (is_leaf_at pairs s) (is_ready_at pairs s) entry)

-- a slot with a leaf has a leaf of the set
pub leaf_of-at : (pool : PoolState) (s : ℕ) → IsPool pool.n pool.pairs → is_leaf_at pool.pairs s ≡ true →
    Contains (leaves_of pool.n (among (pool_members pool))) (address_at pool.pairs s)
leaf_of-at pool s is leaf =
    let a : ℕ = address_at pool.pairs s in
    let parts = leaf_parts pool.pairs s leaf in
    let of = IsLeafOf-slot pool.pairs s parts.live parts.leaf in
    subst (λ l. Contains l a) (sym (leaves-split_list pool.n pool.pairs is))
    ((leaf-where pool.n (split_set pool.pairs) a is.closed).1 (
      IsAddress-level pool.n a of.low (leaf-level pool.n (split_set pool.pairs) a is.closed of),
      (λ has. both_ways (split_set pool.pairs a) of.whole has),
      of.above,
    ))

-- and a leaf of the set stands at its slot
pub leaf_at-of : (pool : PoolState) (a : ℕ) → IsPool pool.n pool.pairs →
    Contains (leaves_of pool.n (among (pool_members pool))) a →
    (is_leaf_at pool.pairs (slot_of pool.pairs a) ≡ true) × (address_at pool.pairs (slot_of pool.pairs a) ≡ a)
leaf_at-of pool a is leaf =
    let outer = (leaf-where pool.n (split_set pool.pairs) a is.closed).0
    (subst (λ l. Contains l a) (leaves-split_list pool.n pool.pairs is) leaf) in
    let low : 2 ≤ a = outer.0.low in
    let at = address-slot_of pool.n pool.pairs a is low (⊎_elim
    (λ top. ap (has_children pool.pairs) (let half : a / 2 ≡ 1 = omega arith in half) ∙ is.root)
    (λ deep. set-has_children pool.pairs (a / 2) (outer.2 deep)) (cases_lt a 4)) in (
      leaf_from pool.pairs (slot_of pool.pairs a) record {
        live = subst (λ z. 2 ≤ z) (sym at) low;
        leaf = ap (has_children pool.pairs) at ∙ false_from_ne_true (has_children pool.pairs a)
            (λ yes. outer.1 (has_children-set pool.pairs a low yes));
      },
      at,
    )

-- there is a leaf
pub some_leaf : (pool : PoolState) → IsPool pool.n pool.pairs →
    (a : ℕ) × Contains (leaves_of pool.n (among (pool_members pool))) a
some_leaf pool is =
    let count = leaves_count pool.n pool.pairs is in
    let members = members_count pool.n pool.pairs is in
    let leaves : List ℕ = leaves_of pool.n (split_set pool.pairs) in (
      get_or leaves 0 0,
      subst (λ l. Contains l (get_or leaves 0 0)) (sym (leaves-split_list pool.n pool.pairs is))
          (at_place 0 leaves (omega arith)),
    )

-- a triangle of a diamond is its own or the mate, by arithmetic
pub diamond_mate : (n a b : ℕ) → 2 ≤ a → level_of a ≤ 2 * n → IsInDiamond n a b →
    (b ≡ a) ⊎ ((1 ≤ mate_of a) × (b ≡ mate_of a))
diamond_mate n a b low level (inl own) = inl own
diamond_mate n a b low level (inr mate) =
    let is = mate_of-IsMate n a b low level mate in
    let high = mate.address.low in inr (omega arith, sym is)

-- and back
pub mate_diamond : (n a b : ℕ) → 2 ≤ a → level_of a ≤ 2 * n →
    (b ≡ a) ⊎ ((1 ≤ mate_of a) × (b ≡ mate_of a)) → IsInDiamond n a b
mate_diamond n a b low level (inl own) = inl own
mate_diamond n a b low level (inr mate) =
    inr (subst (λ z. IsMate n a z) (sym mate.1) (IsMate-mate_of n a low level mate.0))

-- a slot of a diamond that can be merged has one of the set
pub ready_of-at : (pool : PoolState) (s : ℕ) → IsPool pool.n pool.pairs → is_ready_at pool.pairs s ≡ true →
    CanMerge pool.n (among (pool_members pool)) (address_at pool.pairs s)
ready_of-at pool s is ready =
    let a : ℕ = address_at pool.pairs s in
    let parts = ready_at_parts pool.pairs s ready in
    let has = has_children-set pool.pairs a parts.0 parts.1.own.split in
    let coarse = (is.closed.splittable a has).coarse in
    let shut : (p : ℕ) → has_children pool.pairs p ≡ false → among (pool_members pool) p ≡ false =
    λ p none. among-split_list pool.n pool.pairs p is ∙ set_false pool.pairs p none in
    record {
      member = among-split_list pool.n pool.pairs a is ∙ has;
      childless = λ b of. ⊎_elim
          (λ (own : b ≡ a). (
            shut (2 * b) (ap (λ z. has_children pool.pairs (2 * z)) own ∙ parts.1.own.left),
            shut (2 * b + 1) (ap (λ z. has_children pool.pairs (2 * z + 1)) own ∙ parts.1.own.right),
          ))
          (λ (mate : (1 ≤ mate_of a) × (b ≡ mate_of a)).
          let two = parts.1.mate mate.0 in (
            shut (2 * b) (ap (λ z. has_children pool.pairs (2 * z)) mate.1 ∙ two.left),
            shut (2 * b + 1) (ap (λ z. has_children pool.pairs (2 * z + 1)) mate.1 ∙ two.right),
          ))
          (diamond_mate pool.n a b parts.0 (omega arith) of);
    }

-- and a diamond of the set that can be merged stands at its slot
pub ready_at-of : (pool : PoolState) (a : ℕ) → IsPool pool.n pool.pairs →
    CanMerge pool.n (among (pool_members pool)) a →
    (is_ready_at pool.pairs (slot_of pool.pairs a) ≡ true) × (address_at pool.pairs (slot_of pool.pairs a) ≡ a)
ready_at-of pool a is can =
    let has : split_set pool.pairs a ≡ true = sym (among-split_list pool.n pool.pairs a is) ∙ can.member in
    let fits = is.closed.splittable a has in
    let low : 2 ≤ a = fits.low in
    let coarse = fits.coarse in
    let split = set-has_children pool.pairs a has in
    let at = address-slot_of pool.n pool.pairs a is low (member_parent pool.n pool.pairs a is low split) in
    let shut : (p : ℕ) → 2 ≤ p → among (pool_members pool) p ≡ false → has_children pool.pairs p ≡ false =
    λ p high none. false_from_ne_true (has_children pool.pairs p) (λ yes. both_ways (split_set pool.pairs p)
    (sym (among-split_list pool.n pool.pairs p is) ∙ none) (has_children-set pool.pairs p high yes)) in
    let bare : (b : ℕ) → 2 ≤ b → IsInDiamond pool.n a b → has_children pool.pairs b ≡ true → HasTwoLeaves pool.pairs b =
    λ b high of yes. record {
      split = yes;
      left = shut (2 * b) (omega arith) (can.childless b of).0;
      right = shut (2 * b + 1) (omega arith) (can.childless b of).1;
    } in
    let ready : IsMergeReady pool.pairs a = record {
      own = bare a low (inl refl) split;
      mate = λ some. bare (mate_of a) (mate_of-low a low some) (inr (IsMate-mate_of pool.n a low (omega arith) some))
          (member_mate pool.n pool.pairs a is low split some);
    } in (
      ready_at_from pool.pairs (slot_of pool.pairs a) (subst (λ z. 2 ≤ z) (sym at) low)
          (subst (λ z. IsMergeReady pool.pairs z) (sym at) ready),
      at,
    )

-- a slot with an entry has an entry of the set
pub entry_of-at : (pool : PoolState) (s : ℕ) → IsPool pool.n pool.pairs → is_entry_at pool.pairs s ≡ true →
    IsEntry pool.n (among (pool_members pool)) (address_at pool.pairs s)
entry_of-at pool s is entry = ⊎_elim
    (λ at_leaf. of_leaf (leaf_of-at pool s is at_leaf))
    (λ ready. of_diamond (ready_of-at pool s is ready))
    (or_cases (is_leaf_at pool.pairs s) (is_ready_at pool.pairs s) entry)

-- and an entry of the set stands at its slot
pub entry_at-of : (pool : PoolState) (a : ℕ) → IsPool pool.n pool.pairs → IsEntry pool.n (among (pool_members pool)) a →
    (is_entry_at pool.pairs (slot_of pool.pairs a) ≡ true) × (address_at pool.pairs (slot_of pool.pairs a) ≡ a)
entry_at-of pool a is (of_leaf of) =
    let r = leaf_at-of pool a is of in
    (leaf_entry pool.pairs (slot_of pool.pairs a) r.0, r.1)
entry_at-of pool a is (of_diamond can) =
    let r = ready_at-of pool a is can in
    (ready_entry pool.pairs (slot_of pool.pairs a) r.0, r.1)

-- the level of a slot's triangle that is a leaf or can be merged
pub entry_level : (n : ℕ) (pairs : List ℕ) (s : ℕ) → IsPool n pairs → is_entry_at pairs s ≡ true →
    level_of (address_at pairs s) ≤ 2 * n
entry_level n pairs s is entry = ⊎_elim
    (λ at_leaf.
    let parts = leaf_parts pairs s at_leaf in
    leaf-level n (split_set pairs) (address_at pairs s) is.closed (IsLeafOf-slot pairs s parts.live parts.leaf))
    (λ ready.
    let parts = ready_at_parts pairs s ready in
    let coarse = (is.closed.splittable (address_at pairs s)
    (has_children-set pairs (address_at pairs s) parts.0 parts.1.own.split)).coarse in
    omega arith)
    (or_cases (is_leaf_at pairs s) (is_ready_at pairs s) entry)

-- where a diamond can be merged, it can by its mate too
pub ready_mate : (n : ℕ) (pairs : List ℕ) (s : ℕ) → IsPool n pairs → is_ready_at pairs s ≡ true →
    1 ≤ mate_of (address_at pairs s) →
    (is_ready_at pairs (slot_of pairs (mate_of (address_at pairs s))) ≡ true)
    × (address_at pairs (slot_of pairs (mate_of (address_at pairs s))) ≡ mate_of (address_at pairs s))
ready_mate n pairs s is ready some =
    let a : ℕ = address_at pairs s in
    let parts = ready_at_parts pairs s ready in
    let low = mate_of-low a parts.0 some in
    let two = parts.1.mate some in
    let at = address-slot_of n pairs (mate_of a) is low (member_parent n pairs (mate_of a) is low two.split) in (
      ready_at_from pairs (slot_of pairs (mate_of a)) (subst (λ z. 2 ≤ z) (sym at) low)
          (subst (λ z. IsMergeReady pairs z) (sym at) (ready_turned pairs a parts.0 some parts.1)),
      at,
    )

-- the chief of a diamond that can be merged stands at its slot
pub chief_ready : (n : ℕ) (pairs : List ℕ) (s : ℕ) → IsPool n pairs → is_ready_at pairs s ≡ true →
    (is_chief_at pairs (chief_slot pairs s) ≡ true)
    × (address_at pairs (chief_slot pairs s) ≡ chief_of (address_at pairs s))
chief_ready n pairs s is ready =
    let a : ℕ = address_at pairs s in
    let parts = ready_at_parts pairs s ready in
    let low : 2 ≤ a = parts.0 in
    ⊎_elim
    (λ own.
    let at : address_at pairs (chief_slot pairs s) ≡ chief_of a =
    subst (λ z. address_at pairs (slot_of pairs z) ≡ z) (sym own)
    (address-slot_of n pairs a is low (member_parent n pairs a is low parts.1.own.split)) in
    let same : address_at pairs (chief_slot pairs s) ≡ a = at ∙ own in (
      and_from (is_ready_at pairs (chief_slot pairs s))
          (nat_eq (chief_of (address_at pairs (chief_slot pairs s))) (address_at pairs (chief_slot pairs s)))
          (ready_at_from pairs (chief_slot pairs s) (subst (λ z. 2 ≤ z) (sym same) low)
          (subst (λ z. IsMergeReady pairs z) (sym same) parts.1))
          (eq-eqb (chief_of (address_at pairs (chief_slot pairs s))) (address_at pairs (chief_slot pairs s))
          (ap chief_of same ∙ sym at)),
      at,
    ))
    (λ mate.
    let some = mate.0 in
    let other = ready_mate n pairs s is ready some in
    let slot : chief_slot pairs s ≡ slot_of pairs (mate_of a) = ap (slot_of pairs) mate.1 in
    let at : address_at pairs (chief_slot pairs s) ≡ chief_of a = ap (address_at pairs) slot ∙ other.1 ∙ sym mate.1 in (
      and_from (is_ready_at pairs (chief_slot pairs s))
          (nat_eq (chief_of (address_at pairs (chief_slot pairs s))) (address_at pairs (chief_slot pairs s)))
          (ap (is_ready_at pairs) slot ∙ other.0)
          (eq-eqb (chief_of (address_at pairs (chief_slot pairs s))) (address_at pairs (chief_slot pairs s))
          (ap chief_of (at ∙ mate.1) ∙ chief_of-mate a low some ∙ sym at)),
      at,
    ))
    (chief_of-cases a)

-- ---- diamonds in their places

-- A slot is the chief of a diamond that stands in its place: the diamond can be merged, and none of its slots is out.
pub record IsChiefIn (pairs : List ℕ) (out : ℕ → Bool) (s : ℕ) : Type 0 where
  pub ready : is_ready_at pairs s ≡ true
  pub chief : chief_of (address_at pairs s) ≡ address_at pairs s
  pub own : out s ≡ false
  pub mate : 1 ≤ mate_of (address_at pairs s) → out (slot_of pairs (mate_of (address_at pairs s))) ≡ false

-- from the test
pub chief_in : (pairs : List ℕ) (out : ℕ → Bool) (s : ℕ) →
    (is_chief_at pairs s && not (is_out pairs out s)) ≡ true → IsChiefIn pairs out s
chief_in pairs out s test =
    let parts = and_parts (is_chief_at pairs s) (not (is_out pairs out s)) test in
    let first = and_parts (is_ready_at pairs s) (eqb (chief_of (address_at pairs s)) (address_at pairs s)) parts.0 in
    let outside = or_parts (out s) _ (not-true (is_out pairs out s) parts.1) in
    record {
      ready = first.0;
      chief = eqb-true (chief_of (address_at pairs s)) (address_at pairs s) first.1;
      own = outside.0;
      mate = λ some. false_from_ne_true (out (slot_of pairs (mate_of (address_at pairs s)))) (λ is.
          both_ways _ outside.1 (and_from _ _ (lt-ltb 0 (mate_of (address_at pairs s)) some) is));
    }

-- and to it
pub in_chief : (pairs : List ℕ) (out : ℕ → Bool) (s : ℕ) → IsChiefIn pairs out s →
    (is_chief_at pairs s && not (is_out pairs out s)) ≡ true
in_chief pairs out s is = and_from (is_chief_at pairs s) (not (is_out pairs out s))
    (and_from (is_ready_at pairs s) _ is.ready (eq-eqb (chief_of (address_at pairs s)) (address_at pairs s) is.chief))
    (not_from_false (is_out pairs out s) (or_from (out s) _ is.own
    (by_mate (mate_of (address_at pairs s)) (out (slot_of pairs (mate_of (address_at pairs s)))) is.mate)))
  where
    by_mate : (m : ℕ) (b : Bool) → (1 ≤ m → b ≡ false) → (nat_lt 0 m && b) ≡ false
    by_mate zero b none = refl
    by_mate (suc m) b none = and_right (nat_lt 0 (suc m)) b (none (omega arith))
