-- What the heads of the queues say, and how the parts are seen.
use Rattle.std.proofs.Common.{◌≡◌, ℕ, ◌*◌, ◌≤◌, ◌||◌, ◌&&◌, Bool, true, false, not, cond, nat_eq, inr, List, [], ◌∷◌}
use Rattle.std.proofs.Common.{length, map, Contains, None, Some, slice_index_or, refl, sym, ◌∙◌, ap, ap₂, subst, arith}
use Rattle.std.proofs.Common.{⊎_elim}
use Rattle.std.proofs.lemmas.Bool.{cases_lt, and_parts, and_from, not-true, cond-true}
use Rattle.std.proofs.lemmas.List.{length-map, length-reverse, get_or_read}
use Rattle.mesh_defs.specs.Ranking.{IsBefore}
use Rattle.mesh_defs.specs.ClosedSet.{leaves_of, among}
use Rattle.bintree_addr.specs.declared.rank.Rank.{Rank}
use Rattle.bintree_addr.specs.declared.slot.Slot.{Slot}
use Rattle.mesh_laws.specs.Order.{IsNoLater}
use Rattle.mesh_laws.proofs.OrderLemmas.{before_cases, before-no_later}
use Rattle.mesh_laws.specs.Edge.{mate_of}
use Rattle.mesh_laws.specs.Slots.{address_at, has_children, IsLive, IsPool, HasLeaf, diamond_size}
use Rattle.mesh_laws.proofs.SlotLemmas.{size_one, size_two}
use Rattle.mesh_laws.specs.Stamps.{Stamp}
use Rattle.split_queue.specs.First.{IsFirstEntry}
use Rattle.force_split.specs.Chain.{chain_size}
use Rattle.triangle_pool.specs.Slots.{PoolState}
use Rattle.deferred_loop.specs.Seen.{upper_of, lower_of, best_key, worst_key, sure, IsHead}
use Rattle.roam_mesh.specs.Mesh.{slot_of, pool_members}
use Rattle.roam_mesh.specs.Parts.{PartsState, stamp_in, best_of, merging_key, entry_at, entry_of, seen_parts}
use Rattle.roam_mesh.specs.Parts.{is_leaf_at, is_chief_at, is_out, leaf_rank, diamond_rank, blank, IsWhole, IsPlaced}
use Rattle.roam_mesh.specs.Parts.{IsParts}
use Rattle.roam_mesh.specs.Keys.{is_sure}
use Rattle.roam_mesh.specs.declared.entry.Entry.{Entry}
use Rattle.roam_mesh.proofs.PlaceLemmas.{slot_of-at, live_below}
use Rattle.roam_mesh.proofs.RoleLemmas.{leaf_parts, leaf_live, leaf_of-at, leaf_at-of, some_leaf}

-- ---- the keys

cond_some : {A : Type 0} (b : Bool) (x y : A) → cond b (Some x) None ≡ Some y → (b ≡ true) × (y ≡ x)
cond_some true x y e = (refl, (cc))
cond_some false x y e = absurd (cc)

-- a key of the split queue is that of a leaf in its place
pub split_key : (parts : PartsState) (out : ℕ → Bool) (s : ℕ) (rank : Rank) → IsPlaced parts out →
    slice_index_or parts.split s None ≡ Some rank →
    (is_leaf_at parts.pool.pairs s ≡ true) × (out s ≡ false) × (rank ≡ leaf_rank parts s)
split_key parts out s rank placed key =
    let found = cond_some (is_leaf_at parts.pool.pairs s && not (out s)) (leaf_rank parts s) rank
    (sym (placed.split s) ∙ key) in
    let both = and_parts (is_leaf_at parts.pool.pairs s) (not (out s)) found.0 in
    (both.0, not-true (out s) both.1, found.1)

-- and each leaf in its place has one
split_key_of : (parts : PartsState) (out : ℕ → Bool) (s : ℕ) → IsPlaced parts out →
    is_leaf_at parts.pool.pairs s ≡ true → out s ≡ false →
    slice_index_or parts.split s None ≡ Some (leaf_rank parts s)
split_key_of parts out s placed leaf in_place =
    placed.split s ∙ cond-true (is_leaf_at parts.pool.pairs s && not (out s)) (Some (leaf_rank parts s)) None
    (and_from (is_leaf_at parts.pool.pairs s) (not (out s)) leaf (ap not in_place))

-- a key of the merge queue is that of the chief of a diamond in its place
pub merge_key : (parts : PartsState) (out : ℕ → Bool) (s : ℕ) (rank : Rank) → IsPlaced parts out →
    slice_index_or parts.merge s None ≡ Some rank →
    (is_chief_at parts.pool.pairs s ≡ true) × (is_out parts.pool.pairs out s ≡ false)
    × (rank ≡ diamond_rank parts (address_at parts.pool.pairs s))
merge_key parts out s rank placed key =
    let found = cond_some (is_chief_at parts.pool.pairs s && not (is_out parts.pool.pairs out s))
    (diamond_rank parts (address_at parts.pool.pairs s)) rank (sym (placed.merge s) ∙ key) in
    let both = and_parts (is_chief_at parts.pool.pairs s) (not (is_out parts.pool.pairs out s)) found.0 in
    (both.0, not-true (is_out parts.pool.pairs out s) both.1, found.1)

-- and each such chief has one
pub merge_key_of : (parts : PartsState) (out : ℕ → Bool) (s : ℕ) → IsPlaced parts out →
    is_chief_at parts.pool.pairs s ≡ true →
    is_out parts.pool.pairs out s ≡ false →
    slice_index_or parts.merge s None ≡ Some (diamond_rank parts (address_at parts.pool.pairs s))
merge_key_of parts out s placed chief in_place =
    placed.merge s ∙ cond-true (is_chief_at parts.pool.pairs s && not (is_out parts.pool.pairs out s))
    (Some (diamond_rank parts (address_at parts.pool.pairs s))) None
    (and_from (is_chief_at parts.pool.pairs s) (not (is_out parts.pool.pairs out s)) chief (ap not in_place))

-- ---- as the loop sees it

upper_cond : (b : Bool) (stamp : Stamp) → upper_of (cond b (Some stamp) None) ≡ cond b stamp.upper 0
upper_cond true stamp = refl
upper_cond false stamp = refl

lower_cond : (b : Bool) (stamp : Stamp) → lower_of (cond b (Some stamp) None) ≡ cond b stamp.lower 0
lower_cond true stamp = refl
lower_cond false stamp = refl

-- the bounds of an entry's stamp
upper_in : (e : Entry) → upper_of (stamp_in e) ≡ cond e.stamped e.upper 0
upper_in e =
    upper_cond e.stamped (record {
      odometer = e.odometer;
      slack = e.slack;
      upper = e.upper;
      lower = e.lower;
      expired = e.expired;
    })

lower_in : (e : Entry) → lower_of (stamp_in e) ≡ cond e.stamped e.lower 0
lower_in e =
    lower_cond e.stamped (record {
      odometer = e.odometer;
      slack = e.slack;
      upper = e.upper;
      lower = e.lower;
      expired = e.expired;
    })

-- the keys of an address are those of its entry
pub best_key_seen : (parts : PartsState) (a : ℕ) → best_key (seen_parts parts) a ≡ best_of (entry_of parts a)
unfolding best_key
best_key_seen parts a = ap (cond (entry_of parts a).known (entry_of parts a).exact) (upper_in (entry_of parts a))

-- and so is its worst
pub worst_key_seen : (parts : PartsState) (a : ℕ) → worst_key (seen_parts parts) a ≡ merging_key (entry_of parts a)
unfolding worst_key
worst_key_seen parts a = ap (cond (entry_of parts a).known (entry_of parts a).exact) (lower_in (entry_of parts a))

-- and it is sure where its entry is
pub sure_seen : (parts : PartsState) (a : ℕ) → sure (seen_parts parts) a ≡ is_sure (entry_of parts a)
unfolding sure
sure_seen parts a =
    ap₂ (λ (x y : ℕ). (entry_of parts a).known || nat_eq x y) (upper_in (entry_of parts a))
    (lower_in (entry_of parts a))

-- what is kept of the address of a live slot is what is kept of the slot
entry_of-at : (parts : PartsState) (s : ℕ) → IsPool parts.pool.n parts.pool.pairs → IsLive parts.pool.pairs s →
    entry_of parts (address_at parts.pool.pairs s) ≡ entry_at parts s
entry_of-at parts s pool live = ap (entry_at parts) (slot_of-at parts.pool.n parts.pool.pairs s pool live)

no_entries : (xs : List ℕ) → length xs ≡ 0 → xs ≡ []
no_entries [] h = refl
no_entries (x ∷ xs) h = absurd (omega arith)

-- where the loop sees nothing fresh, nothing is
pub settled_fresh : (parts : PartsState) → (seen_parts parts).fresh ≡ [] → parts.fresh ≡ []
settled_fresh parts none =
    let same = length-reverse (map (address_at parts.pool.pairs) parts.fresh) in
    let mapped = length-map parts.fresh (address_at parts.pool.pairs) in
    let shown = ap length none in no_entries parts.fresh (omega arith)

-- and all entries are in their places
pub settled_placed : (parts : PartsState) (s : ℕ) → parts.fresh ≡ [] → among parts.fresh s ≡ false
settled_placed parts s none = ap (λ xs. among xs s) none

-- ---- the head of the split queue

leaf_head : (parts : PartsState) (slot : Slot) → IsParts parts → parts.fresh ≡ [] →
    is_leaf_at parts.pool.pairs slot.0 ≡ true →
    IsFirstEntry parts.split slot (leaf_rank parts slot.0) →
    IsHead (seen_parts parts) (record {
      rank = leaf_rank parts slot.0;
      slot = slot;
      sure = is_sure (entry_at parts slot.0);
    })
leaf_head parts slot is none leaf first =
    let a : ℕ = address_at parts.pool.pairs slot.0 in
    let own = entry_of-at parts slot.0 is.pool (leaf_live parts.pool.pairs slot.0 leaf) in
    let value : best_of (entry_at parts slot.0) ≡ best_key (seen_parts parts) a =
    sym (best_key_seen parts a ∙ ap best_of own) in
    record {
      leaf = leaf_of-at parts.pool slot.0 is.pool leaf;
      value = value;
      marked = sym (sure_seen parts a ∙ ap is_sure own);
      first = λ l there.
          let found = leaf_at-of parts.pool l is.pool there in
          let s : ℕ = slot_of parts.pool.pairs l in
          let key = split_key_of parts (among parts.fresh) s is.placed found.0 (settled_placed parts s none) in
          let best : best_of (entry_at parts s) ≡ best_key (seen_parts parts) l = sym (best_key_seen parts l) in
          let later : IsBefore (best_of (entry_at parts s)) (address_at parts.pool.pairs s)
          (best_of (entry_at parts slot.0)) a → ⊥ =
          first.1 (record { 0 = s }) (leaf_rank parts s) key in
          let other : IsBefore (best_key (seen_parts parts) l) l (best_key (seen_parts parts) a) a → ⊥ = λ before.
          later (subst (λ p. IsBefore p (address_at parts.pool.pairs s) (best_of (entry_at parts slot.0)) a) (sym best)
          (subst (λ p. IsBefore (best_key (seen_parts parts) l) (address_at parts.pool.pairs s) p a) (sym value)
          (subst (λ z. IsBefore (best_key (seen_parts parts) l) z (best_key (seen_parts parts) a) a)
          (sym found.1) before))) in
          no_later_unless (seen_best parts) a l other;
    }
  where
    seen_best : PartsState → ℕ → ℕ
    seen_best parts z = best_key (seen_parts parts) z

    no_later_unless : (key : ℕ → ℕ) (a b : ℕ) → (IsBefore (key b) b (key a) a → ⊥) → IsNoLater (key a) a (key b) b
    no_later_unless key a b other = ⊎_elim
        (λ (same : a ≡ b). inr (ap key same, omega arith))
        (λ differ. ⊎_elim (λ before. before-no_later before) (λ after. absurd (other after)) differ)
        (before_cases (key a) a (key b) b)

-- the first key of the split queue is the head, and e is what is kept of its slot
pub split_head : (parts : PartsState) (slot : Slot) (rank : Rank) (e : Entry) (certain : Bool) →
    IsWhole parts → IsParts parts →
    (seen_parts parts).fresh ≡ [] →
    IsFirstEntry parts.split slot rank → e ≡ slice_index_or parts.entries slot.0 e → certain ≡ is_sure e →
    IsHead (seen_parts parts) (record { rank = rank; slot = slot; sure = certain })
split_head parts slot rank e certain whole is settled first read says =
    let key = split_key parts (among parts.fresh) slot.0 rank is.placed first.0 in
    let head = leaf_head parts slot is (settled_fresh parts settled) key.0
    (subst (IsFirstEntry parts.split slot) key.2 first) in
    let below = live_below parts.pool.pairs slot.0 (leaf_live parts.pool.pairs slot.0 key.0) in
    let room = whole.entries in
    let kept : e ≡ entry_at parts slot.0 = get_or_read parts.entries slot.0 e (omega arith) read blank in
    subst (λ b. IsHead (seen_parts parts) (record { rank = rank; slot = slot; sure = b }))
    (sym (says ∙ ap is_sure kept))
    (subst (λ r. IsHead (seen_parts parts) (record { rank = r; slot = slot; sure = is_sure (entry_at parts slot.0) }))
    (sym key.2) head)

-- the leaf that its rank names is at its slot
pub head_at : (parts : PartsState) (slot : Slot) (rank : Rank) → IsParts parts → IsFirstEntry parts.split slot rank →
    address_at parts.pool.pairs slot.0 ≡ rank.tri
head_at parts slot rank is first =
    sym (ap (λ (r : Rank). r.tri) (split_key parts (among parts.fresh) slot.0 rank is.placed first.0).2)

-- there is one
pub split_some : (parts : PartsState) → IsParts parts → (seen_parts parts).fresh ≡ [] →
    ((slot : Slot) → slice_index_or parts.split slot.0 None ≡ None) → ⊥
split_some parts is settled none =
    let some = some_leaf parts.pool is.pool in
    let found = leaf_at-of parts.pool some.0 is.pool some.1 in
    let s : ℕ = slot_of parts.pool.pairs some.0 in
    let key = split_key_of parts (among parts.fresh) s is.placed found.0
    (settled_placed parts s (settled_fresh parts settled)) in
    let gone = none (record { 0 = s }) in absurd (cc)

-- ---- a leaf and its chain

-- the slot of a leaf of the set has a leaf
pub slot_leaf : (pool : PoolState) (s a : ℕ) → IsPool pool.n pool.pairs →
    Contains (leaves_of pool.n (among (pool_members pool))) a →
    address_at pool.pairs s ≡ a → HasLeaf pool.pairs s
slot_leaf pool s a is leaf at =
    let found = leaf_at-of pool a is leaf in
    let parts = leaf_parts pool.pairs (slot_of pool.pairs a) found.0 in
    let same : address_at pool.pairs (slot_of pool.pairs a) ≡ address_at pool.pairs s = found.1 ∙ sym at in
    record { live = subst (λ z. 2 ≤ z) same parts.live; leaf = ap (has_children pool.pairs) (sym same) ∙ parts.leaf }

-- a chain of so many slots has at most twice as many triangles
pub chain_size-le : (pairs xs : List ℕ) → chain_size pairs xs ≤ 2 * length xs
chain_size-le pairs [] = omega arith
chain_size-le pairs (s ∷ rest) =
    let more = chain_size-le pairs rest in
    let two : diamond_size (address_at pairs s) ≤ 2 = ⊎_elim
    (λ none.
    let one = size_one (address_at pairs s) (let z : mate_of (address_at pairs s) ≡ 0 = omega arith in z) in
    omega arith)
    (λ some. let both = size_two (address_at pairs s) some in omega arith)
    (cases_lt (mate_of (address_at pairs s)) 1) in omega arith
