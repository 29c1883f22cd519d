-- What the steps of a merge do to the parts.
use Rattle.std.proofs.Common.{◌≡◌, ℕ, ◌+◌, ◌*◌, ◌/◌, ◌≤◌, ◌⊎◌, inl, inr, true, false, cond, nat_lt, List, [], ◌∷◌, ◌++◌}
use Rattle.std.proofs.Common.{slice_index, refl, sym, ◌∙◌, ap, subst, arith, ⊎_elim}
use Rattle.std.proofs.lemmas.Bool.{both_ways, false_from_ne_true, lt-ltb}
use Rattle.mesh_laws.specs.Edge.{mate_of}
use Rattle.mesh_laws.specs.Slots.{address_at, has_children, split_set, room_of, diamond_size, IsLive, IsPool}
use Rattle.mesh_laws.specs.Slots.{IsMergeReady, IsUnder, IsMerge}
use Rattle.mesh_laws.proofs.MateLemmas.{mate_of-low, mate_of-back, mate_of-no_child}
use Rattle.mesh_laws.proofs.SlotLemmas.{has_children-set}
use Rattle.triangle_pool.specs.Slots.{PoolState}
use Rattle.roam_mesh.specs.Mesh.{slot_of}
use Rattle.roam_mesh.specs.Parts.{PartsState, is_leaf_at, is_ready_at}
use Rattle.roam_mesh.specs.Change.{child_slots, with_children, above_slots, with_above, diamond_slots, left, left_all}
use Rattle.roam_mesh.specs.Change.{pushed, pushed_all}
use Rattle.roam_mesh.specs.Merging.{mate_slots, IsMergeAt}
use Rattle.roam_mesh.proofs.PlaceLemmas.{one_slot}
use Rattle.roam_mesh.proofs.RoleLemmas.{leaf_from, ready_live, ready_at_parts}
use Rattle.roam_mesh.proofs.PlacedLemmas.{left_all-append, left_all-pool}
use Rattle.roam_mesh.proofs.FreshLemmas.{pushed_all-pool, pushed_all-append}
use Rattle.roam_mesh.proofs.SlotListLemmas.{in_left, in_right, in_either, in_first, in_later, in_cases, in_choice}
use Rattle.roam_mesh.proofs.SlotListLemmas.{choice_in}
use Rattle.mesh_defs.proofs.TestLemmas.{same_tests}
use Rattle.mesh_defs.specs.ClosedSet.{among}
use Rattle.roam_mesh.proofs.PoolChangeLemmas.{root_kept}

-- two slots that have the children of a triangle are its child slots
pub children_left : (parts middle after : PartsState) (pool : PoolState) (s l r : ℕ) → pool ≡ parts.pool →
    IsPool pool.n pool.pairs → is_ready_at parts.pool.pairs s ≡ true →
    address_at pool.pairs l ≡ 2 * address_at pool.pairs s → address_at pool.pairs r ≡ 2 * address_at pool.pairs s + 1 →
    middle ≡ left parts l → after ≡ left middle r →
    after ≡ left_all parts (child_slots parts.pool.pairs s)
children_left parts middle after pool s l r same valid ready at_l at_r one two =
    let live : 2 ≤ address_at pool.pairs s =
    subst (λ (z : PoolState). 2 ≤ address_at z.pairs s) (sym same) (ready_live parts.pool.pairs s ready) in
    let first : slot_of pool.pairs (2 * address_at pool.pairs s) ≡ l =
    one_slot pool.n pool.pairs l (2 * address_at pool.pairs s) valid (omega arith) at_l in
    let second : slot_of pool.pairs (2 * address_at pool.pairs s + 1) ≡ r =
    one_slot pool.n pool.pairs r (2 * address_at pool.pairs s + 1) valid (omega arith) at_r in
    two ∙ ap (λ z. left z r) one ∙ ap (λ z. left (left parts z) r) (sym first)
    ∙ ap (λ z. left (left parts (slot_of pool.pairs (2 * address_at pool.pairs s))) z) (sym second)
    ∙ ap (λ (z : PoolState). left_all parts (child_slots z.pairs s)) same

-- the children of both triangles leave
pub both_left : (parts middle after : PartsState) (s t : ℕ) → 1 ≤ mate_of (address_at parts.pool.pairs s) →
    t ≡ slot_of parts.pool.pairs (mate_of (address_at parts.pool.pairs s)) →
    middle ≡ left_all parts (child_slots parts.pool.pairs s) →
    after ≡ left_all middle (child_slots middle.pool.pairs t) →
    after ≡ left_all parts (child_slots parts.pool.pairs s
    ++ cond (nat_lt 0 (mate_of (address_at parts.pool.pairs s)))
    (child_slots parts.pool.pairs (slot_of parts.pool.pairs (mate_of (address_at parts.pool.pairs s)))) [])
both_left parts middle after s t some slot one two =
    two ∙ ap (λ (z : PartsState). left_all z (child_slots z.pool.pairs t)) one
    ∙ ap (λ z. left_all (left_all parts (child_slots parts.pool.pairs s)) (child_slots parts.pool.pairs z)) slot
    ∙ ap (λ b. left_all (left_all parts (child_slots parts.pool.pairs s))
    (cond b (child_slots parts.pool.pairs (slot_of parts.pool.pairs (mate_of (address_at parts.pool.pairs s)))) []))
    (sym (lt-ltb 0 (mate_of (address_at parts.pool.pairs s)) some))

-- the children leave, and then the diamond
pub all_left : (parts middle after : PartsState) (s : ℕ) → middle ≡ left_all parts (child_slots parts.pool.pairs s
    ++ cond (nat_lt 0 (mate_of (address_at parts.pool.pairs s)))
    (child_slots parts.pool.pairs (slot_of parts.pool.pairs (mate_of (address_at parts.pool.pairs s)))) []) →
    after ≡ left_all middle (diamond_slots middle.pool.pairs s) →
    after ≡ left_all parts (with_children parts.pool.pairs s)
all_left parts middle after s one two =
    let below : List ℕ = child_slots parts.pool.pairs s
    ++ cond (nat_lt 0 (mate_of (address_at parts.pool.pairs s)))
    (child_slots parts.pool.pairs (slot_of parts.pool.pairs (mate_of (address_at parts.pool.pairs s)))) [] in
    two ∙ ap (λ (z : PartsState). left_all z (diamond_slots z.pool.pairs s)) one
    ∙ ap (λ (z : PoolState). left_all (left_all parts below) (diamond_slots z.pairs s)) (left_all-pool parts below)
    ∙ sym (left_all-append parts below (diamond_slots parts.pool.pairs s))

-- a diamond that can be merged, as a fact
pub slot_merge : (pairs : List ℕ) (s : ℕ) → is_ready_at pairs s ≡ true → IsMergeReady pairs (address_at pairs s)
slot_merge pairs s ready = (ready_at_parts pairs s ready).1

-- b is a triangle of the diamond of a
abbrev pub IsOf : ℕ → ℕ → Type 0
IsOf a b = (b ≡ a) ⊎ ((1 ≤ mate_of a) × (b ≡ mate_of a))

-- no triangle of a diamond is the child of one
not_under : (a b : ℕ) → 2 ≤ a → IsOf a b → IsUnder a b → ⊥
not_under a b low (inl own) (inl under) = omega arith
not_under a b low (inl own) (inr under) =
    let none = mate_of-no_child a low under.0 in
    let one = none.0 in
    let two = none.1 in
    let half = under.1 in
    omega arith
not_under a b low (inr own) (inl under) =
    let mate_low = mate_of-low a low own.0 in
    let back : mate_of (mate_of a) ≡ a = mate_of-back a low own.0 in
    let none = mate_of-no_child (mate_of a) mate_low (let e : 1 ≤ mate_of (mate_of a) = omega arith in e) in
    let one = none.0 in
    let two = none.1 in
    let is = own.1 in
    omega arith
not_under a b low (inr own) (inr under) =
    let mate_low = mate_of-low a low own.0 in
    let is = own.1 in
    let half = under.1 in
    omega arith

-- a merge keeps the triangles of the diamond at their slots, and makes them leaves
pub kept_slot : (before after : List ℕ) (a s : ℕ) → IsMerge before after a → 2 ≤ a → IsLive before s →
    IsOf a (address_at before s) → address_at after s ≡ address_at before s
kept_slot before after a s merge low live own = merge.slots s live (not_under a (address_at before s) low own)

-- not one of them is split after it
pub of_whole : (before after : List ℕ) (a b : ℕ) → IsMerge before after a → 2 ≤ b → IsOf a b →
    has_children after b ≡ false
of_whole before after a b merge low own = false_from_ne_true (has_children after b) (λ h. both_ways (split_set after b)
    (⊎_elim (λ (same : b ≡ a). ap (split_set after) same ∙ merge.removed)
    (λ (mate : (1 ≤ mate_of a) × (b ≡ mate_of a)). ap (split_set after) mate.1 ∙ merge.mate mate.0) own)
    (has_children-set after b low h))

-- so each of them is a leaf
pub kept_leaf : (before after : List ℕ) (a s : ℕ) → IsMerge before after a → 2 ≤ a → IsLive before s →
    IsOf a (address_at before s) → is_leaf_at after s ≡ true
kept_leaf before after a s merge low live own =
    let same : address_at after s ≡ address_at before s = kept_slot before after a s merge low live own in
    leaf_from after s record {
      live = subst (λ z. 2 ≤ z) (sym same) live;
      leaf = ap (has_children after) same ∙ of_whole before after a (address_at before s) merge live own;
    }

-- a merge keeps the halves of the square where they are
pub kept_root : (before after : List ℕ) (a : ℕ) → IsMerge before after a → 2 ≤ a →
    slice_index before 0 ≡ 1 → slice_index after 0 ≡ 1
kept_root before after a merge low root =
    let two : address_at before 0 ≡ 2 = omega arith in
    let same : address_at after 0 ≡ address_at before 0 = merge.slots 0 (omega arith) (λ under. ⊎_elim
    (λ (half : address_at before 0 / 2 ≡ a). absurd (let e : ⊥ = omega arith in e))
    (λ (half : (1 ≤ mate_of a) × (address_at before 0 / 2 ≡ mate_of a)).
    absurd (let mate_low = mate_of-low a low half.0 in let is = half.1 in let e : ⊥ = omega arith in e))
    under) in
    root_kept before after root same

-- what the pool's merge of a slot does
pub record IsPooled (before after : PoolState) (s : ℕ) : Type 0 where
  pub n : after.n ≡ before.n
  pub most : after.most ≡ before.most
  pub splits : after.splits ≡ before.splits
  pub merges : after.merges ≡ before.merges + diamond_size (address_at before.pairs s)
  pub room : room_of after.pairs ≡ room_of before.pairs + diamond_size (address_at before.pairs s)
  pub merge : IsMerge before.pairs after.pairs (address_at before.pairs s)
  pub valid : IsPool after.n after.pairs

-- the slots that are fresh after a merge, in any order
abbrev pub fresh_slots : List ℕ → ℕ → ℕ → List ℕ
fresh_slots pairs m s = with_above pairs s ++ cond (nat_lt 0 m) (with_above pairs (slot_of pairs m)) []

-- and in the order in which they are listed
abbrev pub listed_slots : List ℕ → ℕ → ℕ → List ℕ
listed_slots pairs m s = (above_slots pairs s ++ mate_slots pairs m) ++ (s ∷ [])

-- both are the same slots
pub listed_fresh : (pairs : List ℕ) (m s r : ℕ) → among (listed_slots pairs m s) r ≡ among (fresh_slots pairs m s) r
listed_fresh pairs m s r = same_tests (among (listed_slots pairs m s) r) (among (fresh_slots pairs m s) r) to from
  where
    above : List ℕ
    above = above_slots pairs s

    t : ℕ
    t = slot_of pairs m

    other : List ℕ
    other = above_slots pairs (slot_of pairs m)

    across : List ℕ
    across = cond (nat_lt 0 m) (with_above pairs (slot_of pairs m)) []

    to : among (listed_slots pairs m s) r ≡ true → among (fresh_slots pairs m s) r ≡ true
    to h = ⊎_elim
        (λ first. ⊎_elim
        (λ a. in_left r (s ∷ above) across (in_later r s above a))
        (λ b.
        let chosen = in_choice r (nat_lt 0 m) (other ++ (t ∷ [])) b in
        in_right r (s ∷ above) across (choice_in r (nat_lt 0 m) (t ∷ other) chosen.0 (⊎_elim
        (λ o. in_later r t other o)
        (λ own. ⊎_elim (λ (is : r ≡ t). in_first r t other (sym is))
        (λ none. absurd (both_ways false refl none)) (in_cases r t [] own))
        (in_either r other (t ∷ []) chosen.1))))
        (in_either r above (mate_slots pairs m) first))
        (λ own. ⊎_elim (λ (is : r ≡ s). in_left r (s ∷ above) across (in_first r s above (sym is)))
        (λ none. absurd (both_ways false refl none)) (in_cases r s [] own))
        (in_either r (above ++ mate_slots pairs m) (s ∷ []) h)

    from : among (fresh_slots pairs m s) r ≡ true → among (listed_slots pairs m s) r ≡ true
    from h = ⊎_elim
        (λ first. ⊎_elim
        (λ (is : r ≡ s). in_right r (above ++ mate_slots pairs m) (s ∷ []) (in_first r s [] (sym is)))
        (λ a. in_left r (above ++ mate_slots pairs m) (s ∷ []) (in_left r above (mate_slots pairs m) a))
        (in_cases r s above first))
        (λ b.
        let chosen = in_choice r (nat_lt 0 m) (t ∷ other) b in
        in_left r (above ++ mate_slots pairs m) (s ∷ [])
        (in_right r above (mate_slots pairs m) (choice_in r (nat_lt 0 m) (other ++ (t ∷ [])) chosen.0 (⊎_elim
        (λ (is : r ≡ t). in_right r other (t ∷ []) (in_first r t [] (sym is)))
        (λ o. in_left r other (t ∷ []) o)
        (in_cases r t other chosen.1)))))
        (in_either r (s ∷ above) across h)

-- the parts once all is listed
abbrev pub merged_state : PartsState → PoolState → ℕ → PartsState
merged_state before pool s =
    pushed_all (pushed_all (pushed_all (record (left_all before (with_children before.pool.pairs s)) { pool = pool })
    (above_slots pool.pairs s))
    (mate_slots pool.pairs (mate_of (address_at before.pool.pairs s)))) (s ∷ [])

abbrev IsAtPool : PartsState → PartsState → ℕ → PoolState → Type 0
IsAtPool before after s pool = IsPooled before.pool pool s × (after ≡ merged_state before pool s)

-- so the parts are as they must be once both triangles are listed
pub merged_at : (before after : PartsState) (s : ℕ) (pool : PoolState) → IsPooled before.pool pool s →
    after ≡ merged_state before pool s → IsMergeAt before after s
merged_at before after s pool pooled state =
    let start : PartsState = record (left_all before (with_children before.pool.pairs s)) { pool = pool } in
    let first : PartsState = pushed_all start (above_slots pool.pairs s) in
    let more : List ℕ = mate_slots pool.pairs (mate_of (address_at before.pool.pairs s)) in
    let same : after.pool ≡ pool =
    ap (λ (z : PartsState). z.pool) state ∙ pushed_all-pool (pushed_all first more) (s ∷ [])
    ∙ pushed_all-pool first more ∙ pushed_all-pool start (above_slots pool.pairs s) in
    let all : IsAtPool before after s after.pool = subst (IsAtPool before after s) (sym same) (pooled, state) in
    record {
      n = all.0.n;
      most = all.0.most;
      splits = all.0.splits;
      merges = all.0.merges;
      room = all.0.room;
      merge = all.0.merge;
      valid = all.0.valid;
      state = all.1;
    }

-- one triangle
pub alone_state : (before was first after : PartsState) (s kept : ℕ) (pool : PoolState) →
    was ≡ left_all before (with_children before.pool.pairs s) → kept ≡ s →
    mate_of (address_at before.pool.pairs s) ≡ 0 →
    first ≡ pushed_all (record was { pool = pool }) (above_slots pool.pairs kept) → after ≡ pushed first kept →
    after ≡ merged_state before pool s
alone_state before was first after s kept pool gone same none one state =
    state ∙ ap (λ z. pushed z kept) one
    ∙ ap (λ k. pushed (pushed_all (record was { pool = pool }) (above_slots pool.pairs k)) k) same
    ∙ ap (λ (z : PartsState). pushed (pushed_all (record z { pool = pool }) (above_slots pool.pairs s)) s) gone
    ∙ ap (λ m. pushed (pushed_all (pushed_all (record (left_all before (with_children before.pool.pairs s))
    { pool = pool }) (above_slots pool.pairs s)) (mate_slots pool.pairs m)) s) (sym none)

-- two
pub both_state : (before was first second third after : PartsState) (s kept t : ℕ) (pool : PoolState) →
    was ≡ left_all before (with_children before.pool.pairs s) → kept ≡ s →
    1 ≤ mate_of (address_at before.pool.pairs s) → slot_of pool.pairs (mate_of (address_at before.pool.pairs s)) ≡ t →
    first ≡ pushed_all (record was { pool = pool }) (above_slots pool.pairs kept) →
    second ≡ pushed_all first (above_slots first.pool.pairs t) →
    third ≡ pushed second t → after ≡ pushed third kept → after ≡ merged_state before pool s
both_state before was first second third after s kept t pool gone same some slot one two three state =
    let m : ℕ = mate_of (address_at before.pool.pairs s) in
    let start : PartsState = record (left_all before (with_children before.pool.pairs s)) { pool = pool } in
    let to : first ≡ pushed_all start (above_slots pool.pairs s) =
    one ∙ ap (λ z. pushed_all (record was { pool = pool }) (above_slots pool.pairs z)) same
    ∙ ap (λ (z : PartsState). pushed_all (record z { pool = pool }) (above_slots pool.pairs s)) gone in
    let kept_pool : first.pool ≡ pool =
    ap (λ (z : PartsState). z.pool) to ∙ pushed_all-pool start (above_slots pool.pairs s) in
    let upper : second ≡ pushed_all (pushed_all start (above_slots pool.pairs s)) (above_slots pool.pairs t) =
    two ∙ ap (λ (z : PoolState). pushed_all first (above_slots z.pairs t)) kept_pool
    ∙ ap (λ z. pushed_all z (above_slots pool.pairs t)) to in
    let both : third ≡ pushed_all (pushed_all start (above_slots pool.pairs s)) (above_slots pool.pairs t ++ (t ∷ [])) =
    three ∙ ap (λ z. pushed z t) upper
    ∙ sym (pushed_all-append (pushed_all start (above_slots pool.pairs s)) (above_slots pool.pairs t) (t ∷ [])) in
    state ∙ ap (λ k. pushed third k) same ∙ ap (λ z. pushed z s) both
    ∙ ap (λ z. pushed (pushed_all (pushed_all start (above_slots pool.pairs s))
    (above_slots pool.pairs z ++ (z ∷ []))) s) (sym slot)
    ∙ ap (λ b. pushed (pushed_all (pushed_all start (above_slots pool.pairs s))
    (cond b (above_slots pool.pairs (slot_of pool.pairs m) ++ (slot_of pool.pairs m ∷ [])) [])) s)
    (sym (lt-ltb 0 m some))

-- the mate stays at its slot
pub mate_kept : (before after : PoolState) (s t : ℕ) → IsPooled before after s → IsLive before.pairs s →
    1 ≤ mate_of (address_at before.pairs s) →
    address_at before.pairs t ≡ mate_of (address_at before.pairs s) →
    (is_leaf_at after.pairs t ≡ true) × (slot_of after.pairs (mate_of (address_at before.pairs s)) ≡ t)
mate_kept before after s t pooled live some at =
    let low : 2 ≤ mate_of (address_at before.pairs s) = mate_of-low (address_at before.pairs s) live some in
    let there : IsLive before.pairs t = subst (λ z. 2 ≤ z) (sym at) low in
    let same =
    kept_slot before.pairs after.pairs (address_at before.pairs s) t pooled.merge live there (inr (some, at)) in (
      kept_leaf before.pairs after.pairs (address_at before.pairs s) t pooled.merge live there (inr (some, at)),
      one_slot after.n after.pairs t (mate_of (address_at before.pairs s)) pooled.valid low (same ∙ at),
    )
