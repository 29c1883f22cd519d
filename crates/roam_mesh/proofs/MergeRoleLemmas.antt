-- What a merge of a diamond does to the roles of slots.
use Rattle.std.proofs.Common.{◌≡◌, ℕ, ◌+◌, ◌*◌, ◌/◌, ◌%◌, ◌<◌, ◌≤◌, ◌⊎◌, inl, inr, ◌&&◌, true, false, cond, nat_le}
use Rattle.std.proofs.Common.{nat_lt, List, [], ◌∷◌, ◌++◌, refl, sym, ◌∙◌, ap, subst, arith, ⊎_elim}
use Rattle.std.proofs.lemmas.Bool.{cases_lt, both_ways, false_from_ne_true, false≢true, lt-ltb, ltb-true, le-leb}
use Rattle.std.proofs.lemmas.Bool.{and_from}
use Rattle.mesh_defs.specs.Triangle.{level_of}
use Rattle.mesh_defs.specs.ClosedSet.{among, IsClosed}
use Rattle.mesh_laws.specs.Deferred.{IsEntry}
use Rattle.mesh_laws.specs.Diamond.{IsInDiamond, CanMerge, IsWithoutDiamond}
use Rattle.mesh_defs.proofs.TestLemmas.{same_tests}
use Rattle.mesh_laws.proofs.ChangeLemmas.{merge_keeps_mergeable, merge_new_mergeable}
use Rattle.mesh_laws.specs.Edge.{mate_of}
use Rattle.mesh_laws.specs.Slots.{address_at, has_children, split_set, IsLive, IsPool, HasTwoLeaves, IsMergeReady}
use Rattle.mesh_laws.specs.Slots.{IsUnder}
use Rattle.mesh_laws.proofs.MateLemmas.{mate_of-low, mate_of-back}
use Rattle.mesh_laws.proofs.SlotLemmas.{set-has_children, has_children-set, among-split_list, split_list-closed}
use Rattle.triangle_pool.specs.Slots.{PoolState}
use Rattle.roam_mesh.specs.Mesh.{slot_of, pool_members}
use Rattle.roam_mesh.specs.Parts.{is_leaf_at, is_ready, is_ready_at, is_entry_at}
use Rattle.roam_mesh.specs.Change.{child_slots, diamond_slots, above_slots, with_above, with_children}
use Rattle.roam_mesh.proofs.PlaceLemmas.{one_slot, address-slot_of}
use Rattle.roam_mesh.proofs.RoleLemmas.{leaf_parts, leaf_from, ready_from, ready_at_parts, ready_at_from, ready_live}
use Rattle.roam_mesh.proofs.RoleLemmas.{entry_live, leaf_entry, ready_entry, entry_cases, entry_at-of, ready_of-at}
use Rattle.roam_mesh.proofs.RoleLemmas.{ready_at-of, entry_level, ready_mate, diamond_mate, mate_diamond, ready_turned}
use Rattle.roam_mesh.proofs.ChainSlotLemmas.{diamond_cases, in_diamond, IsAbove, above_at, above_only, above_cases}
use Rattle.roam_mesh.proofs.ChainSlotLemmas.{in_above, own_above}
use Rattle.roam_mesh.proofs.SlotListLemmas.{in_left, in_right, in_either, in_first, in_later, in_cases, in_choice}
use Rattle.roam_mesh.proofs.SlotListLemmas.{choice_in}
use Rattle.roam_mesh.proofs.PoolChangeLemmas.{IsRepooled}
use Rattle.roam_mesh.proofs.MergeAtLemmas.{IsOf, IsPooled, fresh_slots, kept_slot, of_whole, slot_merge}

-- the child slots of a triangle

child_cases : (n : ℕ) (pairs : List ℕ) (t r : ℕ) → IsPool n pairs → 2 ≤ address_at pairs t →
    has_children pairs (address_at pairs t) ≡ true →
    among (child_slots pairs t) r ≡ true → IsLive pairs r × (address_at pairs r / 2 ≡ address_at pairs t)
child_cases n pairs t r pool low split h =
    let b : ℕ = address_at pairs t in
    let left : address_at pairs (slot_of pairs (2 * b)) ≡ 2 * b = address-slot_of n pairs (2 * b) pool (omega arith)
    (subst (λ z. has_children pairs z ≡ true) (let e : b ≡ 2 * b / 2 = omega arith in e) split) in
    let right : address_at pairs (slot_of pairs (2 * b + 1)) ≡ 2 * b + 1 =
    address-slot_of n pairs (2 * b + 1) pool (omega arith)
    (subst (λ z. has_children pairs z ≡ true) (let e : b ≡ (2 * b + 1) / 2 = omega arith in e) split) in
    ⊎_elim
    (λ (is : r ≡ slot_of pairs (2 * b)).
    let at : address_at pairs r ≡ 2 * b = ap (address_at pairs) is ∙ left in
    (omega arith, omega arith))
    (λ rest. ⊎_elim
    (λ (is : r ≡ slot_of pairs (2 * b + 1)).
    let at : address_at pairs r ≡ 2 * b + 1 = ap (address_at pairs) is ∙ right in
    (omega arith, omega arith))
    (λ none. absurd (false≢true none))
    (in_cases r (slot_of pairs (2 * b + 1)) [] rest))
    (in_cases r (slot_of pairs (2 * b)) (slot_of pairs (2 * b + 1) ∷ []) h)

child_in : (n : ℕ) (pairs : List ℕ) (t r : ℕ) → IsPool n pairs → IsLive pairs r →
    address_at pairs r / 2 ≡ address_at pairs t → among (child_slots pairs t) r ≡ true
child_in n pairs t r pool live half =
    let b : ℕ = address_at pairs t in
    ⊎_elim
    (λ (even : address_at pairs r % 2 < 1).
    let is : slot_of pairs (2 * b) ≡ r = one_slot n pairs r (2 * b) pool (omega arith) (omega arith) in
    in_first r (slot_of pairs (2 * b)) (slot_of pairs (2 * b + 1) ∷ []) is)
    (λ (odd : 1 ≤ address_at pairs r % 2).
    let is : slot_of pairs (2 * b + 1) ≡ r = one_slot n pairs r (2 * b + 1) pool (omega arith) (omega arith) in
    in_later r (slot_of pairs (2 * b)) (slot_of pairs (2 * b + 1) ∷ []) (in_first r (slot_of pairs (2 * b + 1)) [] is))
    (cases_lt (address_at pairs r % 2) 1)

-- slot r has a triangle of a diamond that can be merged, right above c, a triangle of the diamond of a
pub record IsUp (pairs : List ℕ) (a r : ℕ) : Type 0 where
  pub below : ℕ
  pub own : IsOf a below
  pub big : 4 ≤ below
  pub ready : is_ready_at pairs r ≡ true
  pub above : IsOf (below / 2) (address_at pairs r)

-- a slot above one
ready_low : (pairs : List ℕ) (b : ℕ) → 2 ≤ b → is_ready pairs b ≡ true → (nat_le 2 b && is_ready pairs b) ≡ true
ready_low pairs b low h = and_from (nat_le 2 b) (is_ready pairs b) (le-leb 2 b low) h

above_up : (n : ℕ) (pairs : List ℕ) (a t r : ℕ) → IsPool n pairs → IsOf a (address_at pairs t) →
    IsAbove pairs t r → IsUp pairs a r
above_up n pairs a t r pool own is =
    let c : ℕ = address_at pairs t in
    let big = is.big in
    let u : ℕ = slot_of pairs (c / 2) in
    let there : address_at pairs u ≡ c / 2 = above_at n pairs (c / 2) pool (omega arith) is.ready in
    let live : IsLive pairs u = subst (λ z. 2 ≤ z) (sym there) (omega arith) in
    let ready : is_ready_at pairs u ≡ true = subst (λ z. (nat_le 2 z && is_ready pairs z) ≡ true) (sym there)
    (ready_low pairs (c / 2) (omega arith) is.ready) in
    ⊎_elim
    (λ (first : r ≡ u). record {
      below = c;
      own = own;
      big = big;
      ready = subst (λ z. is_ready_at pairs z ≡ true) (sym first) ready;
      above = inl (ap (address_at pairs) first ∙ there);
    })
    (λ (second : (1 ≤ mate_of (c / 2)) × (r ≡ slot_of pairs (mate_of (c / 2)))).
    let some : 1 ≤ mate_of (address_at pairs u) = subst (λ z. 1 ≤ mate_of z) (sym there) second.0 in
    let mate = ready_mate n pairs u pool ready some in
    let place : slot_of pairs (mate_of (address_at pairs u)) ≡ r =
    ap (λ z. slot_of pairs (mate_of z)) there ∙ sym second.1 in
    record {
      below = c;
      own = own;
      big = big;
      ready = subst (λ z. is_ready_at pairs z ≡ true) place mate.0;
      above = inr (second.0, ap (address_at pairs) (sym place) ∙ mate.1 ∙ ap mate_of there);
    })
    is.slot

-- and back
abbrev IsAboveAt : List ℕ → ℕ → ℕ → Type 0
IsAboveAt pairs c r =
    (is_ready pairs (c / 2) ≡ true)
    × ((r ≡ slot_of pairs (c / 2)) ⊎ ((1 ≤ mate_of (c / 2)) × (r ≡ slot_of pairs (mate_of (c / 2)))))

up_above : (n : ℕ) (pairs : List ℕ) (t r c : ℕ) → IsPool n pairs → address_at pairs t ≡ c → 4 ≤ c →
    is_ready_at pairs r ≡ true → IsOf (address_at pairs r) (c / 2) → IsAbove pairs t r
up_above n pairs t r c pool at big ready own =
    let parts = ready_at_parts pairs r ready in
    let made : IsAboveAt pairs c r = ⊎_elim
    (λ (first : c / 2 ≡ address_at pairs r). (
      ready_from pairs (c / 2) (subst (λ z. IsMergeReady pairs z) (sym first) parts.1),
      inl (sym (one_slot n pairs r (c / 2) pool (omega arith) (sym first))),
    ))
    (λ (second : (1 ≤ mate_of (address_at pairs r)) × (c / 2 ≡ mate_of (address_at pairs r))).
    let back : mate_of (c / 2) ≡ address_at pairs r =
    ap mate_of second.1 ∙ mate_of-back (address_at pairs r) parts.0 second.0 in (
      ready_from pairs (c / 2) (subst (λ z. IsMergeReady pairs z) (sym second.1)
          (ready_turned pairs (address_at pairs r) parts.0 second.0 parts.1)),
      inr (
        subst (λ z. 1 ≤ z) (sym back) (let low = parts.0 in omega arith),
        sym (ap (slot_of pairs) back ∙ one_slot n pairs r (address_at pairs r) pool parts.0 refl),
      ),
    ))
    own in
    subst (λ z. IsAboveAt pairs z r → IsAbove pairs t r) at
    (λ (m : IsAboveAt pairs (address_at pairs t) r). record {
      big = subst (λ z. 4 ≤ z) (sym at) big;
      ready = m.0;
      slot = m.1;
    }) made

module _ (before after : PoolState) (s : ℕ) (pooled : IsPooled before after s) (old : IsPool before.n before.pairs)
    (ready : is_ready_at before.pairs s ≡ true) where
  abbrev top : ℕ
  top = address_at before.pairs s

  low : 2 ≤ top
  low = ready_live before.pairs s ready

  level : level_of top ≤ 2 * before.n
  level = entry_level before.n before.pairs s old (ready_entry before.pairs s ready)

  of_low : (b : ℕ) → IsOf top b → 2 ≤ b
  of_low b own =
      ⊎_elim (λ (same : b ≡ top). subst (λ z. 2 ≤ z) (sym same) low) (λ (mate : (1 ≤ mate_of top) × (b ≡ mate_of top)).
      subst (λ z. 2 ≤ z) (sym mate.1) (mate_of-low top low mate.0)) own

  -- the diamond is split before, with leaves below, and not after
  two_of : (b : ℕ) → IsOf top b → HasTwoLeaves before.pairs b
  two_of b own = let is = slot_merge before.pairs s ready in ⊎_elim
      (λ (same : b ≡ top). subst (λ z. HasTwoLeaves before.pairs z) (sym same) is.own)
      (λ (mate : (1 ≤ mate_of top) × (b ≡ mate_of top)).
      subst (λ z. HasTwoLeaves before.pairs z) (sym mate.1) (is.mate mate.0))
      own

  ready_of : (b : ℕ) → IsOf top b → IsMergeReady before.pairs b
  ready_of b own = let is = slot_merge before.pairs s ready in ⊎_elim
      (λ (same : b ≡ top). subst (λ z. IsMergeReady before.pairs z) (sym same) is)
      (λ (mate : (1 ≤ mate_of top) × (b ≡ mate_of top)).
      subst (λ z. IsMergeReady before.pairs z) (sym mate.1) (ready_turned before.pairs top low mate.0 is))
      own

  whole_of : (b : ℕ) → IsOf top b → has_children after.pairs b ≡ false
  whole_of b own = of_whole before.pairs after.pairs top b pooled.merge (of_low b own) own

  split_gone : (b : ℕ) → IsOf top b → split_set after.pairs b ≡ false
  split_gone b own = ⊎_elim
      (λ (same : b ≡ top). ap (split_set after.pairs) same ∙ pooled.merge.removed)
      (λ (mate : (1 ≤ mate_of top) × (b ≡ mate_of top)). ap (split_set after.pairs) mate.1 ∙ pooled.merge.mate mate.0)
      own

  child_whole : (p : ℕ) → IsOf top (p / 2) → has_children before.pairs p ≡ false
  child_whole p own =
      let two = two_of (p / 2) own in ⊎_elim
      (λ (even : p % 2 < 1).
      subst (λ z. has_children before.pairs z ≡ false) (let e : 2 * (p / 2) ≡ p = omega arith in e) two.left)
      (λ (odd : 1 ≤ p % 2).
      subst (λ z. has_children before.pairs z ≡ false) (let e : 2 * (p / 2) + 1 ≡ p = omega arith in e) two.right)
      (cases_lt (p % 2) 1)

  -- all others stay as they are
  split_kept : (p : ℕ) → (IsOf top p → ⊥) → split_set after.pairs p ≡ split_set before.pairs p
  split_kept p apart = pooled.merge.others p (λ e. apart (inl e)) (λ some e. apart (inr (some, e)))

  children_kept : (p : ℕ) → 2 ≤ p → (IsOf top p → ⊥) → has_children after.pairs p ≡ has_children before.pairs p
  children_kept p high apart =
      let same = split_kept p apart in
      same_tests (has_children after.pairs p) (has_children before.pairs p)
      (λ h. set-has_children before.pairs p (sym same ∙ has_children-set after.pairs p high h))
      (λ h. set-has_children after.pairs p (same ∙ has_children-set before.pairs p high h))

  -- a slot that is live after was live before, and keeps its triangle
  live_was : (r : ℕ) → IsLive after.pairs r → IsLive before.pairs r × (IsUnder top (address_at before.pairs r) → ⊥)
      × (address_at after.pairs r ≡ address_at before.pairs r)
  live_was r live =
      let was : IsLive before.pairs r =
      ⊎_elim (λ (dead : address_at before.pairs r < 2). absurd (let gone = pooled.merge.empty r dead in
      let e : ⊥ = omega arith in e)) (λ h. h) (cases_lt (address_at before.pairs r) 2) in
      let apart : IsUnder top (address_at before.pairs r) → ⊥ = λ under. let gone = pooled.merge.free r was under in
      let e : ⊥ = omega arith in e in
      (was, apart, pooled.merge.slots r was apart)

  -- the set is without the diamond
  pub merge_without : IsWithoutDiamond before.n (pool_members before) top (pool_members after)
  merge_without = record {
    ascending = (split_list-closed after.n after.pairs pooled.valid).ascending;
    members = λ b. (
      (λ h.
          let is : split_set after.pairs b ≡ true = sym (among-split_list after.n after.pairs b pooled.valid) ∙ h in
          let apart : IsOf top b → ⊥ = λ own. both_ways (split_set after.pairs b) (split_gone b own) is in (
            among-split_list before.n before.pairs b old ∙ sym (split_kept b apart) ∙ is,
            λ i. apart (diamond_mate before.n top b low level i),
          )),
      (λ r. among-split_list after.n after.pairs b pooled.valid
          ∙ split_kept b (λ own. r.1 (mate_diamond before.n top b low level own))
          ∙ sym (among-split_list before.n before.pairs b old) ∙ r.0),
    );
  }

  closed_before : IsClosed before.n (among (pool_members before))
  closed_before = (split_list-closed before.n before.pairs old).closed

  can_before : CanMerge before.n (among (pool_members before)) top
  can_before = ready_of-at before s old ready

  -- the slots that leave their places
  mate_place : 1 ≤ mate_of top → address_at before.pairs (slot_of before.pairs (mate_of top)) ≡ mate_of top
  mate_place some = (ready_mate before.n before.pairs s old ready some).1

  gone_cases : (r : ℕ) → among (with_children before.pairs s) r ≡ true →
      IsLive before.pairs r × (IsOf top (address_at before.pairs r / 2) ⊎ IsOf top (address_at before.pairs r))
  gone_cases r h = ⊎_elim
      (λ below. ⊎_elim
      (λ own.
      let is = child_cases before.n before.pairs s r old low (two_of top (inl refl)).split own in
      (is.0, inl (inl is.1)))
      (λ across.
      let chosen =
      in_choice r (nat_lt 0 (mate_of top)) (child_slots before.pairs (slot_of before.pairs (mate_of top))) across in
      let some : 1 ≤ mate_of top = ltb-true 0 (mate_of top) chosen.0 in
      let place = mate_place some in
      let is = child_cases before.n before.pairs (slot_of before.pairs (mate_of top)) r old
      (subst (λ z. 2 ≤ z) (sym place) (mate_of-low top low some))
      (subst (λ z. has_children before.pairs z ≡ true) (sym place)
      (two_of (mate_of top) (inr (some, refl))).split) chosen.1 in
      (is.0, inl (inr (some, is.1 ∙ place))))
      (in_either r (child_slots before.pairs s)
      (cond (nat_lt 0 (mate_of top)) (child_slots before.pairs (slot_of before.pairs (mate_of top))) []) below))
      (λ diamond. ⊎_elim
      (λ (own : r ≡ s).
      let at : address_at before.pairs r ≡ top = ap (address_at before.pairs) own in
      (subst (λ z. 2 ≤ z) (sym at) low, inr (inl at)))
      (λ (across : (1 ≤ mate_of top) × (r ≡ slot_of before.pairs (mate_of top))).
      let at : address_at before.pairs r ≡ mate_of top = ap (address_at before.pairs) across.1 ∙ mate_place across.0 in
      (subst (λ z. 2 ≤ z) (sym at) (mate_of-low top low across.0), inr (inr (across.0, at))))
      (diamond_cases before.pairs s r diamond))
      (in_either r (child_slots before.pairs s ++ cond (nat_lt 0 (mate_of top))
      (child_slots before.pairs (slot_of before.pairs (mate_of top))) []) (diamond_slots before.pairs s) h)

  gone_under : (r : ℕ) → IsLive before.pairs r → IsOf top (address_at before.pairs r / 2) →
      among (with_children before.pairs s) r ≡ true
  gone_under r live under =
      let own : List ℕ = child_slots before.pairs s in
      let across : List ℕ =
      cond (nat_lt 0 (mate_of top)) (child_slots before.pairs (slot_of before.pairs (mate_of top))) [] in
      in_left r (own ++ across) (diamond_slots before.pairs s) (⊎_elim
      (λ half. in_left r own across (child_in before.n before.pairs s r old live half))
      (λ (half : (1 ≤ mate_of top) × (address_at before.pairs r / 2 ≡ mate_of top)). in_right r own across
      (choice_in r (nat_lt 0 (mate_of top)) (child_slots before.pairs (slot_of before.pairs (mate_of top)))
      (lt-ltb 0 (mate_of top) half.0)
      (child_in before.n before.pairs (slot_of before.pairs (mate_of top)) r old live
      (half.1 ∙ sym (mate_place half.0)))))
      under)

  gone_of : (r : ℕ) → IsLive before.pairs r → IsOf top (address_at before.pairs r) →
      among (with_children before.pairs s) r ≡ true
  gone_of r live own =
      in_right r (child_slots before.pairs s ++ cond (nat_lt 0 (mate_of top))
      (child_slots before.pairs (slot_of before.pairs (mate_of top))) []) (diamond_slots before.pairs s)
      (in_diamond before.pairs s r (⊎_elim
      (λ same. inl (old.once r s live same))
      (λ (mate : (1 ≤ mate_of top) × (address_at before.pairs r ≡ mate_of top)).
      inr (mate.0, sym (one_slot before.n before.pairs r (mate_of top) old (mate_of-low top low mate.0) mate.1)))
      own))

  -- they are entries
  pub gone_entry : (r : ℕ) → among (with_children before.pairs s) r ≡ true → is_entry_at before.pairs r ≡ true
  gone_entry r h = let is = gone_cases r h in ⊎_elim
      (λ under. leaf_entry before.pairs r (leaf_from before.pairs r record {
        live = is.0;
        leaf = child_whole (address_at before.pairs r) under;
      }))
      (λ own. ready_entry before.pairs r (ready_at_from before.pairs r is.0 (ready_of (address_at before.pairs r) own)))
      is.1

  -- the slots that are fresh
  top_kept : address_at after.pairs s ≡ top
  top_kept = kept_slot before.pairs after.pairs top s pooled.merge low low (inl refl)

  mate_kept_at : 1 ≤ mate_of top → address_at after.pairs (slot_of after.pairs (mate_of top)) ≡ mate_of top
  mate_kept_at some =
      let place = mate_place some in
      let live : IsLive before.pairs (slot_of before.pairs (mate_of top)) =
      subst (λ z. 2 ≤ z) (sym place) (mate_of-low top low some) in
      let same = kept_slot before.pairs after.pairs top
      (slot_of before.pairs (mate_of top)) pooled.merge low live (inr (some, place)) in
      let there : slot_of after.pairs (mate_of top) ≡ slot_of before.pairs (mate_of top) = one_slot after.n after.pairs
      (slot_of before.pairs (mate_of top)) (mate_of top) pooled.valid (mate_of-low top low some) (same ∙ place) in
      ap (address_at after.pairs) there ∙ same ∙ place

  later_cases : (r : ℕ) → among (fresh_slots after.pairs (mate_of top) s) r ≡ true →
      IsLive after.pairs r × (IsOf top (address_at after.pairs r) ⊎ IsUp after.pairs top r)
  later_cases r h =
      let place : (t : ℕ) → IsOf top (address_at after.pairs t) → among (with_above after.pairs t) r ≡ true →
      IsLive after.pairs r × (IsOf top (address_at after.pairs r) ⊎ IsUp after.pairs top r) =
      λ t own is. ⊎_elim
      (λ (same : r ≡ t).
      let at : IsOf top (address_at after.pairs r) = subst (λ z. IsOf top (address_at after.pairs z)) (sym same) own in
      (of_low (address_at after.pairs r) at, inl at))
      (λ (above : IsAbove after.pairs t r).
      let up = above_up after.n after.pairs top t r pooled.valid own above in
      (ready_live after.pairs r up.ready, inr up))
      (above_cases after.n after.pairs pooled.valid t r is) in
      ⊎_elim
      (λ own. place s (inl top_kept) own)
      (λ across.
      let chosen =
      in_choice r (nat_lt 0 (mate_of top)) (with_above after.pairs (slot_of after.pairs (mate_of top))) across in
      let some : 1 ≤ mate_of top = ltb-true 0 (mate_of top) chosen.0 in
      place (slot_of after.pairs (mate_of top)) (inr (some, mate_kept_at some)) chosen.1)
      (in_either r (with_above after.pairs s)
      (cond (nat_lt 0 (mate_of top)) (with_above after.pairs (slot_of after.pairs (mate_of top))) []) h)

  later_in : (t r : ℕ) → IsOf top (address_at after.pairs t) → IsLive after.pairs t →
      among (with_above after.pairs t) r ≡ true → among (fresh_slots after.pairs (mate_of top) s) r ≡ true
  later_in t r own live is =
      let across : List ℕ =
      cond (nat_lt 0 (mate_of top)) (with_above after.pairs (slot_of after.pairs (mate_of top))) [] in
      ⊎_elim
      (λ (same : address_at after.pairs t ≡ top). in_left r (with_above after.pairs s) across
      (subst (λ z. among (with_above after.pairs z) r ≡ true) (pooled.valid.once t s live (same ∙ sym top_kept)) is))
      (λ (mate : (1 ≤ mate_of top) × (address_at after.pairs t ≡ mate_of top)).
      in_right r (with_above after.pairs s) across
      (choice_in r (nat_lt 0 (mate_of top)) (with_above after.pairs (slot_of after.pairs (mate_of top)))
      (lt-ltb 0 (mate_of top) mate.0)
      (subst (λ z. among (with_above after.pairs z) r ≡ true)
      (sym (one_slot after.n after.pairs t (mate_of top) pooled.valid (mate_of-low top low mate.0) mate.1)) is)))
      own

  later_of : (r : ℕ) → IsLive after.pairs r → IsOf top (address_at after.pairs r) →
      among (fresh_slots after.pairs (mate_of top) s) r ≡ true
  later_of r live own = later_in r r own live (own_above after.pairs r)

  later_up : (r c : ℕ) → IsOf top c → 4 ≤ c → is_ready_at after.pairs r ≡ true →
      IsOf (address_at after.pairs r) (c / 2) → among (fresh_slots after.pairs (mate_of top) s) r ≡ true
  later_up r c own big is above =
      let there : (t : ℕ) × (address_at after.pairs t ≡ c) = ⊎_elim
      (λ (same : c ≡ top). (s, top_kept ∙ sym same))
      (λ (mate : (1 ≤ mate_of top) × (c ≡ mate_of top)).
      (slot_of after.pairs (mate_of top), mate_kept_at mate.0 ∙ sym mate.1))
      own in
      later_in there.0 r (subst (λ z. IsOf top z) (sym there.1) own) (subst (λ z. 2 ≤ z) (sym there.1) (omega arith))
      (in_above after.n after.pairs pooled.valid there.0 r
      (up_above after.n after.pairs there.0 r c pooled.valid there.1 big is above))

  -- what can be merged now right above the diamond could not before
  not_up : (r : ℕ) → is_ready_at before.pairs r ≡ true → IsUp after.pairs top r →
      address_at after.pairs r ≡ address_at before.pairs r → ⊥
  not_up r was up same =
      let b : ℕ = address_at before.pairs r in
      let parts = ready_at_parts before.pairs r was in
      let big = up.big in
      let above : IsOf (up.below / 2) b = subst (λ z. IsOf (up.below / 2) z) same up.above in
      let leaves : HasTwoLeaves before.pairs (up.below / 2) = ⊎_elim
      (λ (own : b ≡ up.below / 2). subst (λ z. HasTwoLeaves before.pairs z) own parts.1.own)
      (λ (mate : (1 ≤ mate_of (up.below / 2)) × (b ≡ mate_of (up.below / 2))).
      let back : mate_of b ≡ up.below / 2 = ap mate_of mate.1 ∙ mate_of-back (up.below / 2) (omega arith) mate.0 in
      subst (λ z. HasTwoLeaves before.pairs z) back (parts.1.mate (subst (λ z. 1 ≤ z) (sym back) (omega arith))))
      above in
      let split = (two_of up.below up.own).split in
      ⊎_elim
      (λ (even : up.below % 2 < 1). both_ways (has_children before.pairs up.below)
      (subst (λ z. has_children before.pairs z ≡ false)
      (let e : 2 * (up.below / 2) ≡ up.below = omega arith in e) leaves.left) split)
      (λ (odd : 1 ≤ up.below % 2). both_ways (has_children before.pairs up.below)
      (subst (λ z. has_children before.pairs z ≡ false)
      (let e : 2 * (up.below / 2) + 1 ≡ up.below = omega arith in e) leaves.right) split)
      (cases_lt (up.below % 2) 1)

  -- the roles after are those before, but for what is gone and what is fresh
  same_live : (r : ℕ) → IsLive before.pairs r → among (with_children before.pairs s) r ≡ false →
      IsLive after.pairs r × (address_at after.pairs r ≡ address_at before.pairs r)
  same_live r live stays =
      let same = pooled.merge.slots r live
      (λ under. both_ways (among (with_children before.pairs s) r) stays (gone_under r live under)) in
      (subst (λ z. 2 ≤ z) (sym same) live, same)

  stays_from : (r : ℕ) → IsLive after.pairs r → (IsOf top (address_at after.pairs r) → ⊥) →
      among (with_children before.pairs s) r ≡ false
  stays_from r live apart =
      let was = live_was r live in
      false_from_ne_true (among (with_children before.pairs s) r) (λ h. ⊎_elim
      (λ under. was.1 under)
      (λ own. apart (subst (λ z. IsOf top z) (sym was.2) own))
      (gone_cases r h).1)

  leaf_was : (r : ℕ) → is_leaf_at after.pairs r ≡ true → among (fresh_slots after.pairs (mate_of top) s) r ≡ false →
      (is_leaf_at before.pairs r ≡ true) × (among (with_children before.pairs s) r ≡ false)
  leaf_was r leaf none =
      let is = leaf_parts after.pairs r leaf in
      let was = live_was r is.live in
      let apart : IsOf top (address_at after.pairs r) → ⊥ =
      λ own. both_ways (among (fresh_slots after.pairs (mate_of top) s) r) none (later_of r is.live own) in
      let whole : has_children before.pairs (address_at before.pairs r) ≡ false =
      ap (has_children before.pairs) (sym was.2)
      ∙ sym (children_kept (address_at after.pairs r) is.live apart) ∙ is.leaf in
      (leaf_from before.pairs r record { live = was.0; leaf = whole }, stays_from r is.live apart)

  ready_was : (r : ℕ) → is_ready_at after.pairs r ≡ true → among (fresh_slots after.pairs (mate_of top) s) r ≡ false →
      (is_ready_at before.pairs r ≡ true) × (among (with_children before.pairs s) r ≡ false)
  ready_was r is none =
      let live = ready_live after.pairs r is in
      let was = live_was r live in
      let apart : IsOf top (address_at after.pairs r) → ⊥ =
      λ own. both_ways (has_children after.pairs (address_at after.pairs r))
      (whole_of (address_at after.pairs r) own) (ready_at_parts after.pairs r is).1.own.split in
      let can : CanMerge before.n (among (pool_members after)) (address_at after.pairs r) =
      subst (λ z. CanMerge z (among (pool_members after)) (address_at after.pairs r)) pooled.n
      (ready_of-at after r pooled.valid is) in
      let deep : level_of (address_at after.pairs r) ≤ 2 * before.n =
      subst (λ z. level_of (address_at after.pairs r) ≤ 2 * z) pooled.n
      (entry_level after.n after.pairs r pooled.valid (ready_entry after.pairs r is)) in
      let back : is_ready_at before.pairs r ≡ true = ⊎_elim
      (λ could.
      let at = ready_at-of before (address_at after.pairs r) old could in
      subst (λ z. is_ready_at before.pairs z ≡ true)
      (one_slot before.n before.pairs r (address_at after.pairs r) old live (sym was.2)) at.0)
      (λ (up : (c : ℕ) × IsInDiamond before.n top c × (4 ≤ c)
      × IsInDiamond before.n (address_at after.pairs r) (c / 2)).
      absurd (both_ways (among (fresh_slots after.pairs (mate_of top) s) r) none
      (later_up r up.0 (diamond_mate before.n top up.0 low level up.1) up.2 is
      (diamond_mate before.n (address_at after.pairs r) (up.0 / 2) live deep up.3))))
      (merge_new_mergeable before.n (pool_members before) top (pool_members after)
      (address_at after.pairs r) closed_before can_before merge_without can) in
      (back, stays_from r live apart)

  leaf_stays : (r : ℕ) → is_leaf_at before.pairs r ≡ true → among (with_children before.pairs s) r ≡ false →
      (is_leaf_at after.pairs r ≡ true) × (among (fresh_slots after.pairs (mate_of top) s) r ≡ false)
  leaf_stays r leaf stays =
      let is = leaf_parts before.pairs r leaf in
      let now = same_live r is.live stays in
      let apart : IsOf top (address_at before.pairs r) → ⊥ = λ own. both_ways (has_children before.pairs
      (address_at before.pairs r)) is.leaf (two_of (address_at before.pairs r) own).split in
      let whole : has_children after.pairs (address_at after.pairs r) ≡ false =
      ap (has_children after.pairs) now.1 ∙ children_kept (address_at before.pairs r) is.live apart ∙ is.leaf in (
        leaf_from after.pairs r record { live = now.0; leaf = whole },
        false_from_ne_true (among (fresh_slots after.pairs (mate_of top) s) r) (λ h. ⊎_elim
            (λ own. apart (subst (λ z. IsOf top z) now.1 own))
            (λ (up : IsUp after.pairs top r). both_ways (has_children after.pairs (address_at after.pairs r)) whole
            (ready_at_parts after.pairs r up.ready).1.own.split)
            (later_cases r h).1),
      )

  ready_stays : (r : ℕ) → is_ready_at before.pairs r ≡ true → among (with_children before.pairs s) r ≡ false →
      (is_ready_at after.pairs r ≡ true) × (among (fresh_slots after.pairs (mate_of top) s) r ≡ false)
  ready_stays r is stays =
      let live = ready_live before.pairs r is in
      let now = same_live r live stays in
      let apart : IsOf top (address_at before.pairs r) → ⊥ =
      λ own. both_ways (among (with_children before.pairs s) r) stays (gone_of r live own) in
      let can = merge_keeps_mergeable before.n (pool_members before) top (pool_members after)
      (address_at before.pairs r) merge_without (ready_of-at before r old is)
      (λ i. apart (diamond_mate before.n top (address_at before.pairs r) low level i)) in
      let at = ready_at-of after (address_at before.pairs r) pooled.valid
      (subst (λ z. CanMerge z (among (pool_members after)) (address_at before.pairs r)) (sym pooled.n) can) in (
        subst (λ z. is_ready_at after.pairs z ≡ true)
            (one_slot after.n after.pairs r (address_at before.pairs r) pooled.valid live now.1) at.0,
        false_from_ne_true (among (fresh_slots after.pairs (mate_of top) s) r) (λ h. ⊎_elim
            (λ own. apart (subst (λ z. IsOf top z) now.1 own))
            (λ up. not_up r is up now.1)
            (later_cases r h).1),
      )

  -- so a merge keeps each entry that is not gone, and all others are fresh
  pub merge_repooled : IsRepooled before after (among (with_children before.pairs s))
      (among (fresh_slots after.pairs (mate_of top) s))
  merge_repooled = record {
    leaf = leaf_was;
    ready = ready_was;
    old_leaf = leaf_stays;
    old_ready = ready_stays;
    same = λ r entry stays. (same_live r (entry_live before.pairs r entry) stays).1;
  }

  -- and what is fresh is an entry
  pub merge_fresh : (r : ℕ) → among (fresh_slots after.pairs (mate_of top) s) r ≡ true →
      is_entry_at after.pairs r ≡ true
  merge_fresh r h =
      let is = later_cases r h in
      ⊎_elim
      (λ (own : IsOf top (address_at after.pairs r)). leaf_entry after.pairs r (leaf_from after.pairs r record {
        live = is.0;
        leaf = whole_of (address_at after.pairs r) own;
      }))
      (λ (up : IsUp after.pairs top r). ready_entry after.pairs r up.ready)
      is.1

  -- and was none, but for the triangles of the diamond
  pub merge_new : (r : ℕ) → among (fresh_slots after.pairs (mate_of top) s) r ≡ true →
      (r ≡ s) ⊎ (((1 ≤ mate_of top) × (r ≡ slot_of before.pairs (mate_of top)))
      ⊎ (IsEntry before.n (among (pool_members before)) (address_at after.pairs r) → ⊥))
  merge_new r h =
      let is = later_cases r h in
      let was = live_was r is.0 in
      ⊎_elim
      (λ (own : IsOf top (address_at after.pairs r)). ⊎_elim
      (λ (same : address_at after.pairs r ≡ top). inl (old.once r s was.0 (sym was.2 ∙ same)))
      (λ (mate : (1 ≤ mate_of top) × (address_at after.pairs r ≡ mate_of top)).
      inr (inl (
        mate.0,
        sym (one_slot before.n before.pairs r (mate_of top) old (mate_of-low top low mate.0) (sym was.2 ∙ mate.1)),
      )))
      own)
      (λ (up : IsUp after.pairs top r). inr (inr (λ entry.
      let there = entry_at-of before (address_at after.pairs r) old entry in
      let here : slot_of before.pairs (address_at after.pairs r) ≡ r =
      one_slot before.n before.pairs r (address_at after.pairs r) old is.0 (sym was.2) in
      let split = (ready_at_parts after.pairs r up.ready).1.own.split in
      let apart : IsOf top (address_at after.pairs r) → ⊥ = λ own. both_ways (has_children after.pairs
      (address_at after.pairs r)) (whole_of (address_at after.pairs r) own) split in
      ⊎_elim
      (λ leaf.
      let whole : has_children before.pairs (address_at after.pairs r) ≡ false =
      ap (has_children before.pairs) (sym there.1)
      ∙ (leaf_parts before.pairs (slot_of before.pairs (address_at after.pairs r)) leaf).leaf in
      both_ways (has_children before.pairs (address_at after.pairs r)) whole
      (sym (children_kept (address_at after.pairs r) is.0 apart) ∙ split))
      (λ diamond. not_up r (subst (λ z. is_ready_at before.pairs z ≡ true) here diamond.1) up was.2)
      (entry_cases before.pairs (slot_of before.pairs (address_at after.pairs r)) there.0))))
      is.1

  -- the triangles of the diamond were entries, and stand where they stood
  pub own_stays : (is_entry_at before.pairs s ≡ true) × (address_at after.pairs s ≡ address_at before.pairs s)
  own_stays = (ready_entry before.pairs s ready, top_kept)

  pub mate_stays : 1 ≤ mate_of top → (is_entry_at before.pairs (slot_of before.pairs (mate_of top)) ≡ true)
      × (address_at after.pairs (slot_of before.pairs (mate_of top))
      ≡ address_at before.pairs (slot_of before.pairs (mate_of top)))
      × (slot_of after.pairs (mate_of top) ≡ slot_of before.pairs (mate_of top))
  mate_stays some =
      let place = mate_place some in
      let live : IsLive before.pairs (slot_of before.pairs (mate_of top)) =
      subst (λ z. 2 ≤ z) (sym place) (mate_of-low top low some) in
      let same = kept_slot before.pairs after.pairs top (slot_of before.pairs (mate_of top)) pooled.merge low live
      (inr (some, place)) in (
        ready_entry before.pairs (slot_of before.pairs (mate_of top))
            (ready_mate before.n before.pairs s old ready some).0,
        same,
        one_slot after.n after.pairs (slot_of before.pairs (mate_of top)) (mate_of top) pooled.valid
            (mate_of-low top low some) (same ∙ place),
      )

  -- no slot above one of them is one of them: those are leaves now
  pub above_apart : (t r : ℕ) → IsLive after.pairs r → IsOf top (address_at after.pairs r) →
      among (above_slots after.pairs t) r ≡ false
  above_apart t r live own = false_from_ne_true (among (above_slots after.pairs t) r) (λ h.
      let up = above_up after.n after.pairs (address_at after.pairs t) t r pooled.valid (inl refl)
      (above_only after.n after.pairs pooled.valid t r h) in
      both_ways (has_children after.pairs (address_at after.pairs r)) (whole_of (address_at after.pairs r) own)
      (ready_at_parts after.pairs r up.ready).1.own.split)

  -- a slot that is fresh is live
  pub later_live : (r : ℕ) → among (fresh_slots after.pairs (mate_of top) s) r ≡ true → IsLive after.pairs r
  later_live r h = (later_cases r h).0
