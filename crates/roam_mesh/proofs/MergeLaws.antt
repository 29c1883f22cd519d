-- A merge of a diamond, as the loop sees it.
use Rattle.std.proofs.Common.{◌≡◌, ℕ, ◌+◌, ◌-◌, ◌<◌, ◌≤◌, ◌||◌, inl, inr, Bool, true, false, nat_eq, nat_lt, List, []}
use Rattle.std.proofs.Common.{◌∷◌, ◌++◌, length, All, refl, sym, ◌∙◌, ap, subst, arith, ⊎_elim}
use Rattle.std.proofs.lemmas.Bool.{cases_lt, both_ways, cond-true, eqb-false, false_from_ne_true, or_parts, lt-ltb}
use Rattle.std.proofs.lemmas.Bool.{ltb-true}
use Rattle.std.proofs.lemmas.List.{append_assoc}
use Rattle.mesh_defs.specs.ClosedSet.{among}
use Rattle.mesh_defs.proofs.ListLemmas.{among-in}
use Rattle.mesh_laws.proofs.SetListLemmas.{All-in}
use Rattle.mesh_laws.proofs.SizeLemmas.{length-leaves_of}
use Rattle.mesh_laws.proofs.DiamondLemmas.{without_diamond-length}
use Rattle.mesh_laws.specs.Edge.{mate_of}
use Rattle.mesh_laws.specs.Diamond.{CanMerge, IsWithoutDiamond}
use Rattle.mesh_laws.specs.Deferred.{IsEntry}
use Rattle.mesh_laws.proofs.MateLemmas.{mate_of-other}
use Rattle.mesh_laws.specs.Slots.{address_at, diamond_size, IsLive, IsPool}
use Rattle.mesh_laws.proofs.IsMateLemmas.{IsMate-mate_of, mate_of-IsMate}
use Rattle.mesh_laws.proofs.SlotLemmas.{size_one, size_two, split_list-closed}
use Rattle.triangle_pool.specs.Slots.{PoolState}
use Rattle.deferred_loop.specs.Seen.{IsMergeOf}
use Rattle.roam_mesh.specs.Mesh.{slot_of, pool_members}
use Rattle.roam_mesh.specs.Parts.{PartsState, entry_at, seen_parts, is_ready_at, is_entry_at, IsWhole, IsParts}
use Rattle.roam_mesh.specs.Change.{above_slots, with_children, left_all, pushed_all, seated}
use Rattle.roam_mesh.specs.Keeping.{CanTakeBack}
use Rattle.roam_mesh.specs.Merging.{mate_slots, IsMergeAt}
use Rattle.roam_mesh.proofs.PlaceLemmas.{live_below, one_slot}
use Rattle.roam_mesh.proofs.RoleLemmas.{members_leaves, ready_of-at, ready_at-of, ready_live, ready_mate, ready_entry}
use Rattle.roam_mesh.proofs.RoleLemmas.{entry_live, entry_level}
use Rattle.roam_mesh.proofs.PlacedLemmas.{HasLeft, left_has}
use Rattle.roam_mesh.proofs.FreshLemmas.{HasPushed, pushed_has, pushed_all-append}
use Rattle.roam_mesh.proofs.MergeAtLemmas.{IsPooled, fresh_slots, listed_slots, listed_fresh, kept_root}
use Rattle.roam_mesh.proofs.SlotListLemmas.{in_left, in_right, in_either, in_cases, in_choice}
use Rattle.roam_mesh.proofs.EnterLemmas.{HasSeated, seated_has}
use Rattle.roam_mesh.proofs.KeepLemmas.{pushed_last, WasEntry, can_first, can_second, kept_one, kept_two}
use Rattle.roam_mesh.proofs.PoolChangeLemmas.{whole_repooled, IsChanged, IsKept, near_moved, kept_renewed, HasMoved}
use Rattle.roam_mesh.proofs.PoolChangeLemmas.{moved_entry, moved_fresh, moved_placed, IsRepooled}
use Rattle.roam_mesh.proofs.MergeRoleLemmas as roles

-- how many members a merge takes away, and that there are as many slots

record IsSized (before after : PoolState) (a : ℕ) : Type 0 where
  members : length (pool_members before) ≡ length (pool_members after) + diamond_size a
  pairs : length after.pairs ≡ length before.pairs

merge_sized : (before after : PoolState) (s : ℕ) → IsPooled before after s → IsPool before.n before.pairs →
    is_ready_at before.pairs s ≡ true → IsSized before after (address_at before.pairs s)
merge_sized before after s pooled old ready =
    let a : ℕ = address_at before.pairs s in
    let first = split_list-closed before.n before.pairs old in
    let then = split_list-closed after.n after.pairs pooled.valid in
    let longer =
    without_diamond-length before.n (pool_members before) a (pool_members after) first.ascending first.closed
    (ready_of-at before s old ready) (roles.merge_without before after s pooled old ready) in
    let low = ready_live before.pairs s ready in
    let level = entry_level before.n before.pairs s old (ready_entry before.pairs s ready) in
    let size : length (pool_members before) ≡ length (pool_members after) + diamond_size a = ⊎_elim
    (λ (none : mate_of a < 1).
    let zero : mate_of a ≡ 0 = omega arith in
    let one = longer.1 (λ m mate. let e : mate_of a ≡ m = mate_of-IsMate before.n a m low level mate in
    let high = mate.address.low in let e : ⊥ = omega arith in e) in
    one ∙ ap (λ z. length (pool_members after) + z) (sym (size_one a zero)))
    (λ (some : 1 ≤ mate_of a).
    let two = longer.0 (mate_of a) (IsMate-mate_of before.n a low level some) in
    two ∙ ap (λ z. length (pool_members after) + z) (sym (size_two a some)))
    (cases_lt (mate_of a) 1) in
    let before_leaves = length-leaves_of before.n (pool_members before) first.ascending first.closed in
    let after_leaves = length-leaves_of after.n (pool_members after) then.ascending then.closed in
    let before_room = members_leaves before old in
    let after_room = members_leaves after pooled.valid in
    let room = pooled.room in
    record { members = size; pairs = omega (arith, size, before_leaves, after_leaves, before_room, after_room, room) }

-- the same roles by another test
repooled_same : (before after : PoolState) (away later other : ℕ → Bool) → ((r : ℕ) → other r ≡ later r) →
    IsRepooled before after away later → IsRepooled before after away other
repooled_same before after away later other same is = record {
  leaf = λ r leaf none. is.leaf r leaf (sym (same r) ∙ none);
  ready = λ r ready none. is.ready r ready (sym (same r) ∙ none);
  old_leaf = λ r leaf stays. let now = is.old_leaf r leaf stays in (now.0, same r ∙ now.1);
  old_ready = λ r ready stays. let now = is.old_ready r ready stays in (now.0, same r ∙ now.1);
  same = is.same;
}

module _ (before after : PartsState) (s : ℕ) (is : IsMergeAt before after s) (whole : IsWhole before)
    (parts : IsParts before) (settled : before.fresh ≡ []) (ready : is_ready_at before.pool.pairs s ≡ true) where
  abbrev gone : List ℕ
  gone = with_children before.pool.pairs s

  abbrev later : List ℕ
  later = listed_slots after.pool.pairs (mate_of (address_at before.pool.pairs s)) s

  abbrev middle : PartsState
  middle = left_all before gone

  abbrev moved : PartsState
  moved = record middle { pool = after.pool }

  pooled : IsPooled before.pool after.pool s
  pooled = record {
    n = is.n;
    most = is.most;
    splits = is.splits;
    merges = is.merges;
    room = is.room;
    merge = is.merge;
    valid = is.valid;
  }

  sized : IsSized before.pool after.pool (address_at before.pool.pairs s)
  sized = merge_sized before.pool after.pool s pooled parts.pool ready

  has_left : HasLeft before middle gone
  has_left = left_has before gone whole parts.pool (All-in (λ r. is_entry_at before.pool.pairs r ≡ true) gone
      (λ r h. roles.gone_entry before.pool after.pool s pooled parts.pool ready r (among-in r gone h)))

  moved_whole : IsWhole moved
  moved_whole =
      let size = sized.pairs in
      let most = is.most in
      let had = whole.pairs in
      (whole_repooled middle after.pool has_left.whole
      (is.most ∙ sym (ap (λ (z : PoolState). z.most) has_left.pool)) (omega arith)
      (kept_root before.pool.pairs after.pool.pairs (address_at before.pool.pairs s) is.merge
      (ready_live before.pool.pairs s ready) whole.root)).0

  -- the slots above the diamond, and those of the mate
  abbrev above : List ℕ
  above = above_slots after.pool.pairs s

  abbrev across : List ℕ
  across = mate_slots after.pool.pairs (mate_of (address_at before.pool.pairs s))

  listed_below : (r : ℕ) → among later r ≡ true → r < length moved.entries
  listed_below r h =
      let below = live_below after.pool.pairs r (roles.later_live before.pool after.pool s pooled parts.pool ready r
      (sym (listed_fresh after.pool.pairs (mate_of (address_at before.pool.pairs s)) s r) ∙ h)) in
      subst (λ z. r < z) (sym moved_whole.entries) below

  to_all : after ≡ pushed_all moved later
  to_all = is.state ∙ ap (λ z. pushed_all z (s ∷ [])) (sym (pushed_all-append moved above across))
      ∙ sym (pushed_all-append moved (above ++ across) (s ∷ []))

  has_pushed : HasPushed moved after later
  has_pushed =
      let there : All (λ r. r < length moved.entries) later =
      All-in (λ r. r < length moved.entries) later (λ r h. listed_below r (among-in r later h)) in
      subst (λ (z : PartsState). HasPushed moved z later) (sym to_all) (pushed_has moved later moved_whole there)

  has_moved : HasMoved before middle after gone later
  has_moved = record { leaving = has_left; listing = has_pushed; settled = settled }

  listed : (r : ℕ) →
      among after.fresh r ≡ among (fresh_slots after.pool.pairs (mate_of (address_at before.pool.pairs s)) s) r
  listed r = moved_fresh before middle after gone later has_moved r
      ∙ listed_fresh after.pool.pairs (mate_of (address_at before.pool.pairs s)) s r

  repooled : IsRepooled before.pool after.pool (among gone) (among after.fresh)
  repooled = repooled_same before.pool after.pool (among gone)
      (among (fresh_slots after.pool.pairs (mate_of (address_at before.pool.pairs s)) s)) (among after.fresh) listed
      (roles.merge_repooled before.pool after.pool s pooled parts.pool ready)

  changed : IsChanged before after gone
  changed = record {
    old = parts.pool;
    new = is.valid;
    n = is.n;
    whole = has_pushed.whole;
    entries = moved_entry before middle after gone later has_moved;
    known = parts.placed.known;
    repooled = repooled;
    fresh = λ r h. roles.merge_fresh before.pool after.pool s pooled parts.pool ready r (sym (listed r) ∙ h);
  }

  -- all entries are in their places but the fresh ones
  pub merge_parts : IsParts after
  merge_parts = record {
    pool = is.valid;
    near = near_moved before after gone changed.entries parts.near;
    placed = moved_placed before middle after gone later has_moved parts.pool is.valid repooled parts.placed;
    entries = changed.fresh;
  }

  -- ---- what has back what was kept of it

  abbrev pub mate : ℕ
  mate = slot_of before.pool.pairs (mate_of (address_at before.pool.pairs s))

  own_was : WasEntry before after s
  own_was = roles.own_stays before.pool after.pool s pooled parts.pool ready

  own_live : IsLive after.pool.pairs s
  own_live = subst (λ z. 2 ≤ z) (sym own_was.1) (ready_live before.pool.pairs s ready)

  above_apart : (t : ℕ) → among (above_slots after.pool.pairs t) s ≡ false
  above_apart t = roles.above_apart before.pool after.pool s pooled parts.pool ready t s own_live (inl own_was.1)

  -- what is fresh besides s, and besides its mate
  abbrev pub first_rest : List ℕ
  first_rest = (pushed_all moved (above ++ across)).fresh

  abbrev pub second_rest : List ℕ
  second_rest = (pushed_all moved (above ++ above_slots after.pool.pairs mate)).fresh

  moved_none : moved.fresh ≡ []
  moved_none = has_left.fresh ∙ settled

  module _ (some : 1 ≤ mate_of (address_at before.pool.pairs s)) where
    mate_is : WasEntry before after mate × (slot_of after.pool.pairs (mate_of (address_at before.pool.pairs s)) ≡ mate)
    mate_is =
        let stays = roles.mate_stays before.pool after.pool s pooled parts.pool ready some in
        ((stays.0, stays.1), stays.2)

    mate_at : address_at before.pool.pairs mate ≡ mate_of (address_at before.pool.pairs s)
    mate_at = (ready_mate before.pool.n before.pool.pairs s parts.pool ready some).1

    mate_live : IsLive after.pool.pairs mate
    mate_live = subst (λ z. 2 ≤ z) (sym mate_is.0.1) (entry_live before.pool.pairs mate mate_is.0.0)

    across_is : across ≡ above_slots after.pool.pairs mate ++ (mate ∷ [])
    across_is = cond-true (nat_lt 0 (mate_of (address_at before.pool.pairs s)))
        (above_slots after.pool.pairs (slot_of after.pool.pairs (mate_of (address_at before.pool.pairs s)))
        ++ (slot_of after.pool.pairs (mate_of (address_at before.pool.pairs s)) ∷ [])) []
        (lt-ltb 0 (mate_of (address_at before.pool.pairs s)) some)
        ∙ ap (λ z. above_slots after.pool.pairs z ++ (z ∷ [])) mate_is.1

    mate_apart : (t : ℕ) → among (above_slots after.pool.pairs t) mate ≡ false
    mate_apart t = roles.above_apart before.pool after.pool s pooled parts.pool ready t mate mate_live
        (inr (some, mate_is.0.1 ∙ mate_at))

    pub second_last : first_rest ≡ second_rest ++ (mate ∷ [])
    second_last =
        ap (λ z. (pushed_all moved (above ++ z)).fresh) across_is
        ∙ ap (λ z. (pushed_all moved z).fresh)
        (sym (append_assoc above (above_slots after.pool.pairs mate) (mate ∷ [])))
        ∙ pushed_last moved (above ++ above_slots after.pool.pairs mate) mate moved_whole moved_none
        (λ r h. listed_below r (in_left r (above ++ across) (s ∷ []) (⊎_elim
        (λ a. in_left r above across a)
        (λ b. in_right r above across (ap (λ l. among l r) across_is
        ∙ in_left r (above_slots after.pool.pairs mate) (mate ∷ []) b))
        (in_either r above (above_slots after.pool.pairs mate) h))))
        (false_from_ne_true (among (above ++ above_slots after.pool.pairs mate) mate) (λ h. ⊎_elim
        (λ a. both_ways (among above mate) (mate_apart s) a)
        (λ b. both_ways (among (above_slots after.pool.pairs mate) mate) (mate_apart mate) b)
        (in_either mate above (above_slots after.pool.pairs mate) h)))

  across_apart : among across s ≡ false
  across_apart = false_from_ne_true (among across s) (λ h.
      let chosen = in_choice s (nat_lt 0 (mate_of (address_at before.pool.pairs s)))
      (above_slots after.pool.pairs (slot_of after.pool.pairs (mate_of (address_at before.pool.pairs s)))
      ++ (slot_of after.pool.pairs (mate_of (address_at before.pool.pairs s)) ∷ [])) h in
      let some : 1 ≤ mate_of (address_at before.pool.pairs s) =
      ltb-true 0 (mate_of (address_at before.pool.pairs s)) chosen.0 in
      ⊎_elim
      (λ a. both_ways (among (above_slots after.pool.pairs mate) s) (above_apart mate) a)
      (λ b. ⊎_elim
      (λ (same : s ≡ mate). mate_of-other (address_at before.pool.pairs s) (ready_live before.pool.pairs s ready) some
      (sym (mate_at some) ∙ ap (address_at before.pool.pairs) (sym same)))
      (λ none. both_ways false refl none)
      (in_cases s mate [] b))
      (in_either s (above_slots after.pool.pairs mate) (mate ∷ []) (ap (λ l. among l s) (sym (across_is some)) ∙ h)))

  pub first_last : after.fresh ≡ first_rest ++ (s ∷ [])
  first_last = ap (λ (p : PartsState). p.fresh) to_all ∙ pushed_last moved (above ++ across) s moved_whole moved_none
      (λ r h. listed_below r (in_left r (above ++ across) (s ∷ []) h))
      (false_from_ne_true (among (above ++ across) s) (λ h. ⊎_elim
      (λ a. both_ways (among above s) (above_apart s) a)
      (λ b. both_ways (among across s) across_apart b)
      (in_either s above across h)))

  -- so both can come back
  pub merge_first : CanTakeBack after first_rest s (entry_at before s)
  merge_first = can_first before after gone whole parts settled changed first_rest s merge_parts first_last

  seat_first : (mid : PartsState) → mid ≡ seated after first_rest s (entry_at before s) →
      HasSeated after mid first_rest s (entry_at before s)
  seat_first mid same = subst (λ z. HasSeated after z first_rest s (entry_at before s)) (sym same)
      (seated_has after first_rest s (entry_at before s) has_pushed.whole merge_first)

  pub merge_second : (mid : PartsState) → 1 ≤ mate_of (address_at before.pool.pairs s) →
      mid ≡ seated after first_rest s (entry_at before s) → CanTakeBack mid second_rest mate (entry_at before mate)
  merge_second mid some same =
      can_second before after gone whole parts settled changed mid first_rest second_rest s mate
      (seat_first mid same) (second_last some)

  -- whatever of them came back, the loop sees a merge
  law_of : (end : PartsState) (back : ℕ → Bool) → IsKept before after end gone back →
      IsMergeOf (seen_parts before) (seen_parts end) (address_at before.pool.pairs s)
  law_of end back kept = record {
    n = ap (λ (z : PoolState). z.n) kept.pool ∙ is.n;
    most = ap (λ (z : PoolState). z.most) kept.pool ∙ is.most;
    merged = subst (λ (z : PoolState). IsWithoutDiamond before.pool.n (pool_members before.pool)
        (address_at before.pool.pairs s) (pool_members z)) (sym kept.pool)
        (roles.merge_without before.pool after.pool s pooled parts.pool ready);
    splits = ap (λ (z : PoolState). z.splits) kept.pool ∙ is.splits;
    merges = subst (λ (z : PoolState). z.merges
        ≡ before.pool.merges + (length (pool_members before.pool) - length (pool_members z))) (sym kept.pool)
        (let size = sized.members in
        let less : length (pool_members before.pool) - length (pool_members after.pool)
        ≡ diamond_size (address_at before.pool.pairs s) = omega (arith, size) in
        is.merges ∙ ap (λ z. before.pool.merges + z) (sym less));
    renewed = kept_renewed before after end gone back kept;
  }

  -- what is fresh besides them was no entry
  are_new : (r : ℕ) → nat_eq s r ≡ false → (1 ≤ mate_of (address_at before.pool.pairs s) → nat_eq mate r ≡ false) →
      among after.fresh r ≡ true →
      IsEntry before.pool.n (among (pool_members before.pool)) (address_at after.pool.pairs r) → ⊥
  are_new r other apart fresh was = ⊎_elim
      (λ (own : r ≡ s). eqb-false s r other (sym own))
      (λ rest. ⊎_elim
      (λ (across_one : (1 ≤ mate_of (address_at before.pool.pairs s)) × (r ≡ mate)).
      eqb-false mate r (apart across_one.0) (sym across_one.1))
      (λ new. new was)
      rest)
      (roles.merge_new before.pool after.pool s pooled parts.pool ready r (sym (listed r) ∙ fresh))

  -- one triangle
  pub merge_alone : (end : PartsState) → mate_of (address_at before.pool.pairs s) ≡ 0 →
      end ≡ seated after first_rest s (entry_at before s) →
      IsMergeOf (seen_parts before) (seen_parts end) (address_at before.pool.pairs s)
  merge_alone end none same = law_of end (λ r. nat_eq s r)
      (kept_one before after gone whole parts settled changed end first_rest s first_last (seat_first end same) own_was
      (λ r other fresh was. are_new r other (λ some. absurd (let e : ⊥ = omega arith in e)) fresh was))

  -- two
  pub merge_both : (mid end : PartsState) → 1 ≤ mate_of (address_at before.pool.pairs s) →
      mid ≡ seated after first_rest s (entry_at before s) →
      end ≡ seated mid second_rest mate (entry_at before mate) →
      IsMergeOf (seen_parts before) (seen_parts end) (address_at before.pool.pairs s)
  merge_both mid end some first second =
      let one = seat_first mid first in
      let two = subst (λ z. HasSeated mid z second_rest mate (entry_at before mate)) (sym second)
      (seated_has mid second_rest mate (entry_at before mate) one.whole (merge_second mid some first)) in
      law_of end (λ r. nat_eq s r || nat_eq mate r)
      (kept_two before after gone whole parts settled changed mid end first_rest second_rest s mate first_last
      (second_last some) one two own_was (mate_is some).0
      (λ r other fresh was.
      let apart = or_parts (nat_eq s r) (nat_eq mate r) other in
      are_new r apart.0 (λ _. apart.1) fresh was))

-- a diamond that can be merged stands at its slot
pub can_slot : (pool : PoolState) (t s : ℕ) → IsPool pool.n pool.pairs → CanMerge pool.n (among (pool_members pool)) t →
    address_at pool.pairs s ≡ t → is_ready_at pool.pairs s ≡ true
can_slot pool t s is can at =
    let there = ready_at-of pool t is can in
    let low : 2 ≤ t = subst (λ z. 2 ≤ z) there.1 (ready_live pool.pairs (slot_of pool.pairs t) there.0) in
    subst (λ z. is_ready_at pool.pairs z ≡ true) (one_slot pool.n pool.pairs s t is low at) there.0
