-- What a split does, as the loop sees it.
use Rattle.std.proofs.Common.{◌≡◌, ℕ, ◌+◌, ◌-◌, ◌/◌, ◌<◌, ◌≤◌, ◌⊎◌, ◌||◌, inl, inr, Bool, true, false, cond, nat_eq}
use Rattle.std.proofs.Common.{nat_lt, List, [], ◌∷◌, ◌++◌, length, All, refl, sym, ◌∙◌, ap, subst, arith, ⊎_elim}
use Rattle.std.proofs.lemmas.Bool.{both_ways, false_from_ne_true, cond-true, eqb-false, or_parts, lt-ltb, ltb-true}
use Rattle.std.proofs.lemmas.List.{append_assoc}
use Rattle.mesh_defs.specs.ClosedSet.{leaves_of, among}
use Rattle.mesh_defs.specs.Triangle.{IsSplittable}
use Rattle.mesh_defs.specs.Greedy.{with_triangle}
use Rattle.mesh_defs.specs.GridSet.{IsForced}
use Rattle.mesh_defs.proofs.ListLemmas.{among-in}
use Rattle.mesh_laws.specs.Deferred.{IsEntry}
use Rattle.mesh_laws.specs.Edge.{mate_of}
use Rattle.mesh_laws.proofs.MateLemmas.{mate_of-other}
use Rattle.mesh_laws.proofs.SetListLemmas.{All-in, among-filter, filter-among}
use Rattle.mesh_laws.proofs.SizeLemmas.{length-leaves_of}
use Rattle.mesh_laws.proofs.ExistenceLemmas.{forced_list}
use Rattle.mesh_laws.specs.Slots.{address_at, has_children, split_set, room_of, IsLive, IsPool}
use Rattle.mesh_laws.proofs.SlotLemmas.{leaves_count, parent_has_children, among-split_list, split_list-closed}
use Rattle.triangle_pool.specs.Slots.{PoolState}
use Rattle.force_split.specs.Chain.{IsBornOf, IsGainOf, chain_size}
use Rattle.mesh_laws.specs.Steps.{leaf_count}
use Rattle.deferred_loop.specs.Seen.{IsSplitOf}
use Rattle.roam_mesh.specs.Mesh.{slot_of, pool_members}
use Rattle.roam_mesh.specs.Parts.{PartsState, entry_at, seen_parts, is_leaf_at, is_entry_at, IsWhole, IsParts}
use Rattle.roam_mesh.specs.Change.{diamond_slots, with_chain, left_all, pushed_all, seated}
use Rattle.roam_mesh.specs.Keeping.{CanTakeBack, IsKeptMate}
use Rattle.roam_mesh.specs.declared.entry.Entry.{Entry}
use Rattle.roam_mesh.specs.Splitting.{born_slots, born_leaves, IsSplitAt}
use Rattle.roam_mesh.proofs.PlaceLemmas.{live_below, one_slot, at-slot_of}
use Rattle.roam_mesh.proofs.RoleLemmas.{members_leaves, entry_live, leaf_live, ready_live, ready_mate, leaf_entry}
use Rattle.roam_mesh.proofs.RoleLemmas.{ready_entry, entry_at-of, leaf_parts, leaf_from}
use Rattle.roam_mesh.proofs.PlacedLemmas.{HasLeft, left_has}
use Rattle.roam_mesh.proofs.FreshLemmas.{HasPushed, pushed_has, pushed_all-append}
use Rattle.roam_mesh.proofs.SlotListLemmas.{in_left, in_right, in_either, in_cases, in_choice, first_listed}
use Rattle.roam_mesh.proofs.ChainSlotLemmas.{diamond_cases}
use Rattle.roam_mesh.proofs.EnterLemmas.{HasSeated, seated_has}
use Rattle.roam_mesh.proofs.KeepLemmas.{pushed_last, WasEntry, can_first, can_second, kept_one, kept_two}
use Rattle.roam_mesh.proofs.BornLemmas.{born_in, in_born}
use Rattle.roam_mesh.proofs.SplitRoleLemmas.{IsPoolSplit, least_same, pool_forced, born_free, gone_cases}
use Rattle.roam_mesh.proofs.SplitRepoolLemmas.{IsLater, own_ready, diamond_new, split_repooled}
use Rattle.roam_mesh.proofs.PoolChangeLemmas.{HasMoved, whole_repooled, moved_entry, moved_fresh, moved_placed}
use Rattle.roam_mesh.proofs.PoolChangeLemmas.{IsChanged, IsKept, near_moved, kept_renewed, IsRepooled}

-- how many triangles a split adds
split_count : (old new : PoolState) (gain : ℕ) → IsPool old.n old.pairs → IsPool new.n new.pairs →
    length new.pairs ≡ length old.pairs →
    room_of new.pairs + gain ≡ room_of old.pairs → length (pool_members new) - length (pool_members old) ≡ gain
split_count old new gain is now as_long room =
    let old_set = split_list-closed old.n old.pairs is in
    let new_set = split_list-closed new.n new.pairs now in
    let old_leaves = members_leaves old is in
    let new_leaves = members_leaves new now in
    let old_count = length-leaves_of old.n (pool_members old) old_set.ascending old_set.closed in
    let new_count = length-leaves_of new.n (pool_members new) new_set.ascending new_set.closed in
    omega arith

module _ (before after : PartsState) (s : ℕ) (parts : IsParts before) (whole : IsWhole before) (now : IsWhole after)
    (settled : before.fresh ≡ [])
    (leaf : is_leaf_at before.pool.pairs s ≡ true) (is : IsSplitAt before after s) where
  pool_is : IsPoolSplit before.pool after.pool s is.chain is.answers
  pool_is = record {
    pool = parts.pool;
    valid = is.valid;
    n = is.n;
    leaf = leaf_parts before.pool.pairs s leaf;
    listed = first_listed is.chain s is.some is.first;
    linked = is.linked;
    kept = is.kept;
    live = is.live;
    answered = is.answered;
    set = is.set;
  }

  gone_entries : All (λ r. is_entry_at before.pool.pairs r ≡ true) (with_chain before.pool.pairs is.chain)
  gone_entries =
      All-in (λ r. is_entry_at before.pool.pairs r ≡ true) (with_chain before.pool.pairs is.chain) (λ r h. ⊎_elim
      (λ split. leaf_entry before.pool.pairs r (leaf_from before.pool.pairs r split.0))
      (λ ready. ready_entry before.pool.pairs r ready.0)
      (gone_cases before.pool after.pool s is.chain is.answers pool_is r
      (among-in r (with_chain before.pool.pairs is.chain) h)))

  listed_cases : (r : ℕ) →
      among (born_leaves after.pool.pairs is.answers ++ diamond_slots after.pool.pairs s) r ≡ true →
      (IsBornOf is.answers r × (is_leaf_at after.pool.pairs r ≡ true))
      ⊎ (among (diamond_slots after.pool.pairs s) r ≡ true)
  listed_cases r h = ⊎_elim
      (λ born.
      let both = among-filter (is_leaf_at after.pool.pairs) r (born_slots is.answers) born in
      inl (in_born is.answers r both.0, both.1))
      (λ diamond. inr diamond)
      (in_either r (born_leaves after.pool.pairs is.answers) (diamond_slots after.pool.pairs s) h)

  listed_entry : (r : ℕ) →
      among (born_leaves after.pool.pairs is.answers ++ diamond_slots after.pool.pairs s) r ≡ true →
      is_entry_at after.pool.pairs r ≡ true
  listed_entry r h = ⊎_elim
      (λ born. leaf_entry after.pool.pairs r born.1)
      (λ diamond. ready_entry after.pool.pairs r
      (diamond_new before.pool after.pool s is.chain is.answers pool_is r diamond).0)
      (listed_cases r h)

  -- the pool after its splits, with nothing listed yet
  abbrev start : PartsState
  start = record (left_all before (with_chain before.pool.pairs is.chain)) { pool = after.pool }

  abbrev born : List ℕ
  born = born_leaves after.pool.pairs is.answers

  has_left : HasLeft before (left_all before (with_chain before.pool.pairs is.chain))
      (with_chain before.pool.pairs is.chain)
  has_left = left_has before (with_chain before.pool.pairs is.chain) whole parts.pool gone_entries

  start_whole : IsWhole start
  start_whole = (whole_repooled (left_all before (with_chain before.pool.pairs is.chain)) after.pool has_left.whole
      (is.most ∙ sym (ap (λ (z : PoolState). z.most) has_left.pool)) now.pairs now.root).0

  listed_below : (r : ℕ) → among (born ++ diamond_slots after.pool.pairs s) r ≡ true → r < length start.entries
  listed_below r h =
      let within = live_below after.pool.pairs r (entry_live after.pool.pairs r (listed_entry r h)) in
      subst (λ z. r < z) (sym start_whole.entries) within

  moved : HasMoved before (left_all before (with_chain before.pool.pairs is.chain)) after
      (with_chain before.pool.pairs is.chain)
      (born_leaves after.pool.pairs is.answers ++ diamond_slots after.pool.pairs s)
  moved =
      let diamond : List ℕ = diamond_slots after.pool.pairs s in
      let below : All (λ r. r < length start.entries) (born ++ diamond) = All-in (λ r. r < length start.entries)
      (born ++ diamond) (λ r h. listed_below r (among-in r (born ++ diamond) h)) in
      let same : pushed_all start (born ++ diamond) ≡ after = pushed_all-append start born diamond ∙ sym is.state in
      record {
        leaving = has_left;
        listing = subst (λ z. HasPushed start z (born ++ diamond)) same
            (pushed_has start (born ++ diamond) start_whole below);
        settled = settled;
      }

  fresh_is : (r : ℕ) →
      among after.fresh r ≡ among (born_leaves after.pool.pairs is.answers ++ diamond_slots after.pool.pairs s) r
  fresh_is = moved_fresh before (left_all before (with_chain before.pool.pairs is.chain)) after
      (with_chain before.pool.pairs is.chain)
      (born_leaves after.pool.pairs is.answers ++ diamond_slots after.pool.pairs s) moved

  is_later : IsLater after.pool s is.answers (among after.fresh)
  is_later = record {
    cases = λ r h. listed_cases r (sym (fresh_is r) ∙ h);
    born =
        λ r born leaf. fresh_is r
        ∙ in_left r (born_leaves after.pool.pairs is.answers) (diamond_slots after.pool.pairs s)
        (filter-among (is_leaf_at after.pool.pairs) r (born_slots is.answers) (born_in is.answers r born) leaf);
    diamond =
        λ r h. fresh_is r ∙ in_right r (born_leaves after.pool.pairs is.answers) (diamond_slots after.pool.pairs s) h;
  }

  repooled : IsRepooled before.pool after.pool (among (with_chain before.pool.pairs is.chain)) (among after.fresh)
  repooled = split_repooled before.pool after.pool s is.chain is.answers pool_is (among after.fresh) is_later

  changed : IsChanged before after (with_chain before.pool.pairs is.chain)
  changed = record {
    old = parts.pool;
    new = is.valid;
    n = is.n;
    whole = now;
    entries = moved_entry before (left_all before (with_chain before.pool.pairs is.chain)) after
        (with_chain before.pool.pairs is.chain)
        (born_leaves after.pool.pairs is.answers ++ diamond_slots after.pool.pairs s) moved;
    known = parts.placed.known;
    repooled = repooled;
    fresh = λ r h. listed_entry r (sym (fresh_is r) ∙ h);
  }

  -- all entries are in their places but the fresh ones
  pub split_parts : IsParts after
  split_parts = record {
    pool = is.valid;
    near = near_moved before after (with_chain before.pool.pairs is.chain) changed.entries parts.near;
    placed = moved_placed before (left_all before (with_chain before.pool.pairs is.chain)) after
        (with_chain before.pool.pairs is.chain)
        (born_leaves after.pool.pairs is.answers ++ diamond_slots after.pool.pairs s) moved parts.pool
        is.valid repooled parts.placed;
    entries = changed.fresh;
  }

  -- ---- what has back what was kept of it

  -- the leaf of s and its mate
  own_was : WasEntry before after s
  own_was = (leaf_entry before.pool.pairs s leaf, is.kept s (leaf_live before.pool.pairs s leaf))

  abbrev pub mate : ℕ
  mate = slot_of before.pool.pairs (mate_of (address_at before.pool.pairs s))

  -- an entry before stands at its slot still
  entry_there : (r : ℕ) → IsEntry before.pool.n (among (pool_members before.pool)) (address_at after.pool.pairs r) →
      IsLive before.pool.pairs (slot_of before.pool.pairs (address_at after.pool.pairs r))
      × (address_at after.pool.pairs (slot_of before.pool.pairs (address_at after.pool.pairs r))
      ≡ address_at after.pool.pairs r)
  entry_there r was =
      let there = entry_at-of before.pool (address_at after.pool.pairs r) parts.pool was in
      let live = entry_live before.pool.pairs (slot_of before.pool.pairs (address_at after.pool.pairs r)) there.0 in
      (live, is.kept (slot_of before.pool.pairs (address_at after.pool.pairs r)) live ∙ there.1)

  -- what was born was no entry
  born_new : (r : ℕ) → IsBornOf is.answers r → IsLive after.pool.pairs r →
      IsEntry before.pool.n (among (pool_members before.pool)) (address_at after.pool.pairs r) → ⊥
  born_new r born_of live was =
      let there = entry_there r was in
      let one : r ≡ slot_of before.pool.pairs (address_at after.pool.pairs r) =
      is.valid.once r (slot_of before.pool.pairs (address_at after.pool.pairs r)) live (sym there.1) in
      born_free before.pool after.pool s is.chain is.answers pool_is r born_of
      (subst (λ z. 2 ≤ address_at before.pool.pairs z) (sym one) there.0)

  -- a live slot before is none that was born
  born_apart : (r : ℕ) → IsLive before.pool.pairs r → among born r ≡ false
  born_apart r live = false_from_ne_true (among born r) (λ h.
      let both = among-filter (is_leaf_at after.pool.pairs) r (born_slots is.answers) h in
      born_free before.pool after.pool s is.chain is.answers pool_is r (in_born is.answers r both.0) live)

  -- the mate's slot as the diamond of s lists it
  abbrev others : List ℕ
  others = cond (nat_lt 0 (mate_of (address_at after.pool.pairs s)))
      (slot_of after.pool.pairs (mate_of (address_at after.pool.pairs s)) ∷ []) []

  others_apart : among others s ≡ false
  others_apart = false_from_ne_true (among others s) (λ h.
      let m : ℕ = mate_of (address_at after.pool.pairs s) in
      let chosen = in_choice s (nat_lt 0 m) (slot_of after.pool.pairs m ∷ []) h in
      let some : 1 ≤ m = ltb-true 0 m chosen.0 in
      let ready = own_ready before.pool after.pool s is.chain is.answers pool_is in
      let same : s ≡ slot_of after.pool.pairs m = ⊎_elim (λ e. e) (λ none. absurd (both_ways false refl none))
      (in_cases s (slot_of after.pool.pairs m) [] chosen.1) in
      mate_of-other (address_at after.pool.pairs s) (ready_live after.pool.pairs s ready) some
      (sym (ready_mate after.pool.n after.pool.pairs s is.valid ready some).1
      ∙ ap (address_at after.pool.pairs) (sym same)))

  -- what is fresh besides s, and besides its mate
  abbrev pub first_rest : List ℕ
  first_rest = (pushed_all start (born ++ others)).fresh

  abbrev pub second_rest : List ℕ
  second_rest = (pushed_all start born).fresh

  start_fresh : start.fresh ≡ []
  start_fresh = has_left.fresh ∙ settled

  pub first_last : after.fresh ≡ first_rest ++ (s ∷ [])
  first_last =
      let one : after ≡ pushed_all start ((born ++ others) ++ (s ∷ [])) =
      is.state ∙ sym (pushed_all-append start born (others ++ (s ∷ [])))
      ∙ ap (pushed_all start) (sym (append_assoc born others (s ∷ []))) in
      ap (λ (p : PartsState). p.fresh) one ∙ pushed_last start (born ++ others) s start_whole start_fresh
      (λ r h. listed_below r (⊎_elim
      (λ b. in_left r born (others ++ (s ∷ [])) b)
      (λ o. in_right r born (others ++ (s ∷ [])) (in_left r others (s ∷ []) o))
      (in_either r born others h)))
      (false_from_ne_true (among (born ++ others) s) (λ h. ⊎_elim
      (λ b. both_ways (among born s) (born_apart s (leaf_live before.pool.pairs s leaf)) b)
      (λ o. both_ways (among others s) others_apart o)
      (in_either s born others h)))

  module _ (e : Entry) (kept : IsKeptMate before s e) where
    mate_live : IsLive before.pool.pairs mate
    mate_live = leaf_live before.pool.pairs mate kept.leaf

    mate_at : address_at before.pool.pairs mate ≡ mate_of (address_at before.pool.pairs s)
    mate_at = at-slot_of before.pool.pairs mate (mate_of (address_at before.pool.pairs s)) mate_live refl

    mate_was : WasEntry before after mate
    mate_was = (leaf_entry before.pool.pairs mate kept.leaf, is.kept mate mate_live)

    others_mate : others ≡ mate ∷ []
    others_mate =
        let same : mate_of (address_at after.pool.pairs s) ≡ mate_of (address_at before.pool.pairs s) =
        ap mate_of own_was.1 in
        let some : 1 ≤ mate_of (address_at after.pool.pairs s) = subst (λ z. 1 ≤ z) (sym same) kept.some in
        let here : slot_of after.pool.pairs (mate_of (address_at after.pool.pairs s)) ≡ mate =
        one_slot after.pool.n after.pool.pairs mate (mate_of (address_at after.pool.pairs s)) is.valid
        (subst (λ z. 2 ≤ z) (mate_at ∙ sym same) mate_live) (mate_was.1 ∙ mate_at ∙ sym same) in
        cond-true (nat_lt 0 (mate_of (address_at after.pool.pairs s))) (slot_of after.pool.pairs
        (mate_of (address_at after.pool.pairs s)) ∷ []) [] (lt-ltb 0 (mate_of (address_at after.pool.pairs s)) some)
        ∙ ap (λ z. z ∷ []) here

    pub second_last : first_rest ≡ second_rest ++ (mate ∷ [])
    second_last =
        ap (λ o. (pushed_all start (born ++ o)).fresh) others_mate ∙ pushed_last start born mate start_whole start_fresh
        (λ r h. listed_below r (in_left r born (diamond_slots after.pool.pairs s) h)) (born_apart mate mate_live)

  -- so it can come back
  pub split_first : CanTakeBack after first_rest s (entry_at before s)
  split_first = can_first before after
      (with_chain before.pool.pairs is.chain) whole parts settled changed first_rest s split_parts first_last

  -- what the leaf has back
  seat_first : (mid : PartsState) → mid ≡ seated after first_rest s (entry_at before s) →
      HasSeated after mid first_rest s (entry_at before s)
  seat_first mid same = subst (λ z. HasSeated after z first_rest s (entry_at before s)) (sym same)
      (seated_has after first_rest s (entry_at before s) now split_first)

  pub split_second : (mid : PartsState) (e : Entry) → IsKeptMate before s e →
      mid ≡ seated after first_rest s (entry_at before s) → CanTakeBack mid second_rest mate (entry_at before mate)
  split_second mid e kept same =
      can_second before after (with_chain before.pool.pairs is.chain) whole parts settled changed mid first_rest
      second_rest s mate (seat_first mid same) (second_last e kept)

  -- whatever of them came back, the leaf is split with what it forces
  law_of : (end : PartsState) (back : ℕ → Bool) → IsKept before after end (with_chain before.pool.pairs is.chain) back →
      IsSplitOf (seen_parts before) (seen_parts end) (address_at before.pool.pairs s)
  law_of end back kept =
      let as_long : length after.pool.pairs ≡ length before.pool.pairs = let old = whole.pairs in let new = now.pairs in
      let most = is.most in omega arith in
      let grown = split_count before.pool after.pool
      (chain_size before.pool.pairs is.chain) parts.pool is.valid as_long is.room in
      record {
        n = ap (λ (z : PoolState). z.n) kept.pool ∙ is.n;
        most = ap (λ (z : PoolState). z.most) kept.pool ∙ is.most;
        forced = subst (λ (z : PoolState). IsForced before.pool.n (pool_members before.pool)
            (address_at before.pool.pairs s) (pool_members z)) (sym kept.pool)
            (pool_forced before.pool after.pool s is.chain is.answers pool_is);
        splits = subst (λ (z : PoolState). z.splits
            ≡ before.pool.splits + (length (pool_members z) - length (pool_members before.pool))) (sym kept.pool)
            (is.splits ∙ ap (λ z. before.pool.splits + z) (sym grown));
        merges = ap (λ (z : PoolState). z.merges) kept.pool ∙ is.merges;
        renewed = kept_renewed before after end (with_chain before.pool.pairs is.chain) back kept;
      }

  -- where the mate is no leaf
  pub split_alone : (end : PartsState) → (1 ≤ mate_of (address_at before.pool.pairs s) →
      has_children before.pool.pairs (mate_of (address_at before.pool.pairs s) / 2) ≡ false) →
      end ≡ seated after first_rest s (entry_at before s) →
      IsSplitOf (seen_parts before) (seen_parts end) (address_at before.pool.pairs s)
  split_alone end none same = law_of end (λ r. nat_eq s r)
      (kept_one before after (with_chain before.pool.pairs is.chain) whole parts settled changed end first_rest s
      first_last (seat_first end same) own_was (λ r other fresh was. ⊎_elim
      (λ born_of. born_new r born_of.0 (leaf_live after.pool.pairs r born_of.1) was)
      (λ diamond. ⊎_elim
      (λ (own : r ≡ s). eqb-false s r other (sym own))
      (λ (across : (1 ≤ mate_of (address_at after.pool.pairs s))
      × (r ≡ slot_of after.pool.pairs (mate_of (address_at after.pool.pairs s)))).
      let ready = own_ready before.pool after.pool s is.chain is.answers pool_is in
      let at : address_at after.pool.pairs r ≡ mate_of (address_at before.pool.pairs s) =
      ap (address_at after.pool.pairs) across.1 ∙ (ready_mate after.pool.n after.pool.pairs s is.valid ready across.0).1
      ∙ ap mate_of own_was.1 in
      let some : 1 ≤ mate_of (address_at before.pool.pairs s) = subst (λ z. 1 ≤ mate_of z) own_was.1 across.0 in
      let there = entry_at-of before.pool (address_at after.pool.pairs r) parts.pool was in
      let above = parent_has_children before.pool.pairs (slot_of before.pool.pairs (address_at after.pool.pairs r))
      (entry_live before.pool.pairs (slot_of before.pool.pairs (address_at after.pool.pairs r)) there.0) in
      both_ways (has_children before.pool.pairs (mate_of (address_at before.pool.pairs s) / 2)) (none some)
      (subst (λ z. has_children before.pool.pairs (z / 2) ≡ true) (there.1 ∙ at) above))
      (diamond_cases after.pool.pairs s r diamond))
      (is_later.cases r fresh)))

  -- and where it is one
  pub split_both : (mid end : PartsState) (e : Entry) → IsKeptMate before s e →
      mid ≡ seated after first_rest s (entry_at before s) → end ≡ seated mid second_rest mate (entry_at before mate) →
      IsSplitOf (seen_parts before) (seen_parts end) (address_at before.pool.pairs s)
  split_both mid end e kept first second =
      let one = seat_first mid first in
      let two = subst (λ z. HasSeated mid z second_rest mate (entry_at before mate)) (sym second)
      (seated_has mid second_rest mate (entry_at before mate) one.whole (split_second mid e kept first)) in
      law_of end (λ r. nat_eq s r || nat_eq mate r)
      (kept_two before after (with_chain before.pool.pairs is.chain) whole parts settled changed mid end first_rest
      second_rest s mate first_last (second_last e kept) one two own_was (mate_was e kept)
      (λ r other fresh was.
      let apart = or_parts (nat_eq s r) (nat_eq mate r) other in ⊎_elim
      (λ born_of. born_new r born_of.0 (leaf_live after.pool.pairs r born_of.1) was)
      (λ diamond. ⊎_elim
      (λ o. eqb-false mate r apart.1 (sym (⊎_elim (λ (is_mate : r ≡ mate). is_mate) (λ none. absurd
      (both_ways false refl none)) (in_cases r mate [] (ap (λ l. among l r) (sym (others_mate e kept)) ∙ o)))))
      (λ own. eqb-false s r apart.0 (sym (⊎_elim (λ (is_own : r ≡ s). is_own)
      (λ none. absurd (both_ways false refl none)) (in_cases r s [] own))))
      (in_either r others (s ∷ []) diamond))
      (is_later.cases r fresh)))

-- where the set with what a leaf forces is within what the pool has room for, there is room for what the split adds
pub split_room : (pool : PoolState) (t gain : ℕ) → IsPool pool.n pool.pairs → IsSplittable pool.n t →
    length pool.pairs + 1 ≡ pool.most →
    ((after : List ℕ) → IsForced pool.n (pool_members pool) t after → leaf_count pool.n after ≤ pool.most) →
    IsGainOf pool.n pool.pairs t gain → gain ≤ room_of pool.pairs
split_room pool t gain is splittable size room grows =
    let next = forced_list pool.n (pool_members pool) t (split_list-closed pool.n pool.pairs is).closed splittable in
    let least = least_same pool.n (with_triangle (among (pool_members pool)) t) (with_triangle (split_set pool.pairs) t)
    (among next.0) (among next.0)
    (λ a. ap (λ z. z || nat_eq t a) (among-split_list pool.n pool.pairs a is)) (λ a. refl) next.1.least in
    let grown : length (leaves_of pool.n (among next.0)) ≡ length (leaves_of pool.n (split_set pool.pairs)) + gain =
    grows (among next.0) least in
    let within : length (leaves_of pool.n (among next.0)) ≤ pool.most = room next.0 next.1 in
    let count = leaves_count pool.n pool.pairs is in
    omega arith
