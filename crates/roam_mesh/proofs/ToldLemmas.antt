-- What a priority that is told, or forgotten again, changes.
use Rattle.std.proofs.Common.{◌≡◌, ◌≢◌, ℕ, ◌+◌, ◌*◌, ◌^◌, ◌<◌, ◌≤◌, ◌&&◌, not, Bool, true, false, cond, nat_eq, nat_lt}
use Rattle.std.proofs.Common.{List, [], ◌∷◌, ◌++◌, length, map, take, reverse, Option, Some, None, slice_index_or}
use Rattle.std.proofs.Common.{slice_set, refl, sym, ◌∙◌, ap, ap₂, subst, arith, ⊎_elim}
use Rattle.std.specs.List.{IsDistinct}
use Rattle.std.proofs.lemmas.Bool.{cases_lt, both_ways, cond-true, cond-false, and_parts, and_right, and_from, or_from}
use Rattle.std.proofs.lemmas.Bool.{or_left, or_right, not_from_false, eqb-true, eqb-false, eq-eqb}
use Rattle.std.proofs.lemmas.Cmp.{nat_eq_equiv}
use Rattle.std.proofs.lemmas.List.{get_or-set_same, get_or-set_other, length-set}
use Rattle.std.proofs.lemmas.Map.Keys.{IsDistinct-push}
use Rattle.mesh_defs.specs.ClosedSet.{among}
use Rattle.mesh_laws.specs.Edge.{mate_of}
use Rattle.mesh_laws.specs.Slots.{address_at, IsLive, IsPool}
use Rattle.bintree_addr.specs.declared.rank.Rank.{Rank}
use Rattle.bintree_addr.specs.declared.slot.Slot.{Slot}
use Rattle.triangle_pool.specs.Slots.{PoolState}
use Rattle.mesh_laws.specs.Chief.{chief_of}
use Rattle.deferred_loop.specs.Seen.{IsRated, IsForgotten}
use Rattle.mesh_laws.specs.Deferred.{IsEntry}
use Rattle.roam_mesh.specs.Mesh.{slot_of, pool_members, pool_set}
use Rattle.roam_mesh.specs.Parts.{PartsState, parts_of, blank, stamp_in, best_of, merging_key, deadline_of, entry_at}
use Rattle.roam_mesh.specs.Parts.{entry_of, seen_parts, is_leaf_at, is_ready_at, is_chief_at, is_entry_at, is_out}
use Rattle.roam_mesh.specs.Parts.{leaf_rank, better_of, diamond_rank, IsSlotList, IsWhole, IsPlaced, IsNear, IsParts}
use Rattle.roam_mesh.specs.Change.{chief_slot, rekeyed, with_priority, rated, without_priority, forgotten}
use Rattle.roam_mesh.specs.declared.entry.Entry.{Entry}
use Rattle.roam_mesh.proofs.PlaceLemmas.{live_below, slot_of-at, one_slot, entry_at-set, entry_of-set}
use Rattle.roam_mesh.proofs.RoleLemmas.{entry_live, entry_at-of, ready_live, entry_cases, ready_mate, chief_ready}
use Rattle.roam_mesh.proofs.KeyLemmas.{diamond_alone, diamond_two}
use Rattle.roam_mesh.proofs.SlotListLemmas.{any-among, among-push, listed_below, numbers_push, distinct_front}
use Rattle.roam_mesh.proofs.SlotListLemmas.{among_last}
use Rattle.roam_mesh.proofs.PlacedLemmas.{entry_below, placed_same, leaf_apart, chief_apart, entry_other, marks_kept}
use Rattle.roam_mesh.proofs.PlacedLemmas.{rekeyed_as}
use Rattle.roam_mesh.proofs.TestLemmas.{cond_same}
use Rattle.text_laws.proofs.TestLemmas.{by_bool}
use Rattle.mesh_defs.proofs.TestLemmas.{or_none}

-- a key that is set
set_key : {A : Type 0} (xs : List (Option A)) (s r : ℕ) (key : A) → s < length xs →
    slice_index_or (slice_set xs s (Some key)) r None ≡ cond (nat_eq s r) (Some key) (slice_index_or xs r None)
set_key xs s r key below = by_bool (nat_eq s r)
    (λ same. ap (λ q. slice_index_or (slice_set xs s (Some key)) q None) (sym (eqb-true s r same))
    ∙ get_or-set_same xs s (Some key) None below
    ∙ sym (cond-true (nat_eq s r) (Some key) (slice_index_or xs r None) same))
    (λ other. get_or-set_other xs s r (Some key) None (λ same. eqb-false s r other (sym same))
    ∙ sym (cond-false (nat_eq s r) (Some key) (slice_index_or xs r None) other))

-- the parts after a change of what is kept of a slot, and of the list of those that were asked
abbrev pub changed : PartsState → ℕ → Entry → List ℕ → PartsState
changed parts s e asked = record parts { entries = slice_set parts.entries s e; asked = asked }

-- what is kept of the slot, and of another one
entry_own : (parts : PartsState) (s : ℕ) (e : Entry) (asked : List ℕ) → s < length parts.entries →
    entry_at (changed parts s e asked) s ≡ e
entry_own parts s e asked below =
    entry_at-set parts.entries s e s below ∙ cond-true (nat_eq s s) e (entry_at parts s) (eq-eqb s s refl)

-- what the change keeps of the slot it keeps of all
field_kept : {A : Type 0} (f : Entry → A) (parts : PartsState) (s : ℕ) (e : Entry) (asked : List ℕ) →
    s < length parts.entries → f e ≡ f (entry_at parts s) →
    (r : ℕ) → f (entry_at parts r) ≡ f (entry_at (changed parts s e asked) r)
field_kept f parts s e asked below same r = by_bool (nat_eq s r)
    (λ own. ap (λ q. f (entry_at parts q)) (sym (eqb-true s r own)) ∙ sym same
    ∙ ap f (sym (entry_own parts s e asked below))
    ∙ ap (λ q. f (entry_at (changed parts s e asked) q)) (eqb-true s r own))
    (λ apart. ap f (sym (entry_other parts s r e below (eqb-false s r apart))))

-- diamonds whose triangles have the same keys have the same key
diamond_by : (before after : PartsState) (a : ℕ) → merging_key (entry_of before a) ≡ merging_key (entry_of after a) →
    (1 ≤ mate_of a → merging_key (entry_of before (mate_of a)) ≡ merging_key (entry_of after (mate_of a))) →
    diamond_rank before a ≡ diamond_rank after a
diamond_by before after a own mate =
    let rank : ℕ → ℕ → Rank = λ tri p. record { p = p; tri = tri } in
    ⊎_elim
    (λ (none : mate_of a < 1).
    let zero : mate_of a ≡ 0 = omega arith in
    diamond_alone before a zero ∙ ap (rank a) own ∙ sym (diamond_alone after a zero))
    (λ (some : 1 ≤ mate_of a). diamond_two before a some
    ∙ ap₂ better_of (ap (rank a) own) (ap (rank (mate_of a)) (mate some)) ∙ sym (diamond_two after a some))
    (cases_lt (mate_of a) 1)

-- a change that keeps each key keeps the places
kept_placed : (parts : PartsState) (out : ℕ → Bool) (s : ℕ) (e : Entry) (asked : List ℕ) → s < length parts.entries →
    best_of e ≡ best_of (entry_at parts s) → merging_key e ≡ merging_key (entry_at parts s) →
    deadline_of e ≡ deadline_of (entry_at parts s) → e.stamped ≡ (entry_at parts s).stamped →
    e.known ≡ (entry_at parts s).known → IsPlaced parts out → IsPlaced (changed parts s e asked) out
kept_placed parts out s e asked below best worst deadline stamped known placed =
    let pairs : List ℕ = parts.pool.pairs in
    let worst_same : (r : ℕ) → merging_key (entry_at parts r) ≡ merging_key (entry_at (changed parts s e asked) r) =
    field_kept merging_key parts s e asked below worst in
    let rank : ℕ → ℕ → Rank = λ tri p. record { p = p; tri = tri } in
    record {
      split = λ r. placed.split r ∙ ap (λ p. cond (is_leaf_at pairs r && not (out r))
          (Some (rank (address_at pairs r) p)) None) (field_kept best_of parts s e asked below best r);
      merge =
          λ r. placed.merge r ∙ ap (λ (z : Rank). cond (is_chief_at pairs r && not (is_out pairs out r)) (Some z) None)
          (diamond_by parts (changed parts s e asked) (address_at pairs r)
          (worst_same (slot_of pairs (address_at pairs r)))
          (λ some. worst_same (slot_of pairs (mate_of (address_at pairs r)))));
      due = λ r. placed.due r ∙ ap (λ d. cond (is_entry_at pairs r && not (out r)) (Some d) None)
          (field_kept deadline_of parts s e asked below deadline r);
      stamped = λ r is. placed.stamped r (field_kept (λ (z : Entry). z.stamped) parts s e asked below stamped r ∙ is);
      known = λ r is. placed.known r (field_kept (λ (z : Entry). z.known) parts s e asked below known r ∙ is);
    }

-- the key of a diamond without the slot
diamond_apart : (parts : PartsState) (s r : ℕ) (e : Entry) (asked : List ℕ) → IsPool parts.pool.n parts.pool.pairs →
    s < length parts.entries → is_ready_at parts.pool.pairs r ≡ true →
    s ≢ r → (1 ≤ mate_of (address_at parts.pool.pairs r) →
    s ≢ slot_of parts.pool.pairs (mate_of (address_at parts.pool.pairs r))) →
    diamond_rank parts (address_at parts.pool.pairs r)
    ≡ diamond_rank (changed parts s e asked) (address_at parts.pool.pairs r)
diamond_apart parts s r e asked pool below ready own mate =
    let pairs : List ℕ = parts.pool.pairs in
    let slot : slot_of pairs (address_at pairs r) ≡ r =
    slot_of-at parts.pool.n pairs r pool (ready_live pairs r ready) in
    diamond_by parts (changed parts s e asked) (address_at pairs r)
    (ap merging_key
    (sym (entry_other parts s (slot_of pairs (address_at pairs r)) e below (λ same. own (same ∙ slot)))))
    (λ some. ap merging_key
    (sym (entry_other parts s (slot_of pairs (mate_of (address_at pairs r))) e below (mate some))))

module _ (parts : PartsState) (out : ℕ → Bool) (s : ℕ) (e : Entry) (asked : List ℕ) (whole : IsWhole parts)
    (pool : IsPool parts.pool.n parts.pool.pairs)
    (entry : is_entry_at parts.pool.pairs s ≡ true) (none : (q : ℕ) → out q ≡ false)
    (deadline : deadline_of e ≡ deadline_of (entry_at parts s)) (placed : IsPlaced parts out) where
  within : s < 2 * length parts.pool.pairs
  within = live_below parts.pool.pairs s (entry_live parts.pool.pairs s entry)

  below : s < length parts.entries
  below = let size = whole.entries in let slot = within in omega arith

  -- no diamond is out
  none_out : (r : ℕ) → not (is_out parts.pool.pairs out r) ≡ true
  none_out r =
      let mate : ℕ = slot_of parts.pool.pairs (mate_of (address_at parts.pool.pairs r)) in
      not_from_false (is_out parts.pool.pairs out r)
      (or_from (out r) (nat_lt 0 (mate_of (address_at parts.pool.pairs r)) && out mate) (none r)
      (and_right (nat_lt 0 (mate_of (address_at parts.pool.pairs r))) (out mate) (none mate)))

  other_leaf : (r : ℕ) → (is_leaf_at parts.pool.pairs r ≡ true → s ≢ r) →
      slice_index_or parts.split r None ≡ cond (is_leaf_at parts.pool.pairs r && not (out r))
      (Some (leaf_rank (changed parts s e asked) r)) None
  other_leaf r apart = placed.split r ∙ cond_same (is_leaf_at parts.pool.pairs r && not (out r))
      (Some (leaf_rank parts r)) (Some (leaf_rank (changed parts s e asked) r)) None
      (λ test. ap (λ (z : Entry). Some (record { p = best_of z; tri = address_at parts.pool.pairs r }))
      (sym (entry_other parts s r e below (apart (and_parts (is_leaf_at parts.pool.pairs r) (not (out r)) test).0))))

  other_diamond : (r : ℕ) →
      (is_chief_at parts.pool.pairs r ≡ true → (s ≢ r) × (1 ≤ mate_of (address_at parts.pool.pairs r) →
      s ≢ slot_of parts.pool.pairs (mate_of (address_at parts.pool.pairs r)))) →
      slice_index_or parts.merge r None ≡ cond (is_chief_at parts.pool.pairs r && not (is_out parts.pool.pairs out r))
      (Some (diamond_rank (changed parts s e asked) (address_at parts.pool.pairs r))) None
  other_diamond r apart = placed.merge r ∙ cond_same (is_chief_at parts.pool.pairs r && not
      (is_out parts.pool.pairs out r)) (Some (diamond_rank parts (address_at parts.pool.pairs r)))
      (Some (diamond_rank (changed parts s e asked) (address_at parts.pool.pairs r))) None
      (λ test.
      let chief = (and_parts (is_chief_at parts.pool.pairs r) (not (is_out parts.pool.pairs out r)) test).0 in
      let ready = (and_parts (is_ready_at parts.pool.pairs r)
      (nat_eq (chief_of (address_at parts.pool.pairs r)) (address_at parts.pool.pairs r)) chief).0 in
      let other = apart chief in
      ap (λ (z : Rank). Some z) (diamond_apart parts s r e asked pool below ready other.0 other.1))

  due_kept : (r : ℕ) → slice_index_or parts.due r None ≡ cond (is_entry_at parts.pool.pairs r && not (out r))
      (Some (deadline_of (entry_at (changed parts s e asked) r))) None
  due_kept r = placed.due r ∙ ap (λ d. cond (is_entry_at parts.pool.pairs r && not (out r)) (Some d) None)
      (field_kept deadline_of parts s e asked below deadline r)

  stamped_kept : (r : ℕ) → (entry_at (changed parts s e asked) r).stamped ≡ true → is_entry_at parts.pool.pairs r ≡ true
  stamped_kept r is = by_bool (nat_eq s r)
      (λ same. subst (λ z. is_entry_at parts.pool.pairs z ≡ true) (eqb-true s r same) entry)
      (λ apart. placed.stamped r
      (ap (λ (z : Entry). z.stamped) (sym (entry_other parts s r e below (eqb-false s r apart))) ∙ is))

  known_kept : (r : ℕ) → (entry_at (changed parts s e asked) r).known ≡ true → is_entry_at parts.pool.pairs r ≡ true
  known_kept r is = by_bool (nat_eq s r)
      (λ same. subst (λ z. is_entry_at parts.pool.pairs z ≡ true) (eqb-true s r same) entry)
      (λ apart.
      placed.known r (ap (λ (z : Entry). z.known) (sym (entry_other parts s r e below (eqb-false s r apart))) ∙ is))

  leaf_renewed : is_leaf_at parts.pool.pairs s ≡ true → IsPlaced (rekeyed_as (changed parts s e asked) s true) out
  leaf_renewed leaf = record {
    split = λ r.
        let size = whole.split in
        let slot = within in
        set_key parts.split s r (leaf_rank (changed parts s e asked) s) (omega arith) ∙ by_bool (nat_eq s r)
        (λ same. cond-true (nat_eq s r) (Some (leaf_rank (changed parts s e asked) s))
        (slice_index_or parts.split r None) same
        ∙ ap (λ q. Some (leaf_rank (changed parts s e asked) q)) (eqb-true s r same)
        ∙ sym (cond-true (is_leaf_at parts.pool.pairs r && not (out r))
        (Some (leaf_rank (changed parts s e asked) r)) None
        (and_from (is_leaf_at parts.pool.pairs r) (not (out r))
        (ap (is_leaf_at parts.pool.pairs) (sym (eqb-true s r same)) ∙ leaf) (not_from_false (out r) (none r)))))
        (λ apart. cond-false (nat_eq s r) (Some (leaf_rank (changed parts s e asked) s))
        (slice_index_or parts.split r None) apart ∙ other_leaf r (λ any. eqb-false s r apart));
    merge = λ r. other_diamond r (λ chief.
        let ready = (and_parts (is_ready_at parts.pool.pairs r)
        (nat_eq (chief_of (address_at parts.pool.pairs r)) (address_at parts.pool.pairs r)) chief).0 in (
          leaf_apart parts.pool.pairs s r leaf ready,
          λ some. leaf_apart parts.pool.pairs s (slot_of parts.pool.pairs (mate_of (address_at parts.pool.pairs r)))
              leaf (ready_mate parts.pool.n parts.pool.pairs r pool ready some).0,
        ));
    due = due_kept;
    stamped = stamped_kept;
    known = known_kept;
  }

  diamond_renewed : is_leaf_at parts.pool.pairs s ≡ false → is_ready_at parts.pool.pairs s ≡ true →
      IsPlaced (rekeyed_as (changed parts s e asked) s false) out
  diamond_renewed leaf ready = record {
    split = λ r. other_leaf r (λ there same.
        both_ways (is_leaf_at parts.pool.pairs s) leaf (ap (is_leaf_at parts.pool.pairs) same ∙ there));
    merge = λ r.
        let head = chief_ready parts.pool.n parts.pool.pairs s pool ready in
        let chief_entry = (and_parts (is_ready_at parts.pool.pairs (chief_slot parts.pool.pairs s))
        (nat_eq (chief_of (address_at parts.pool.pairs (chief_slot parts.pool.pairs s)))
        (address_at parts.pool.pairs (chief_slot parts.pool.pairs s))) head.0).0 in
        let slot = live_below parts.pool.pairs (chief_slot parts.pool.pairs s)
        (ready_live parts.pool.pairs (chief_slot parts.pool.pairs s) chief_entry) in
        let key : Rank = diamond_rank (changed parts s e asked) (chief_of (address_at parts.pool.pairs s)) in
        set_key parts.merge (chief_slot parts.pool.pairs s) r key (subst (λ z. chief_slot parts.pool.pairs s < z)
        (sym whole.merge) slot) ∙ by_bool (nat_eq (chief_slot parts.pool.pairs s) r)
        (λ same.
        let is : chief_slot parts.pool.pairs s ≡ r = eqb-true (chief_slot parts.pool.pairs s) r same in
        cond-true (nat_eq (chief_slot parts.pool.pairs s) r) (Some key) (slice_index_or parts.merge r None) same
        ∙ ap (λ a. Some (diamond_rank (changed parts s e asked) a)) (sym head.1 ∙ ap (address_at parts.pool.pairs) is)
        ∙ sym (cond-true (is_chief_at parts.pool.pairs r && not (is_out parts.pool.pairs out r))
        (Some (diamond_rank (changed parts s e asked) (address_at parts.pool.pairs r))) None
        (and_from (is_chief_at parts.pool.pairs r) (not (is_out parts.pool.pairs out r))
        (ap (is_chief_at parts.pool.pairs) (sym is) ∙ head.0) (none_out r))))
        (λ apart. cond-false (nat_eq (chief_slot parts.pool.pairs s) r) (Some key)
        (slice_index_or parts.merge r None) apart
        ∙ other_diamond r (λ chief. chief_apart parts.pool.n parts.pool.pairs s r pool chief
        (eqb-false (chief_slot parts.pool.pairs s) r apart)));
    due = due_kept;
    stamped = stamped_kept;
    known = known_kept;
  }

  -- an entry in its place that has another key has its place by that
  renewed_placed : IsPlaced (rekeyed (changed parts s e asked) s) out
  renewed_placed = ⊎_elim
      (λ (leaf : is_leaf_at parts.pool.pairs s ≡ true).
      subst (λ b. IsPlaced (rekeyed_as (changed parts s e asked) s b) out) (sym leaf) (leaf_renewed leaf))
      (λ (diamond : (is_leaf_at parts.pool.pairs s ≡ false) × (is_ready_at parts.pool.pairs s ≡ true)).
      subst (λ b. IsPlaced (rekeyed_as (changed parts s e asked) s b) out) (sym diamond.0)
      (diamond_renewed diamond.0 diamond.1))
      (entry_cases parts.pool.pairs s entry)

-- what stays whole

-- the sizes after a change, where the marks say what is listed
changed_whole : (parts : PartsState) (s : ℕ) (e : Entry) (asked : List ℕ) → IsWhole parts → s < length parts.entries →
    e.fresh ≡ (entry_at parts s).fresh → (e.known ≡ true → e.listed ≡ true) →
    IsSlotList (slice_set parts.entries s e) (λ z. z.listed) asked → IsWhole (changed parts s e asked)
changed_whole parts s e asked whole below fresh known listed = record {
  few = whole.few;
  pairs = whole.pairs;
  root = whole.root;
  entries = length-set parts.entries s e ∙ whole.entries;
  split = whole.split;
  merge = whole.merge;
  due = whole.due;
  asked = listed;
  fresh = marks_kept parts.entries (λ z. z.fresh) s e parts.fresh fresh whole.fresh;
  known = λ r is. by_bool (nat_eq s r)
      (λ same.
      let own : entry_at (changed parts s e asked) r ≡ e =
      ap (λ q. entry_at (changed parts s e asked) q) (sym (eqb-true s r same)) ∙ entry_own parts s e asked below in
      ap (λ (z : Entry). z.listed) own ∙ known (ap (λ (z : Entry). z.known) (sym own) ∙ is))
      (λ apart.
      let other : entry_at (changed parts s e asked) r ≡ entry_at parts r =
      entry_other parts s r e below (eqb-false s r apart) in
      ap (λ (z : Entry). z.listed) other ∙ whole.known r (ap (λ (z : Entry). z.known) (sym other) ∙ is));
}

-- the list of what was asked, with one slot more
abbrev pub asked_with : PartsState → ℕ → List ℕ
asked_with parts s = cond (entry_at parts s).listed parts.asked (parts.asked ++ (s ∷ []))

-- it is whole after a slot was told
pub with_priority_whole : (parts : PartsState) (s p : ℕ) → IsWhole parts → s < length parts.entries →
    IsWhole (changed parts s (with_priority (entry_at parts s) p) (asked_with parts s))
with_priority_whole parts s p whole below =
    changed_whole parts s (with_priority (entry_at parts s) p) (asked_with parts s) whole below refl (λ known. refl)
    (by_bool (entry_at parts s).listed
    (λ old. subst (IsSlotList (slice_set parts.entries s (with_priority (entry_at parts s) p)) (λ z. z.listed))
    (sym (cond-true (entry_at parts s).listed parts.asked (parts.asked ++ (s ∷ [])) old))
    (marks_kept parts.entries (λ z. z.listed) s (with_priority (entry_at parts s) p) parts.asked (sym old) whole.asked))
    (λ new. subst (IsSlotList (slice_set parts.entries s (with_priority (entry_at parts s) p)) (λ z. z.listed))
    (sym (cond-false (entry_at parts s).listed parts.asked (parts.asked ++ (s ∷ [])) new)) (pushed_list new)))
  where
    pushed_list : (entry_at parts s).listed ≡ false →
        IsSlotList (slice_set parts.entries s (with_priority (entry_at parts s) p)) (λ z. z.listed)
        (parts.asked ++ (s ∷ []))
    pushed_list new = record {
      distinct = IsDistinct-push nat_eq_equiv parts.asked s whole.asked.distinct
          (any-among s parts.asked ∙ sym (whole.asked.marked s) ∙ new);
      marked = λ r. by_bool (nat_eq s r)
          (λ same.
          ap (λ (z : Entry). z.listed) (ap (λ q. entry_at (changed parts s
          (with_priority (entry_at parts s) p) parts.asked) q)
          (sym (eqb-true s r same)) ∙ entry_own parts s (with_priority (entry_at parts s) p) parts.asked below)
          ∙ sym (among-push parts.asked s r
          ∙ or_right (among parts.asked r) (among (s ∷ []) r) (or_left (nat_eq s r) false same)))
          (λ apart.
          ap (λ (z : Entry). z.listed) (entry_other parts s r (with_priority (entry_at parts s) p) below
          (eqb-false s r apart))
          ∙ whole.asked.marked r
          ∙ sym (among-push parts.asked s r
          ∙ or_none (among parts.asked r) (among (s ∷ []) r) (or_from (nat_eq s r) false apart refl)));
    }

-- the last slot that was asked is one
pub last_below : (parts : PartsState) (rest : List ℕ) (s : ℕ) → IsWhole parts → parts.asked ≡ rest ++ (s ∷ []) →
    s < length parts.entries
last_below parts rest s whole asked =
    listed_below parts.entries (λ z. z.listed) parts.asked s whole.asked refl
    (ap (λ l. among l s) asked ∙ among_last rest s)

-- it is whole after a slot was forgotten
pub without_priority_whole : (parts : PartsState) (rest : List ℕ) (s : ℕ) → IsWhole parts
    → parts.asked ≡ rest ++ (s ∷ []) →
    IsWhole (changed parts s (without_priority (entry_at parts s)) rest)
without_priority_whole parts rest s whole asked =
    let below = last_below parts rest s whole asked in
    let front = distinct_front rest s (subst (IsDistinct nat_eq) asked whole.asked.distinct) in
    changed_whole parts s (without_priority (entry_at parts s)) rest whole below refl
    (λ known. absurd (both_ways false refl known)) record {
      distinct = front.0;
      marked = λ r. by_bool (nat_eq s r)
          (λ same.
          ap (λ (z : Entry). z.listed) (ap (λ q. entry_at (changed parts s
          (without_priority (entry_at parts s)) rest) q)
          (sym (eqb-true s r same)) ∙ entry_own parts s (without_priority (entry_at parts s)) rest below)
          ∙ sym front.1 ∙ ap (among rest) (eqb-true s r same))
          (λ apart.
          ap (λ (z : Entry). z.listed) (entry_other parts s r (without_priority (entry_at parts s)) below
          (eqb-false s r apart))
          ∙ whole.asked.marked r ∙ ap (λ l. among l r) asked ∙ among-push rest s r
          ∙ or_none (among rest r) (among (s ∷ []) r) (or_from (nat_eq s r) false apart refl));
    }

-- telling

-- the places after a slot was told
told_placed : (parts : PartsState) (out : ℕ → Bool) (s p : ℕ) → IsWhole parts → IsPool parts.pool.n parts.pool.pairs →
    is_entry_at parts.pool.pairs s ≡ true →
    ((q : ℕ) → out q ≡ false) → IsPlaced parts out → IsPlaced (rated parts s p) out
told_placed parts out s p whole pool entry none placed =
    renewed_placed parts out s (with_priority (entry_at parts s) p)
    (asked_with parts s) whole pool entry none refl placed

-- what holds between two calls of the loop still does
pub told_parts : (parts : PartsState) (s p : ℕ) → IsWhole parts → IsParts parts → parts.fresh ≡ [] →
    is_entry_at parts.pool.pairs s ≡ true → IsParts (rated parts s p)
told_parts parts s p whole is none entry = record {
  pool = is.pool;
  near = λ r.
      let e : Entry = with_priority (entry_at parts s) p in
      let below = entry_below parts s whole entry in
      let odometer = field_kept (λ (z : Entry). z.odometer) parts s e (asked_with parts s) below refl r in
      let slack = field_kept (λ (z : Entry). z.slack) parts s e (asked_with parts s) below refl r in
      (subst (λ z. z ≤ 2 ^ 62) odometer (is.near r).0, subst (λ z. z ≤ 2 ^ 32) slack (is.near r).1);
  placed = told_placed parts (among parts.fresh) s p whole is.pool entry (λ q. ap (λ l. among l q) none) is.placed;
  entries = is.entries;
}

-- and the loop sees a told rank
pub told_seen : (parts : PartsState) (s : ℕ) (rank : Rank) → IsWhole parts → IsPool parts.pool.n parts.pool.pairs →
    IsLive parts.pool.pairs s → address_at parts.pool.pairs s ≡ rank.tri →
    IsRated (seen_parts parts) (seen_parts (rated parts s rank.p)) rank
told_seen parts s rank whole pool live at =
    let e : Entry = with_priority (entry_at parts s) rank.p in
    let slot = live_below parts.pool.pairs s live in
    let size = whole.entries in
    let below : s < length parts.entries = omega arith in
    let kept : (a : ℕ) → entry_of (rated parts s rank.p) a ≡ cond (nat_eq rank.tri a) e (entry_of parts a) = λ a.
    entry_of-set parts.pool.n parts.pool.pairs parts.entries s e a pool live below
    ∙ ap (λ t. cond (nat_eq t a) e (entry_of parts a)) at in
    record {
      set = refl;
      fresh = refl;
      known = λ a. ap (λ (z : Entry). z.known) (kept a) ∙ by_bool (nat_eq rank.tri a)
          (λ same. ap (λ (z : Entry). z.known) (cond-true (nat_eq rank.tri a) e (entry_of parts a) same)
          ∙ sym (or_right (entry_of parts a).known (nat_eq rank.tri a) same))
          (λ apart. ap (λ (z : Entry). z.known) (cond-false (nat_eq rank.tri a) e (entry_of parts a) apart)
          ∙ sym (or_none (entry_of parts a).known (nat_eq rank.tri a) apart));
      exact = λ a. ap (λ (z : Entry). z.exact) (kept a) ∙ by_bool (nat_eq rank.tri a)
          (λ same. ap (λ (z : Entry). z.exact) (cond-true (nat_eq rank.tri a) e (entry_of parts a) same)
          ∙ sym (cond-true (nat_eq rank.tri a) rank.p (entry_of parts a).exact same))
          (λ apart. ap (λ (z : Entry). z.exact) (cond-false (nat_eq rank.tri a) e (entry_of parts a) apart)
          ∙ sym (cond-false (nat_eq rank.tri a) rank.p (entry_of parts a).exact apart));
      stamp = λ a. ap stamp_in (kept a) ∙ by_bool (nat_eq rank.tri a)
          (λ same. ap stamp_in (cond-true (nat_eq rank.tri a) e (entry_of parts a) same)
          ∙ ap (λ r. stamp_in (entry_at parts r)) (sym (ap (slot_of parts.pool.pairs)
          (sym (at ∙ eqb-true rank.tri a same)) ∙ slot_of-at parts.pool.n parts.pool.pairs s pool live)))
          (λ apart. ap stamp_in (cond-false (nat_eq rank.tri a) e (entry_of parts a) apart));
    }

-- forgetting

-- what the forgetting of slots keeps
pub record HasForgotten (before after : PartsState) : Type 0 where
  pub pool : after.pool ≡ before.pool
  pub fresh : after.fresh ≡ before.fresh
  pub stamp : (r : ℕ) → stamp_in (entry_at after r) ≡ stamp_in (entry_at before r)
  pub near : (r : ℕ) → IsNear (entry_at after r)
  pub placed : IsPlaced after (λ r. false)

-- nothing was forgotten yet
pub forgotten_start : (parts : PartsState) → IsParts parts → parts.fresh ≡ [] → HasForgotten parts parts
forgotten_start parts is none = record {
  pool = refl;
  fresh = refl;
  stamp = λ r. refl;
  near = is.near;
  placed = placed_same parts (among parts.fresh) (λ r. false) (λ r. sym (ap (λ l. among l r) none)) is.placed;
}

-- what holds between two calls of the loop does after
pub forgotten_parts : (before after : PartsState) → IsParts before → before.fresh ≡ [] →
    HasForgotten before after → IsParts after
forgotten_parts before after is none kept =
    let empty : after.fresh ≡ [] = kept.fresh ∙ none in
    record {
      pool = subst (λ (z : PoolState). IsPool z.n z.pairs) (sym kept.pool) is.pool;
      near = kept.near;
      placed = placed_same after (λ r. false) (among after.fresh) (λ r. ap (λ l. among l r) empty) kept.placed;
      entries = λ s there. absurd (both_ways (among after.fresh s) (ap (λ l. among l s) empty) there);
    }

-- the last slot that was asked is forgotten
pub forgotten_has : (parts : PartsState) (rest : List ℕ) (s : ℕ) → IsWhole parts →
    IsPool parts.pool.n parts.pool.pairs → IsPlaced parts (λ r. false) → ((r : ℕ) → IsNear (entry_at parts r)) →
    parts.asked ≡ rest ++ (s ∷ []) →
    HasForgotten parts (forgotten parts rest s) × ((forgotten parts rest s).asked ≡ rest)
forgotten_has parts rest s whole pool placed near asked = by_bool (entry_at parts s).known
    (λ known. subst (λ (z : PartsState). HasForgotten parts z × (z.asked ≡ rest))
    (sym (cond-true (entry_at parts s).known (rekeyed now s) now known)) (
      record {
        pool = refl;
        fresh = refl;
        stamp = λ r. sym (field_kept stamp_in parts s (without_priority (entry_at parts s)) rest below refl r);
        near = near_still;
        placed = renewed_placed parts (λ r. false) s (without_priority (entry_at parts s)) rest whole pool
            (placed.known s known)
            (λ q. refl) refl placed;
      },
      refl,
    ))
    (λ unknown. subst (λ (z : PartsState). HasForgotten parts z × (z.asked ≡ rest))
    (sym (cond-false (entry_at parts s).known (rekeyed now s) now unknown)) (
      record {
        pool = refl;
        fresh = refl;
        stamp = λ r. sym (field_kept stamp_in parts s (without_priority (entry_at parts s)) rest below refl r);
        near = near_still;
        placed = kept_placed parts (λ r. false) s (without_priority (entry_at parts s)) rest below
            (ap (λ b. cond b (entry_at parts s).exact (cond (entry_at parts s).stamped (entry_at parts s).upper 0))
            (sym unknown))
            (ap (λ b. cond b (entry_at parts s).exact (cond (entry_at parts s).stamped (entry_at parts s).lower 0))
            (sym unknown))
            refl refl (sym unknown) placed;
      },
      refl,
    ))
  where
    below : s < length parts.entries
    below = last_below parts rest s whole asked

    now : PartsState
    now = changed parts s (without_priority (entry_at parts s)) rest

    near_still : (r : ℕ) → IsNear (entry_at now r)
    near_still r =
        let odometer = field_kept (λ (z : Entry). z.odometer) parts s
        (without_priority (entry_at parts s)) rest below refl r in
        let slack = field_kept (λ (z : Entry). z.slack) parts s
        (without_priority (entry_at parts s)) rest below refl r in
        (subst (λ z. z ≤ 2 ^ 62) odometer (near r).0, subst (λ z. z ≤ 2 ^ 32) slack (near r).1)

-- one after the other
pub forgotten_then : (first second third : PartsState) → HasForgotten first second → HasForgotten second third →
    HasForgotten first third
forgotten_then first second third one two = record {
  pool = two.pool ∙ one.pool;
  fresh = two.fresh ∙ one.fresh;
  stamp = λ r. two.stamp r ∙ one.stamp r;
  near = two.near;
  placed = two.placed;
}

-- once nothing that was asked is left, nothing is known, and the loop sees that
pub forgotten_seen : (before after : PartsState) → IsWhole after → before.fresh ≡ [] → HasForgotten before after →
    after.asked ≡ [] → IsForgotten (seen_parts before) (seen_parts after)
forgotten_seen before after whole none kept asked = record {
  set = ap pool_set kept.pool;
  stamp = λ a. kept.stamp (slot_of after.pool.pairs a)
      ∙ ap (λ (z : PoolState). stamp_in (entry_at before (slot_of z.pairs a))) kept.pool;
  quiet = record {
    known = λ a. by_bool (entry_of after a).known
        (λ known. absurd (both_ways (entry_of after a).listed (whole.asked.marked (slot_of after.pool.pairs a)
        ∙ ap (λ l. among l (slot_of after.pool.pairs a)) asked) (whole.known (slot_of after.pool.pairs a) known)))
        (λ unknown. unknown);
    fresh = ap (λ l. reverse (map (address_at after.pool.pairs) l)) (kept.fresh ∙ none);
  };
}

-- the slot of an entry can be told
pub entry_told : (parts : PartsState) (s : ℕ) (a : ℕ) → IsParts parts →
    IsEntry parts.pool.n (among (pool_members parts.pool)) a → address_at parts.pool.pairs s ≡ a →
    is_entry_at parts.pool.pairs s ≡ true
entry_told parts s a is entry at =
    let there = entry_at-of parts.pool a is.pool entry in
    let low : 2 ≤ a = subst (λ z. 2 ≤ z) there.1 (entry_live parts.pool.pairs (slot_of parts.pool.pairs a) there.0) in
    subst (λ z. is_entry_at parts.pool.pairs z ≡ true)
    (one_slot parts.pool.n parts.pool.pairs s a is.pool low at) there.0

-- lists in arrays

-- a slot that is told for the first time in this frame
pub with_priority-array : (pool : PoolState) (entries : List Entry) (split merge : List (Option Rank))
    (due : List (Option ℕ))
    (asked : List Slot) (asked_count : ℕ) (fresh : List Slot) (fresh_count : ℕ)
    (s : Slot) (e : Entry) (p : ℕ) → asked_count < length asked →
    e ≡ slice_index_or entries s.0 blank → e.listed ≡ false →
    parts_of pool (slice_set entries s.0 (with_priority e p)) split merge due (slice_set asked asked_count s)
    (asked_count + 1) fresh fresh_count
    ≡ changed (parts_of pool entries split merge due asked asked_count fresh fresh_count) s.0
    (with_priority (slice_index_or entries s.0 blank) p)
    (asked_with (parts_of pool entries split merge due asked asked_count fresh fresh_count) s.0)
with_priority-array pool entries split merge due asked asked_count fresh fresh_count s e p below is new =
    let before : List ℕ = map (λ t. t.0) (take asked_count asked) in
    ap₂ (λ (f : Entry) (l : List ℕ).
    changed (parts_of pool entries split merge due asked asked_count fresh fresh_count) s.0 (with_priority f p) l) is
    (numbers_push asked asked_count s below ∙ sym (cond-false (slice_index_or entries s.0 blank).listed before
    (before ++ (s.0 ∷ [])) (sym (ap (λ (f : Entry). f.listed) is) ∙ new)))

-- and one that was told before
pub with_priority-again : (pool : PoolState) (entries : List Entry) (split merge : List (Option Rank))
    (due : List (Option ℕ))
    (asked : List Slot) (asked_count : ℕ) (fresh : List Slot) (fresh_count : ℕ)
    (s : Slot) (e : Entry) (p : ℕ) → e ≡ slice_index_or entries s.0 blank → e.listed ≡ true →
    parts_of pool (slice_set entries s.0 (with_priority e p)) split merge due asked asked_count fresh fresh_count
    ≡ changed (parts_of pool entries split merge due asked asked_count fresh fresh_count) s.0
    (with_priority (slice_index_or entries s.0 blank) p)
    (asked_with (parts_of pool entries split merge due asked asked_count fresh fresh_count) s.0)
with_priority-again pool entries split merge due asked asked_count fresh fresh_count s e p is old =
    let before : List ℕ = map (λ t. t.0) (take asked_count asked) in
    ap₂ (λ (f : Entry) (l : List ℕ).
    changed (parts_of pool entries split merge due asked asked_count fresh fresh_count) s.0 (with_priority f p) l) is
    (sym (cond-true (slice_index_or entries s.0 blank).listed before (before ++ (s.0 ∷ []))
    (sym (ap (λ (f : Entry). f.listed) is) ∙ old)))
