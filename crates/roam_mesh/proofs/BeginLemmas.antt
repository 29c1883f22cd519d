-- What the listing of due slots does at the start of a frame.
use Rattle.std.proofs.Common.{◌≡◌, ℕ, ◌+◌, ◌*◌, ◌<◌, ◌≤◌, ◌||◌, Bool, true, false, not, ◌&&◌, cond, nat_eq, nat_lt}
use Rattle.std.proofs.Common.{IsSome, IsSomeAnd, List, [], ◌∷◌, length, map, reverse, Option, None, Some}
use Rattle.std.proofs.Common.{slice_index_or, length-set, refl, sym, ◌∙◌, ap, subst, arith, ⊎_elim}
use Rattle.std.proofs.lemmas.Bool.{cond-true, cond-false, both_ways, eqb-true, or_cases, or_left, or_right, and_parts}
use Rattle.std.proofs.lemmas.Bool.{and_from, not-true, not_from_false, false_from_ne_true, lt-ltb, ltb-true}
use Rattle.std.proofs.lemmas.List.{length_push}
use Rattle.std.proofs.lemmas.List.Elements.{All-cons, All-nil}
use Rattle.mesh_defs.specs.ClosedSet.{among}
use Rattle.mesh_defs.specs.Greedy.{with_triangle}
use Rattle.mesh_laws.specs.Slots.{address_at, IsPool}
use Rattle.bintree_addr.specs.declared.slot.Slot.{Slot}
use Rattle.triangle_pool.specs.Slots.{PoolState}
use Rattle.lazy_priority.specs.Due.{IsDue, NoneIsDue}
use Rattle.mesh_laws.specs.Stamps.{is_due}
use Rattle.mesh_laws.specs.Deferred.{IsEntry}
use Rattle.deferred_loop.specs.Seen.{IsQuiet, IsBegun}
use Rattle.roam_mesh.specs.Mesh.{slot_of, pool_set, pool_members}
use Rattle.roam_mesh.specs.Parts.{PartsState, entry_at, entry_of, is_leaf_at, is_entry_at, deadline_of, stamp_in}
use Rattle.roam_mesh.specs.Parts.{seen_parts, IsWhole, IsPlaced, IsNear, IsParts}
use Rattle.roam_mesh.specs.Change.{chief_slot, taken_out, begun_at}
use Rattle.roam_mesh.specs.declared.entry.Entry.{Entry}
use Rattle.roam_mesh.proofs.PlaceLemmas.{slot_of-at}
use Rattle.roam_mesh.proofs.RoleLemmas.{entry_live, entry_of-at, entry_at-of}
use Rattle.roam_mesh.proofs.PlacedLemmas.{taken_placed, placed_same, entry_below, length-cond_set}
use Rattle.roam_mesh.proofs.HeadLemmas.{settled_fresh}
use Rattle.roam_mesh.proofs.FreshLemmas.{HasPushed, pushed_has, pushed-fresh}
use Rattle.roam_mesh.proofs.SlotListLemmas.{distinct_room, seen_in, in_seen, seen_distinct}
use Rattle.text_laws.proofs.TestLemmas.{by_bool, some-test}
use Rattle.std.proofs.Math.Bool.{or-false}

-- ---- deadlines and stamps

-- where the deadline has come, the stamp is due
deadline_due : (e : Entry) (odometer : ℕ) → deadline_of e ≤ odometer → is_due odometer (stamp_in e) ≡ true
deadline_due e odometer reached = by_bool e.stamped
    (λ stamped. ap (is_due odometer) (cond-true e.stamped (Some (record {
      odometer = e.odometer;
      slack = e.slack;
      upper = e.upper;
      lower = e.lower;
      expired = e.expired;
    })) None stamped)
    ∙ by_bool e.expired
    (λ expired. or_left e.expired (nat_lt (e.odometer + e.slack) odometer) expired)
    (λ valid.
    let test = and_from e.stamped (not e.expired) stamped (not_from_false e.expired valid) in
    let at = cond-true (e.stamped && not e.expired) (e.odometer + e.slack + 1) 0 test in
    or_right e.expired (nat_lt (e.odometer + e.slack) odometer) (lt-ltb (e.odometer + e.slack) odometer (omega arith))))
    (λ none. ap (is_due odometer) (cond-false e.stamped (Some (record {
      odometer = e.odometer;
      slack = e.slack;
      upper = e.upper;
      lower = e.lower;
      expired = e.expired;
    })) None none))

-- and where not, it is not
deadline_undue : (e : Entry) (odometer : ℕ) → (deadline_of e ≤ odometer → ⊥) → is_due odometer (stamp_in e) ≡ false
deadline_undue e odometer ahead = by_bool (e.stamped && not e.expired)
    (λ test.
    let both = and_parts e.stamped (not e.expired) test in
    let at = cond-true (e.stamped && not e.expired) (e.odometer + e.slack + 1) 0 test in
    let late : (e.odometer + e.slack < odometer → ⊥) = λ less. ahead (omega arith) in
    ap (is_due odometer) (cond-true e.stamped (Some (record {
      odometer = e.odometer;
      slack = e.slack;
      upper = e.upper;
      lower = e.lower;
      expired = e.expired;
    })) None both.0)
    ∙ ap (λ b. b || nat_lt (e.odometer + e.slack) odometer) (not-true e.expired both.1)
    ∙ false_from_ne_true (nat_lt (e.odometer + e.slack) odometer)
    (λ less. late (ltb-true (e.odometer + e.slack) odometer less)))
    (λ no. absurd (ahead (let at =
    cond-false (e.stamped && not e.expired) (e.odometer + e.slack + 1) 0 no in omega arith)))

-- a key below a bound, if there is a key
some_key : (b : Bool) (d odometer : ℕ) → IsSomeAnd (cond b (Some d) None) (λ from. from ≤ odometer) →
    (b ≡ true) × (d ≤ odometer)
some_key true d odometer reached = (refl, reached)
some_key false d odometer none = absurd none

-- a slot that is due is an entry in its place, whose deadline has come
due_slot : (parts : PartsState) (out : ℕ → Bool) (odometer : ℕ) (s : Slot) → IsPlaced parts out →
    IsDue parts.due odometer s →
    (is_entry_at parts.pool.pairs s.0 ≡ true) × (out s.0 ≡ false) × (deadline_of (entry_at parts s.0) ≤ odometer)
due_slot parts out odometer s placed due =
    let key = some_key (is_entry_at parts.pool.pairs s.0 && not (out s.0)) (deadline_of (entry_at parts s.0)) odometer
    (subst (λ (k : Option ℕ). IsSomeAnd k (λ from. from ≤ odometer)) (placed.due s.0) due) in
    let both = and_parts (is_entry_at parts.pool.pairs s.0) (not (out s.0)) key.0 in
    (both.0, not-true (out s.0) both.1, key.1)

-- and each such slot is due
slot_due : (parts : PartsState) (out : ℕ → Bool) (odometer : ℕ) (s : Slot) → IsPlaced parts out →
    is_entry_at parts.pool.pairs s.0 ≡ true → out s.0 ≡ false →
    deadline_of (entry_at parts s.0) ≤ odometer → IsDue parts.due odometer s
slot_due parts out odometer s placed entry in_place reached =
    subst (λ (k : Option ℕ). IsSomeAnd k (λ from. from ≤ odometer))
    (sym (placed.due s.0
    ∙ cond-true (is_entry_at parts.pool.pairs s.0 && not (out s.0)) (Some (deadline_of (entry_at parts s.0))) None
    (and_from (is_entry_at parts.pool.pairs s.0) (not (out s.0)) entry (not_from_false (out s.0) in_place)))) reached

-- ---- the start of a frame

-- an entry without the mark
abbrev pub unmarked : Entry → Entry
unmarked e = record e { fresh = false }

-- so far: the parts are as at the start but for slots that were due and are fresh now
pub record IsBeginning (start now : PartsState) (odometer : ℕ) : Type 0 where
  pub parts : IsParts now
  pub pool : now.pool ≡ start.pool
  pub entries : (r : ℕ) → unmarked (entry_at now r) ≡ unmarked (entry_at start r)
  pub due : (r : ℕ) → among now.fresh r ≡ true → is_due odometer (stamp_in (entry_at start r)) ≡ true

-- at the start nothing is fresh
pub beginning_start : (start : PartsState) (odometer : ℕ) → IsParts start → IsQuiet (seen_parts start) →
    IsBeginning start start odometer
beginning_start start odometer is quiet = record {
  parts = is;
  pool = refl;
  entries = λ r. refl;
  due =
      λ r fresh. absurd (both_ways (among start.fresh r) (ap (λ l. among l r) (settled_fresh start quiet.fresh)) fresh);
}

-- what taking out leaves whole
taken_whole : (parts : PartsState) (s : ℕ) → IsWhole parts → IsWhole (taken_out parts s)
taken_whole parts s whole = record {
  few = whole.few;
  pairs = whole.pairs;
  root = whole.root;
  entries = whole.entries;
  split = (length-cond_set (is_leaf_at parts.pool.pairs s) parts.split s None).0 ∙ whole.split;
  merge = (length-cond_set (is_leaf_at parts.pool.pairs s) parts.merge (chief_slot parts.pool.pairs s) None).1
      ∙ whole.merge;
  due = length-set parts.due s None ∙ whole.due;
  asked = whole.asked;
  fresh = whole.fresh;
  known = whole.known;
}

-- a slot that is due is fresh after, and all others stay
begun_has : (parts : PartsState) (s : ℕ) → IsWhole parts → is_entry_at parts.pool.pairs s ≡ true →
    HasPushed (taken_out parts s) (begun_at parts s) (s ∷ [])
begun_has parts s whole entry = pushed_has (taken_out parts s) (s ∷ []) (taken_whole parts s whole)
    (All-cons (λ r. r < length parts.entries) s [] (entry_below parts s whole entry)
    (All-nil (λ r. r < length parts.entries)))

-- so it stays with one more slot that is due
pub beginning_step : (start now : PartsState) (odometer : ℕ) (s : Slot) → IsWhole now → IsDue now.due odometer s →
    IsBeginning start now odometer → IsBeginning start (begun_at now s.0) odometer
beginning_step start now odometer s whole due is = record {
  parts = record {
    pool = subst (λ (p : PoolState). IsPool p.n p.pairs) (sym has.pool) is.parts.pool;
    near = λ r. subst IsNear (sym (has.entries r)) (is.parts.near r);
    placed = placed_same (begun_at now s.0) (with_triangle (among now.fresh) s.0) (among (begun_at now s.0).fresh) tests
        (has.placed (with_triangle (among now.fresh) s.0)
        (taken_placed now (among now.fresh) s.0 whole is.parts.pool slot.0 is.parts.placed));
    entries = λ r fresh. subst (λ (p : PoolState). is_entry_at p.pairs r ≡ true) (sym has.pool) (⊎_elim
        (λ (old : among now.fresh r ≡ true). is.parts.entries r old)
        (λ (new : nat_eq s.0 r ≡ true). subst (λ z. is_entry_at now.pool.pairs z ≡ true) (eqb-true s.0 r new) slot.0)
        (or_cases (among now.fresh r) (nat_eq s.0 r) (sym (tests r) ∙ fresh)));
  };
  pool = has.pool ∙ is.pool;
  entries = λ r. ap unmarked (has.entries r) ∙ is.entries r;
  due = λ r fresh. ⊎_elim
      (λ (old : among now.fresh r ≡ true). is.due r old)
      (λ (new : nat_eq s.0 r ≡ true). subst (λ z. is_due odometer (stamp_in (entry_at start z)) ≡ true)
      (eqb-true s.0 r new)
      (ap (λ e. is_due odometer (stamp_in e)) (sym (is.entries s.0)) ∙ deadline_due (entry_at now s.0) odometer slot.2))
      (or_cases (among now.fresh r) (nat_eq s.0 r) (sym (tests r) ∙ fresh));
}
  where
    slot : (is_entry_at now.pool.pairs s.0 ≡ true) × (among now.fresh s.0 ≡ false)
        × (deadline_of (entry_at now s.0) ≤ odometer)
    slot = due_slot now (among now.fresh) odometer s is.parts.placed due

    has : HasPushed (taken_out now s.0) (begun_at now s.0) (s.0 ∷ [])
    has = begun_has now s.0 whole slot.0

    tests : (r : ℕ) → among (begun_at now s.0).fresh r ≡ with_triangle (among now.fresh) s.0 r
    tests r = has.fresh r ∙ ap (λ b. among now.fresh r || b) (or-false (nat_eq s.0 r))

-- and there are more of them
pub beginning_more : (start now : PartsState) (odometer : ℕ) (s : Slot) → IsWhole now → IsDue now.due odometer s →
    IsBeginning start now odometer →
    (length (begun_at now s.0).fresh ≡ length now.fresh + 1) × (length now.fresh < 2 * length now.pool.pairs)
    × ((begun_at now s.0).pool ≡ now.pool)
beginning_more start now odometer s whole due is =
    let slot = due_slot now (among now.fresh) odometer s is.parts.placed due in
    let stale = whole.fresh.marked s.0 ∙ slot.1 in
    let room = distinct_room now.entries (λ e. e.fresh) now.fresh s.0 whole.fresh refl
    (entry_below now s.0 whole slot.0) stale in
    let long = whole.entries in (
      ap (λ (l : List ℕ). length l) (pushed-fresh (taken_out now s.0) s.0 stale) ∙ length_push now.fresh s.0,
      omega arith,
      (begun_has now s.0 whole slot.0).pool,
    )

-- once none is due, the frame has begun
pub beginning_end : (start now : PartsState) (odometer : ℕ) → IsWhole now → NoneIsDue now.due odometer →
    IsQuiet (seen_parts start) → IsBeginning start now odometer →
    IsBegun (seen_parts start) (seen_parts now) odometer
beginning_end start now odometer whole none quiet is = record {
  set = ap pool_set is.pool;
  known = λ a. ap (λ e. e.known) (entry a) ∙ quiet.known a;
  stamp = stamps;
  distinct = seen_distinct now.pool.n now.pool.pairs now.fresh is.parts.pool whole.fresh.distinct
      (λ r fresh. entry_live now.pool.pairs r (is.parts.entries r fresh));
  each = λ a fresh.
      let there = in_seen now.pool.pairs now.fresh a fresh in
      let entry_at_r = is.parts.entries there.0 there.1 in
      let slot =
      slot_of-at now.pool.n now.pool.pairs there.0 is.parts.pool (entry_live now.pool.pairs there.0 entry_at_r) in (
        subst (λ z. IsEntry now.pool.n (among (pool_members now.pool)) z) there.2
            (entry_of-at now.pool there.0 is.parts.pool entry_at_r),
        ap (is_due odometer) (sym (stamps a) ∙ ap (λ z. stamp_in (entry_at now (slot_of now.pool.pairs z)))
            (sym there.2) ∙ ap (λ z. stamp_in (entry_at now z)) slot ∙ ap stamp_in (is.entries there.0))
            ∙ is.due there.0 there.1,
      );
  rest = λ a entry_a stale.
      let at = entry_at-of now.pool a is.parts.pool entry_a in
      let r : ℕ = slot_of now.pool.pairs a in
      let in_place : among now.fresh r ≡ false = false_from_ne_true (among now.fresh r) (λ fresh.
      both_ways (among (reverse (map (address_at now.pool.pairs) now.fresh)) a) stale
      (subst (λ z. among (reverse (map (address_at now.pool.pairs) now.fresh)) z ≡ true) at.1
      (seen_in now.pool.pairs now.fresh r fresh))) in
      ap (is_due odometer) (sym (stamps a)) ∙ deadline_undue (entry_at now r) odometer
      (λ reached. none (record { 0 = r })
      (slot_due now (among now.fresh) odometer (record { 0 = r }) is.parts.placed at.0 in_place reached));
}
  where
    entry : (a : ℕ) → unmarked (entry_of now a) ≡ unmarked (entry_of start a)
    entry a = is.entries (slot_of now.pool.pairs a)
        ∙ ap (λ (p : PoolState). unmarked (entry_at start (slot_of p.pairs a))) is.pool

    stamps : (a : ℕ) → stamp_in (entry_of now a) ≡ stamp_in (entry_of start a)
    stamps a = ap stamp_in (entry a)

-- a slot with a deadline is an entry
pub due_entry : (parts : PartsState) (out : ℕ → Bool) (s : ℕ) → IsPlaced parts out →
    IsSome (slice_index_or parts.due s None) → is_entry_at parts.pool.pairs s ≡ true
due_entry parts out s placed some =
    (and_parts (is_entry_at parts.pool.pairs s) (not (out s))
    (some-test (is_entry_at parts.pool.pairs s && not (out s)) (deadline_of (entry_at parts s))
    (subst (λ (k : Option ℕ). IsSome k) (placed.due s) some))).0
