-- What a change of one slot does to the places of all.
use Rattle.std.proofs.Common.{◌≡◌, ◌≢◌, ℕ, ◌/◌, ◌<◌, ◌≤◌, ◌&&◌, ◌||◌, ◌⊎◌, suc, not, inl, inr, Bool, true, false, cond}
use Rattle.std.proofs.Common.{nat_eq, nat_lt, List, [], ◌∷◌, ◌++◌, length, Option, None, Some, IsSome, IsNone, IfSome}
use Rattle.std.proofs.Common.{All, slice_index_or, slice_set, refl, sym, ◌∙◌, ap, subst, arith, ⊎_elim}
use Rattle.std.proofs.lemmas.Bool.{cases_lt, both_ways, cond-true, cond-false, and_parts, and_left, and_right, and_from}
use Rattle.std.proofs.lemmas.Bool.{or_parts, or_from, true≢false, or_left, or_right, not-true, not_from_true}
use Rattle.std.proofs.lemmas.Bool.{not_from_false, eqb-true, eqb-false, eq-eqb, ne_eqb, lt-ltb, ltb-true}
use Rattle.std.proofs.Math.ListN.{get_or-map}
use Rattle.std.proofs.Math.Seq.{map-set_same}
use Rattle.std.proofs.lemmas.List.{get_or-set_same, get_or-set_other, get_or_past, length-set}
use Rattle.mesh_defs.specs.ClosedSet.{among}
use Rattle.mesh_defs.specs.Greedy.{with_triangle}
use Rattle.bintree_addr.specs.declared.rank.Rank.{Rank}
use Rattle.bintree_addr.specs.declared.slot.Slot.{Slot}
use Rattle.mesh_laws.specs.Edge.{mate_of}
use Rattle.mesh_laws.specs.Slots.{address_at, IsLive, IsPool}
use Rattle.mesh_laws.proofs.MateLemmas.{mate_of-low, mate_of-back}
use Rattle.mesh_laws.specs.Chief.{chief_of}
use Rattle.roam_mesh.specs.declared.entry.Entry.{Entry}
use Rattle.roam_mesh.specs.Mesh.{slot_of}
use Rattle.roam_mesh.specs.Parts.{PartsState, blank, entry_at, entry_of, best_of, merging_key, leaf_rank, worst_rank}
use Rattle.roam_mesh.specs.Parts.{better_of, diamond_rank, deadline_of, is_leaf_at, is_ready_at, is_chief_at}
use Rattle.roam_mesh.specs.Parts.{is_entry_at, is_out, IsSlotList, IsWhole, IsPlaced}
use Rattle.roam_mesh.specs.Change.{chief_slot, gone_entry, taken_out, left, left_all, is_mate_fresh}
use Rattle.roam_mesh.proofs.PlaceLemmas.{live_below, slot_of-at, one_slot, entry_at-set}
use Rattle.roam_mesh.proofs.RoleLemmas.{entry_live, ready_live, not_both, entry_cases, ready_mate, chief_ready}
use Rattle.roam_mesh.proofs.TestLemmas.{cond_same}
use Rattle.mesh_laws.proofs.ChiefLemmas.{chief_of-mate, chief_of-cases}
use Rattle.text_laws.proofs.TestLemmas.{by_bool}
use Rattle.mesh_defs.proofs.TestLemmas.{or_none}
use Rattle.std.proofs.Math.Bool.{or_assoc}

-- ---- which slots are out

-- a slot that is none of a diamond does not put it out
out_other : (pairs : List ℕ) (out : ℕ → Bool) (s r : ℕ) → s ≢ r →
    (1 ≤ mate_of (address_at pairs r) → s ≢ slot_of pairs (mate_of (address_at pairs r))) →
    is_out pairs (with_triangle out s) r ≡ is_out pairs out r
out_other pairs out s r own mate =
    let m : ℕ = slot_of pairs (mate_of (address_at pairs r)) in
    let here : with_triangle out s r ≡ out r = or_none (out r) (nat_eq s r) (ne_eqb s r own) in
    let there : (nat_lt 0 (mate_of (address_at pairs r)) && with_triangle out s m)
    ≡ (nat_lt 0 (mate_of (address_at pairs r)) && out m) =
    by_bool (nat_lt 0 (mate_of (address_at pairs r)))
    (λ some. ap (λ b. nat_lt 0 (mate_of (address_at pairs r)) && b)
    (or_none (out m) (nat_eq s m) (ne_eqb s m (mate (ltb-true 0 (mate_of (address_at pairs r)) some)))))
    (λ none. and_left (nat_lt 0 (mate_of (address_at pairs r))) (with_triangle out s m) none
    ∙ sym (and_left (nat_lt 0 (mate_of (address_at pairs r))) (out m) none)) in
    ap (λ b. b || (nat_lt 0 (mate_of (address_at pairs r)) && with_triangle out s m)) here ∙ ap (λ b. out r || b) there

-- and one of a diamond does
out_own : (pairs : List ℕ) (out : ℕ → Bool) (s r : ℕ) →
    (r ≡ s) ⊎ ((1 ≤ mate_of (address_at pairs r)) × (slot_of pairs (mate_of (address_at pairs r)) ≡ s)) →
    out s ≡ true → is_out pairs out r ≡ true
out_own pairs out s r (inl own) away =
    or_left (out r) (nat_lt 0 (mate_of (address_at pairs r)) && out (slot_of pairs (mate_of (address_at pairs r))))
    (ap out own ∙ away)
out_own pairs out s r (inr mate) away =
    or_right (out r) (nat_lt 0 (mate_of (address_at pairs r)) && out (slot_of pairs (mate_of (address_at pairs r))))
    (and_from (nat_lt 0 (mate_of (address_at pairs r))) (out (slot_of pairs (mate_of (address_at pairs r))))
    (lt-ltb 0 (mate_of (address_at pairs r)) mate.0) (ap out mate.1 ∙ away))

-- where none is out, no diamond is
out_none : (pairs : List ℕ) (out : ℕ → Bool) (r : ℕ) → ((q : ℕ) → out q ≡ false) → is_out pairs out r ≡ false
out_none pairs out r none =
    or_from (out r)
    (nat_lt 0 (mate_of (address_at pairs r)) && out (slot_of pairs (mate_of (address_at pairs r)))) (none r)
    (and_right (nat_lt 0 (mate_of (address_at pairs r))) (out (slot_of pairs (mate_of (address_at pairs r))))
    (none (slot_of pairs (mate_of (address_at pairs r)))))

-- a slot of a diamond is that of its chief or of the chief's mate
chief_own : (n : ℕ) (pairs : List ℕ) (s r : ℕ) → IsPool n pairs → is_ready_at pairs s ≡ true → r ≡ chief_slot pairs s →
    (r ≡ s) ⊎ ((1 ≤ mate_of (address_at pairs r)) × (slot_of pairs (mate_of (address_at pairs r)) ≡ s))
chief_own n pairs s r pool ready is =
    let live : IsLive pairs s = ready_live pairs s ready in
    let head : address_at pairs r ≡ chief_of (address_at pairs s) =
    ap (address_at pairs) is ∙ (chief_ready n pairs s pool ready).1 in
    ⊎_elim
    (λ (own : chief_of (address_at pairs s) ≡ address_at pairs s).
    inl (is ∙ ap (slot_of pairs) own ∙ slot_of-at n pairs s pool live))
    (λ (mate : (1 ≤ mate_of (address_at pairs s)) × (chief_of (address_at pairs s) ≡ mate_of (address_at pairs s))).
    let back : mate_of (address_at pairs r) ≡ address_at pairs s =
    ap mate_of (head ∙ mate.1) ∙ mate_of-back (address_at pairs s) live mate.0 in
    inr (omega arith, ap (slot_of pairs) back ∙ slot_of-at n pairs s pool live))
    (chief_of-cases (address_at pairs s))

-- a leaf is none of a diamond
pub leaf_apart : (pairs : List ℕ) (s r : ℕ) → is_leaf_at pairs s ≡ true → is_ready_at pairs r ≡ true → s ≢ r
leaf_apart pairs s r leaf ready same =
    both_ways (is_leaf_at pairs s) (ap (is_leaf_at pairs) same ∙ not_both pairs r ready) leaf

-- a chief that is not that of s has a diamond without s
pub chief_apart : (n : ℕ) (pairs : List ℕ) (s r : ℕ) → IsPool n pairs → is_chief_at pairs r ≡ true →
    chief_slot pairs s ≢ r →
    (s ≢ r) × (1 ≤ mate_of (address_at pairs r) → s ≢ slot_of pairs (mate_of (address_at pairs r)))
chief_apart n pairs s r pool chief other =
    let parts = and_parts (is_ready_at pairs r) (nat_eq (chief_of (address_at pairs r)) (address_at pairs r)) chief in
    let head : chief_of (address_at pairs r) ≡ address_at pairs r =
    eqb-true (chief_of (address_at pairs r)) (address_at pairs r) parts.1 in
    let live : IsLive pairs r = ready_live pairs r parts.0 in
    let slot : slot_of pairs (address_at pairs r) ≡ r = slot_of-at n pairs r pool live in (
      λ same. other (ap (chief_slot pairs) same ∙ ap (slot_of pairs) head ∙ slot),
      λ some same. other (ap (slot_of pairs) (ap chief_of (ap (address_at pairs) same
          ∙ (ready_mate n pairs r pool parts.0 some).1) ∙ chief_of-mate (address_at pairs r) live some ∙ head) ∙ slot),
    )

-- ---- what the queues hold

-- a key that goes
none_set : {A : Type 0} (xs : List (Option A)) (s r : ℕ) →
    slice_index_or (slice_set xs s None) r None ≡ cond (nat_eq s r) None (slice_index_or xs r None)
none_set xs s r = by_bool (nat_eq s r)
    (λ same. ⊎_elim
    (λ (within : s < length xs). ap (λ q. slice_index_or (slice_set xs s None) q None) (sym (eqb-true s r same))
    ∙ get_or-set_same xs s None None within)
    (λ (past : length xs ≤ s).
    let long : length (slice_set xs s None) ≡ length xs = length-set xs s None in
    let is : s ≡ r = eqb-true s r same in
    get_or_past (slice_set xs s None) r None (omega arith))
    (cases_lt s (length xs))
    ∙ sym (cond-true (nat_eq s r) None (slice_index_or xs r None) same))
    (λ other. get_or-set_other xs s r None None (λ same. eqb-false s r other (sym same))
    ∙ sym (cond-false (nat_eq s r) None (slice_index_or xs r None) other))

-- where the test is the same but for slot s, whose key goes
gone_key : {A : Type 0} (xs : List (Option A)) (s r : ℕ) (was now : Bool) (key : A) →
    slice_index_or xs r None ≡ cond was (Some key) None →
    (s ≡ r → now ≡ false) → (s ≢ r → now ≡ was) → slice_index_or (slice_set xs s None) r None ≡ cond now (Some key) None
gone_key xs s r was now key is own other = none_set xs s r ∙ by_bool (nat_eq s r)
    (λ same. cond-true (nat_eq s r) None (slice_index_or xs r None) same
    ∙ sym (cond-false now (Some key) None (own (eqb-true s r same))))
    (λ apart. cond-false (nat_eq s r) None (slice_index_or xs r None) apart ∙ is
    ∙ ap (λ b. cond b (Some key) None) (sym (other (eqb-false s r apart))))

-- a role, and a slot that is out from now on
role_own : (role : Bool) (out : ℕ → Bool) (s r : ℕ) → s ≡ r → (role && not (with_triangle out s r)) ≡ false
role_own role out s r same =
    and_right role (not (with_triangle out s r))
    (not_from_true (with_triangle out s r) (or_right (out r) (nat_eq s r) (eq-eqb s r same)))

role_other : (role : Bool) (out : ℕ → Bool) (s r : ℕ) → s ≢ r →
    (role && not (with_triangle out s r)) ≡ (role && not (out r))
role_other role out s r other = ap (λ b. role && not b) (or_none (out r) (nat_eq s r) (ne_eqb s r other))

-- a role that slot s does not have
pub role_none : (role : ℕ → Bool) (out : ℕ → Bool) (s r : ℕ) → role s ≡ false →
    (role r && not (with_triangle out s r)) ≡ (role r && not (out r))
role_none role out s r none = by_bool (nat_eq s r)
    (λ same. let off : role r ≡ false = ap role (sym (eqb-true s r same)) ∙ none in
    and_left (role r) (not (with_triangle out s r)) off ∙ sym (and_left (role r) (not (out r)) off))
    (λ apart. role_other (role r) out s r (eqb-false s r apart))

-- a leaf in its place has a key in the split queue
pub leaf_present : (parts : PartsState) (out : ℕ → Bool) (s : ℕ) → IsPlaced parts out →
    is_leaf_at parts.pool.pairs s ≡ true → out s ≡ false → IsSome (slice_index_or parts.split s None)
leaf_present parts out s placed leaf in_place =
    let test = and_from (is_leaf_at parts.pool.pairs s) (not (out s)) leaf (not_from_false (out s) in_place) in
    subst (λ (z : Option Rank). IsSome z)
    (sym (placed.split s
    ∙ cond-true (is_leaf_at parts.pool.pairs s && not (out s)) (Some (leaf_rank parts s)) None test)) refl

-- and one that is out of it has none
pub leaf_absent : (parts : PartsState) (out : ℕ → Bool) (s : ℕ) → IsPlaced parts out → out s ≡ true →
    slice_index_or parts.split s None ≡ None
leaf_absent parts out s placed away =
    placed.split s ∙ cond-false (is_leaf_at parts.pool.pairs s && not (out s)) (Some (leaf_rank parts s)) None
    (and_right (is_leaf_at parts.pool.pairs s) (not (out s)) (not_from_true (out s) away))

-- and so has a diamond in the merge queue
pub diamond_present : (parts : PartsState) (out : ℕ → Bool) (s : ℕ) → IsPool parts.pool.n parts.pool.pairs →
    IsPlaced parts out → is_ready_at parts.pool.pairs s ≡ true →
    ((r : ℕ) → out r ≡ false) → IsSome (slice_index_or parts.merge (chief_slot parts.pool.pairs s) None)
diamond_present parts out s pool placed ready none =
    let r : ℕ = chief_slot parts.pool.pairs s in
    let test = and_from (is_chief_at parts.pool.pairs r) (not (is_out parts.pool.pairs out r))
    (chief_ready parts.pool.n parts.pool.pairs s pool ready).0
    (not_from_false (is_out parts.pool.pairs out r) (out_none parts.pool.pairs out r none)) in
    subst (λ (z : Option Rank). IsSome z)
    (sym (placed.merge r ∙ cond-true (is_chief_at parts.pool.pairs r && not (is_out parts.pool.pairs out r))
    (Some (diamond_rank parts (address_at parts.pool.pairs r))) None test)) refl

-- and none while a slot of it is out of its place
pub diamond_absent : (parts : PartsState) (out : ℕ → Bool) (s : ℕ) → IsPool parts.pool.n parts.pool.pairs →
    IsPlaced parts out → is_ready_at parts.pool.pairs s ≡ true →
    out s ≡ true → slice_index_or parts.merge (chief_slot parts.pool.pairs s) None ≡ None
diamond_absent parts out s pool placed ready away =
    let r : ℕ = chief_slot parts.pool.pairs s in
    placed.merge r ∙ cond-false (is_chief_at parts.pool.pairs r && not (is_out parts.pool.pairs out r))
    (Some (diamond_rank parts (address_at parts.pool.pairs r))) None
    (and_right (is_chief_at parts.pool.pairs r) (not (is_out parts.pool.pairs out r))
    (not_from_true (is_out parts.pool.pairs out r)
    (out_own parts.pool.pairs out s r (chief_own parts.pool.n parts.pool.pairs s r pool ready refl) away)))

-- the places hold for any other test that says the same
pub placed_same : (parts : PartsState) (out other : ℕ → Bool) → ((s : ℕ) → other s ≡ out s) →
    IsPlaced parts out → IsPlaced parts other
placed_same parts out other same placed = record {
  split =
      λ s. placed.split s
      ∙ ap (λ b. cond (is_leaf_at parts.pool.pairs s && not b) (Some (leaf_rank parts s)) None) (sym (same s));
  merge = λ s.
      let m : ℕ = slot_of parts.pool.pairs (mate_of (address_at parts.pool.pairs s)) in
      let some : Bool = nat_lt 0 (mate_of (address_at parts.pool.pairs s)) in
      placed.merge s
      ∙ ap (λ b. cond (is_chief_at parts.pool.pairs s && not (b || (some && out m)))
      (Some (diamond_rank parts (address_at parts.pool.pairs s))) None) (sym (same s))
      ∙ ap (λ b. cond (is_chief_at parts.pool.pairs s && not (other s || (some && b)))
      (Some (diamond_rank parts (address_at parts.pool.pairs s))) None) (sym (same m));
  due = λ s. placed.due s ∙ ap (λ b. cond (is_entry_at parts.pool.pairs s && not b)
      (Some (deadline_of (entry_at parts s))) None) (sym (same s));
  stamped = placed.stamped;
  known = placed.known;
}

-- what taking out does where the slot has a leaf, and where it has none
abbrev taken_as : PartsState → ℕ → Bool → PartsState
taken_as parts s leaf = record parts {
  split = cond leaf (slice_set parts.split s None) parts.split;
  merge = cond leaf parts.merge (slice_set parts.merge (chief_slot parts.pool.pairs s) None);
  due = slice_set parts.due s None;
}

-- and what a new key does
abbrev pub rekeyed_as : PartsState → ℕ → Bool → PartsState
rekeyed_as parts s leaf = record parts {
  split = cond leaf (slice_set parts.split s (Some (leaf_rank parts s))) parts.split;
  merge = cond leaf parts.merge (slice_set parts.merge (chief_slot parts.pool.pairs s)
      (Some (diamond_rank parts (chief_of (address_at parts.pool.pairs s)))));
}

-- a deadline goes
taken_due : (parts : PartsState) (out : ℕ → Bool) (s r : ℕ) → IsPlaced parts out →
    slice_index_or (slice_set parts.due s None) r None ≡ cond
    (is_entry_at parts.pool.pairs r && not (with_triangle out s r)) (Some (deadline_of (entry_at parts r))) None
taken_due parts out s r placed =
    gone_key parts.due s r (is_entry_at parts.pool.pairs r && not (out r))
    (is_entry_at parts.pool.pairs r && not (with_triangle out s r)) (deadline_of (entry_at parts r)) (placed.due r)
    (role_own (is_entry_at parts.pool.pairs r) out s r) (role_other (is_entry_at parts.pool.pairs r) out s r)

-- which diamonds stand in their places after a slot is out that is none of theirs
chief_other : (pairs : List ℕ) (out : ℕ → Bool) (s r : ℕ) →
    (is_chief_at pairs r ≡ true →
    (s ≢ r) × (1 ≤ mate_of (address_at pairs r) → s ≢ slot_of pairs (mate_of (address_at pairs r)))) →
    (is_chief_at pairs r && not (is_out pairs (with_triangle out s) r))
    ≡ (is_chief_at pairs r && not (is_out pairs out r))
chief_other pairs out s r apart = by_bool (is_chief_at pairs r)
    (λ chief.
    let other = apart chief in
    ap (λ b. is_chief_at pairs r && not b) (out_other pairs out s r other.0 other.1))
    (λ none. and_left (is_chief_at pairs r) (not (is_out pairs (with_triangle out s) r)) none
    ∙ sym (and_left (is_chief_at pairs r) (not (is_out pairs out r)) none))

leaf_taken : (parts : PartsState) (out : ℕ → Bool) (s : ℕ) → IsPool parts.pool.n parts.pool.pairs →
    is_leaf_at parts.pool.pairs s ≡ true →
    IsPlaced parts out → IsPlaced (taken_as parts s true) (with_triangle out s)
leaf_taken parts out s pool leaf placed = record {
  split = λ r. gone_key parts.split s r (is_leaf_at parts.pool.pairs r && not (out r))
      (is_leaf_at parts.pool.pairs r && not (with_triangle out s r)) (leaf_rank parts r) (placed.split r)
      (role_own (is_leaf_at parts.pool.pairs r) out s r) (role_other (is_leaf_at parts.pool.pairs r) out s r);
  merge = λ r. placed.merge r ∙ ap (λ b. cond b (Some (diamond_rank parts (address_at parts.pool.pairs r))) None)
      (sym (chief_other parts.pool.pairs out s r (λ chief.
      let ready = (and_parts (is_ready_at parts.pool.pairs r)
      (nat_eq (chief_of (address_at parts.pool.pairs r)) (address_at parts.pool.pairs r)) chief).0 in (
        leaf_apart parts.pool.pairs s r leaf ready,
        λ some. leaf_apart parts.pool.pairs s (slot_of parts.pool.pairs (mate_of (address_at parts.pool.pairs r))) leaf
            (ready_mate parts.pool.n parts.pool.pairs r pool ready some).0,
      ))));
  due = λ r. taken_due parts out s r placed;
  stamped = placed.stamped;
  known = placed.known;
}

diamond_taken : (parts : PartsState) (out : ℕ → Bool) (s : ℕ) → IsPool parts.pool.n parts.pool.pairs →
    is_leaf_at parts.pool.pairs s ≡ false → is_ready_at parts.pool.pairs s ≡ true →
    IsPlaced parts out → IsPlaced (taken_as parts s false) (with_triangle out s)
diamond_taken parts out s pool leaf ready placed = record {
  split =
      λ r. placed.split r
      ∙ ap (λ b. cond b (Some (leaf_rank parts r)) None) (sym (role_none (is_leaf_at parts.pool.pairs) out s r leaf));
  merge = λ r. gone_key parts.merge (chief_slot parts.pool.pairs s) r
      (is_chief_at parts.pool.pairs r && not (is_out parts.pool.pairs out r))
      (is_chief_at parts.pool.pairs r && not (is_out parts.pool.pairs (with_triangle out s) r))
      (diamond_rank parts (address_at parts.pool.pairs r)) (placed.merge r)
      (λ same. and_right (is_chief_at parts.pool.pairs r) (not (is_out parts.pool.pairs (with_triangle out s) r))
      (not_from_true (is_out parts.pool.pairs (with_triangle out s) r)
      (out_own parts.pool.pairs (with_triangle out s) s r (chief_own parts.pool.n parts.pool.pairs s r pool ready
      (sym same)) (or_right (out s) (nat_eq s s) (eq-eqb s s refl)))))
      (λ other. chief_other parts.pool.pairs out s r
      (λ chief. chief_apart parts.pool.n parts.pool.pairs s r pool chief other));
  due = λ r. taken_due parts out s r placed;
  stamped = placed.stamped;
  known = placed.known;
}

-- an entry that is taken out is out of its place, and all others are in theirs
pub taken_placed : (parts : PartsState) (out : ℕ → Bool) (s : ℕ) → IsWhole parts →
    IsPool parts.pool.n parts.pool.pairs → is_entry_at parts.pool.pairs s ≡ true →
    IsPlaced parts out → IsPlaced (taken_out parts s) (with_triangle out s)
taken_placed parts out s whole pool entry placed = ⊎_elim
    (λ (leaf : is_leaf_at parts.pool.pairs s ≡ true). subst (λ b. IsPlaced (taken_as parts s b) (with_triangle out s))
    (sym leaf) (leaf_taken parts out s pool leaf placed))
    (λ (diamond : (is_leaf_at parts.pool.pairs s ≡ false) × (is_ready_at parts.pool.pairs s ≡ true)).
    subst (λ b. IsPlaced (taken_as parts s b) (with_triangle out s)) (sym diamond.0)
    (diamond_taken parts out s pool diamond.0 diamond.1 placed))
    (entry_cases parts.pool.pairs s entry)

-- what is kept of a slot, with its address, as the key of a diamond's triangle
abbrev worst_by : Entry → ℕ → Rank
worst_by e a = record { p = merging_key e; tri = a }

-- what is kept of another slot stays
pub entry_other : (parts : PartsState) (s r : ℕ) (e : Entry) → s < length parts.entries → s ≢ r →
    slice_index_or (slice_set parts.entries s e) r blank ≡ entry_at parts r
entry_other parts s r e below other =
    entry_at-set parts.entries s e r below ∙ cond-false (nat_eq s r) e (entry_at parts r) (ne_eqb s r other)

-- and so does the key of a diamond that is in its place
diamond_kept : (parts : PartsState) (out : ℕ → Bool) (s r : ℕ) (e : Entry) → IsPool parts.pool.n parts.pool.pairs →
    s < length parts.entries → out s ≡ true →
    is_chief_at parts.pool.pairs r ≡ true → is_out parts.pool.pairs out r ≡ false →
    diamond_rank parts (address_at parts.pool.pairs r)
    ≡ diamond_rank (record parts { entries = slice_set parts.entries s e }) (address_at parts.pool.pairs r)
diamond_kept parts out s r e pool below away chief in_place =
    let pairs : List ℕ = parts.pool.pairs in
    let a : ℕ = address_at pairs r in
    let ready = (and_parts (is_ready_at pairs r) (nat_eq (chief_of a) a) chief).0 in
    let apart = or_parts (out r) (nat_lt 0 (mate_of a) && out (slot_of pairs (mate_of a))) in_place in
    let slot : slot_of pairs a ≡ r = slot_of-at parts.pool.n pairs r pool (ready_live pairs r ready) in
    let first : entry_of parts a ≡ slice_index_or (slice_set parts.entries s e) (slot_of pairs a) blank =
    sym (entry_other parts s (slot_of pairs a) e below
    (λ same. both_ways (out r) apart.0 (ap out (sym slot) ∙ ap out (sym same) ∙ away))) in
    by_bool (nat_eq (mate_of a) 0)
    (λ none. cond-true (nat_eq (mate_of a) 0) (worst_by (entry_of parts a) a)
    (better_of (worst_by (entry_of parts a) a) (worst_by (entry_of parts (mate_of a)) (mate_of a))) none
    ∙ ap (λ z. worst_by z a) first
    ∙ sym (cond-true (nat_eq (mate_of a) 0)
    (worst_by (slice_index_or (slice_set parts.entries s e) (slot_of pairs a) blank) a)
    (better_of (worst_by (slice_index_or (slice_set parts.entries s e) (slot_of pairs a) blank) a)
    (worst_by (slice_index_or (slice_set parts.entries s e) (slot_of pairs (mate_of a)) blank) (mate_of a))) none))
    (λ some.
    let low : 0 < mate_of a = let differ = eqb-false (mate_of a) 0 some in omega arith in
    let second : entry_of parts (mate_of a) ≡ slice_index_or (slice_set parts.entries s e)
    (slot_of pairs (mate_of a)) blank =
    sym (entry_other parts s (slot_of pairs (mate_of a)) e below
    (λ same. both_ways (nat_lt 0 (mate_of a) && out (slot_of pairs (mate_of a))) apart.1
    (and_from (nat_lt 0 (mate_of a)) (out (slot_of pairs (mate_of a))) (lt-ltb 0 (mate_of a) low)
    (ap out (sym same) ∙ away)))) in
    ap (λ z. cond (nat_eq (mate_of a) 0) (worst_by z a)
    (better_of (worst_by z a) (worst_by (entry_of parts (mate_of a)) (mate_of a)))) first
    ∙ ap (λ z. cond (nat_eq (mate_of a) 0)
    (worst_by (slice_index_or (slice_set parts.entries s e) (slot_of pairs a) blank) a)
    (better_of (worst_by (slice_index_or (slice_set parts.entries s e) (slot_of pairs a) blank) a)
    (worst_by z (mate_of a)))) second)

-- what is kept of a slot that is out of its place may change
pub away_placed : (parts : PartsState) (out : ℕ → Bool) (s : ℕ) (e : Entry) → IsPool parts.pool.n parts.pool.pairs →
    s < length parts.entries → is_entry_at parts.pool.pairs s ≡ true →
    out s ≡ true → IsPlaced parts out → IsPlaced (record parts { entries = slice_set parts.entries s e }) out
away_placed parts out s e pool below entry away placed =
    let pairs : List ℕ = parts.pool.pairs in
    let other : (r : ℕ) → out r ≡ false → entry_at parts r ≡ slice_index_or (slice_set parts.entries s e) r blank =
    λ r in_place. sym (entry_other parts s r e below (λ same. both_ways (out r) in_place (ap out (sym same) ∙ away))) in
    record {
      split =
          λ r. placed.split r ∙ cond_same (is_leaf_at pairs r && not (out r)) (Some (leaf_rank parts r)) (Some (record {
            p = best_of (slice_index_or (slice_set parts.entries s e) r blank);
            tri = address_at pairs r;
          })) None
          (λ test. ap (λ (z : Entry). Some (record { p = best_of z; tri = address_at pairs r }))
          (other r (not-true (out r) (and_parts (is_leaf_at pairs r) (not (out r)) test).1)));
      merge =
          λ r. placed.merge r
          ∙ cond_same (is_chief_at pairs r && not (is_out pairs out r)) (Some (diamond_rank parts (address_at pairs r)))
          (Some (diamond_rank (record parts { entries = slice_set parts.entries s e }) (address_at pairs r))) None
          (λ test. let both = and_parts (is_chief_at pairs r) (not (is_out pairs out r)) test in
          ap (λ (z : Rank). Some z) (diamond_kept parts out s r e pool below away both.0
          (not-true (is_out pairs out r) both.1)));
      due = λ r. placed.due r ∙ cond_same (is_entry_at pairs r && not (out r)) (Some (deadline_of (entry_at parts r)))
          (Some (deadline_of (slice_index_or (slice_set parts.entries s e) r blank))) None
          (λ test. ap (λ (z : Entry). Some (deadline_of z))
          (other r (not-true (out r) (and_parts (is_entry_at pairs r) (not (out r)) test).1)));
      stamped = λ r is. by_bool (nat_eq s r) (λ same. ap (is_entry_at pairs) (sym (eqb-true s r same)) ∙ entry)
          (λ apart. placed.stamped r
          (ap (λ (z : Entry). z.stamped) (sym (entry_other parts s r e below (eqb-false s r apart))) ∙ is));
      known = λ r is. by_bool (nat_eq s r) (λ same. ap (is_entry_at pairs) (sym (eqb-true s r same)) ∙ entry)
          (λ apart. placed.known r
          (ap (λ (z : Entry). z.known) (sym (entry_other parts s r e below (eqb-false s r apart))) ∙ is));
    }

-- there is a place for what is kept of an entry
pub entry_below : (parts : PartsState) (s : ℕ) → IsWhole parts → is_entry_at parts.pool.pairs s ≡ true →
    s < length parts.entries
entry_below parts s whole entry =
    let below = live_below parts.pool.pairs s (entry_live parts.pool.pairs s entry) in
    let long = whole.entries in
    omega arith

-- and so is one that leaves
left_placed : (parts : PartsState) (out : ℕ → Bool) (s : ℕ) → IsWhole parts → IsPool parts.pool.n parts.pool.pairs →
    is_entry_at parts.pool.pairs s ≡ true →
    IsPlaced parts out → IsPlaced (left parts s) (with_triangle out s)
left_placed parts out s whole pool entry placed =
    away_placed (taken_out parts s) (with_triangle out s) s (gone_entry (entry_at parts s)) pool
    (entry_below parts s whole entry) entry
    (or_right (out s) (nat_eq s s) (eq-eqb s s refl)) (taken_placed parts out s whole pool entry placed)

-- ---- what stays whole

-- a mark that a change of an entry keeps says what it said
pub marks_kept : (entries : List Entry) (mark : Entry → Bool) (s : ℕ) (e : Entry) (slots : List ℕ) →
    mark e ≡ mark (slice_index_or entries s blank) →
    IsSlotList entries mark slots → IsSlotList (slice_set entries s e) mark slots
marks_kept entries mark s e slots same list = record {
  distinct = list.distinct;
  marked = λ r. sym (get_or-map mark (slice_set entries s e) r blank)
      ∙ ap (λ z. slice_index_or z r (mark blank)) (map-set_same mark entries s e blank same)
      ∙ get_or-map mark entries r blank ∙ list.marked r;
}

-- what holds of the whole still does after a change of heaps, and of what is kept of a slot that keeps its marks
pub whole_kept : (parts : PartsState) (s : ℕ) (e : Entry) (split merge : List (Option Rank)) (due : List (Option ℕ)) →
    IsWhole parts → s < length parts.entries →
    length split ≡ length parts.split → length merge ≡ length parts.merge → length due ≡ length parts.due →
    e.listed ≡ (entry_at parts s).listed → e.fresh ≡ (entry_at parts s).fresh → (e.known ≡ true → e.listed ≡ true) →
    IsWhole (record parts { entries = slice_set parts.entries s e; split = split; merge = merge; due = due })
whole_kept parts s e split merge due whole below same_split same_merge same_due listed fresh known = record {
  few = whole.few;
  pairs = whole.pairs;
  root = whole.root;
  entries = length-set parts.entries s e ∙ whole.entries;
  split = same_split ∙ whole.split;
  merge = same_merge ∙ whole.merge;
  due = same_due ∙ whole.due;
  asked = marks_kept parts.entries (λ z. z.listed) s e parts.asked listed whole.asked;
  fresh = marks_kept parts.entries (λ z. z.fresh) s e parts.fresh fresh whole.fresh;
  known = λ r is. by_bool (nat_eq s r)
      (λ same. let own : slice_index_or (slice_set parts.entries s e) r blank ≡ e =
      entry_at-set parts.entries s e r below ∙ cond-true (nat_eq s r) e (entry_at parts r) same in
      ap (λ (z : Entry). z.listed) own ∙ known (ap (λ (z : Entry). z.known) (sym own) ∙ is))
      (λ apart. let other = entry_other parts s r e below (eqb-false s r apart) in
      ap (λ (z : Entry). z.listed) other ∙ whole.known r (ap (λ (z : Entry). z.known) (sym other) ∙ is));
}

-- so it does after a leaving
pub length-cond_set : {A : Type 0} (b : Bool) (xs : List A) (s : ℕ) (x : A) →
    (length (cond b (slice_set xs s x) xs) ≡ length xs) × (length (cond b xs (slice_set xs s x)) ≡ length xs)
length-cond_set true xs s x = (length-set xs s x, refl)
length-cond_set false xs s x = (refl, length-set xs s x)

left_whole : (parts : PartsState) (s : ℕ) → IsWhole parts → s < length parts.entries → IsWhole (left parts s)
left_whole parts s whole below =
    whole_kept parts s (gone_entry (entry_at parts s)) (taken_out parts s).split (taken_out parts s).merge
    (taken_out parts s).due whole below
    (length-cond_set (is_leaf_at parts.pool.pairs s) parts.split s None).0
    (length-cond_set (is_leaf_at parts.pool.pairs s) parts.merge (chief_slot parts.pool.pairs s) None).1
    (length-set parts.due s None) refl refl (λ is. absurd (both_ways false refl is))

-- what a leaving of slots does: the pool and the lists stay, what is kept changes for those slots alone, and they are
-- out of their places
pub record HasLeft (before after : PartsState) (slots : List ℕ) : Type 0 where
  pub pool : after.pool ≡ before.pool
  pub asked : after.asked ≡ before.asked
  pub fresh : after.fresh ≡ before.fresh
  pub whole : IsWhole after
  pub entries : (r : ℕ) → entry_at after r ≡ cond (among slots r) (gone_entry (entry_at before r)) (entry_at before r)
  pub placed : (out : ℕ → Bool) → IsPlaced before out → IsPlaced after (λ r. out r || among slots r)

-- slots that leave one after the other
pub left_has : (parts : PartsState) (slots : List ℕ) → IsWhole parts → IsPool parts.pool.n parts.pool.pairs →
    All (λ s. is_entry_at parts.pool.pairs s ≡ true) slots → HasLeft parts (left_all parts slots) slots
left_has parts [] whole pool entries = record {
  pool = refl;
  asked = refl;
  fresh = refl;
  whole = whole;
  entries = λ r. refl;
  placed = λ out placed. placed_same parts out (λ r. out r || false) (λ r. or_none (out r) false refl) placed;
}
left_has parts (s ∷ more) whole pool entries =
    let entry : is_entry_at parts.pool.pairs s ≡ true = entries 0 0 (omega arith) in
    let below = entry_below parts s whole entry in
    let rest =
    left_has (left parts s) more (left_whole parts s whole below) pool (λ k d h. entries (suc k) d (omega arith)) in
    record {
      pool = rest.pool;
      asked = rest.asked;
      fresh = rest.fresh;
      whole = rest.whole;
      entries = λ r. rest.entries r ∙ ap (λ (z : Entry). cond (among more r) (gone_entry z) z)
          (entry_at-set parts.entries s (gone_entry (entry_at parts s)) r below)
          ∙ gone_twice parts s r (among more r);
      placed = λ out placed. placed_same (left_all (left parts s) more) (λ r. with_triangle out s r || among more r)
          (λ r. out r || among (s ∷ more) r)
          (λ r. sym (or_assoc (out r) (nat_eq s r) (among more r)))
          (rest.placed (with_triangle out s) (left_placed parts out s whole pool entry placed));
    }
  where
    gone_twice : (parts : PartsState) (s r : ℕ) (away : Bool) →
        cond away (gone_entry (cond (nat_eq s r) (gone_entry (entry_at parts s)) (entry_at parts r)))
        (cond (nat_eq s r) (gone_entry (entry_at parts s)) (entry_at parts r))
        ≡ cond (nat_eq s r || away) (gone_entry (entry_at parts r)) (entry_at parts r)
    gone_twice parts s r away = by_bool (nat_eq s r)
        (λ same. ap (λ b. cond away (gone_entry (cond b (gone_entry (entry_at parts s)) (entry_at parts r)))
        (cond b (gone_entry (entry_at parts s)) (entry_at parts r))) same
        ∙ both_gone parts s away ∙ ap (λ q. gone_entry (entry_at parts q)) (eqb-true s r same)
        ∙ sym (cond-true (nat_eq s r || away) (gone_entry (entry_at parts r)) (entry_at parts r)
        (or_left (nat_eq s r) away same)))
        (λ apart. ap (λ b. cond away (gone_entry (cond b (gone_entry (entry_at parts s)) (entry_at parts r)))
        (cond b (gone_entry (entry_at parts s)) (entry_at parts r))) apart
        ∙ sym (ap (λ b. cond (b || away) (gone_entry (entry_at parts r)) (entry_at parts r)) apart))
      where
        both_gone : (parts : PartsState) (s : ℕ) (away : Bool) →
            cond away (gone_entry (gone_entry (entry_at parts s))) (gone_entry (entry_at parts s))
            ≡ gone_entry (entry_at parts s)
        both_gone parts s true = refl
        both_gone parts s false = refl

-- leaving leaves the pool as it is
pub left_all-pool : (parts : PartsState) (slots : List ℕ) → (left_all parts slots).pool ≡ parts.pool
left_all-pool parts [] = refl
left_all-pool parts (s ∷ more) = left_all-pool (left parts s) more

-- two lists that leave one after the other leave as one
pub left_all-append : (parts : PartsState) (xs ys : List ℕ) →
    left_all parts (xs ++ ys) ≡ left_all (left_all parts xs) ys
left_all-append parts [] ys = refl
left_all-append parts (x ∷ xs) ys = left_all-append (left parts x) xs ys

-- ---- keys

-- the key of a live slot's triangle, by the worst
pub worst_read : (parts : PartsState) (s p tri : ℕ) → IsPool parts.pool.n parts.pool.pairs → IsLive parts.pool.pairs s →
    p ≡ merging_key (entry_at parts s) → tri ≡ address_at parts.pool.pairs s →
    record { p = p; tri = tri } ≡ worst_rank parts (address_at parts.pool.pairs s)
worst_read parts s p tri pool live value at =
    let slot : slot_of parts.pool.pairs (address_at parts.pool.pairs s) ≡ s =
    slot_of-at parts.pool.n parts.pool.pairs s pool live in
    let known : p ≡ merging_key (entry_of parts (address_at parts.pool.pairs s)) =
    value ∙ ap (λ q. merging_key (entry_at parts q)) (sym slot) in
    ap (λ (z : ℕ). worst_pair z tri) known
    ∙ ap (λ (z : ℕ). worst_pair (merging_key (entry_of parts (address_at parts.pool.pairs s))) z) at
  where
    worst_pair : ℕ → ℕ → Rank
    worst_pair p tri = record { p = p; tri = tri }

-- ---- what the pool tells

-- a slot with the address of a slot's mate is the mate's
mate_found : (n : ℕ) (pairs : List ℕ) (s t : ℕ) → IsPool n pairs → is_ready_at pairs s ≡ true →
    1 ≤ mate_of (address_at pairs s) →
    address_at pairs t ≡ mate_of (address_at pairs s) →
    (t ≡ slot_of pairs (mate_of (address_at pairs s))) × (is_ready_at pairs t ≡ true)
mate_found n pairs s t pool ready some at =
    let own : t ≡ slot_of pairs (mate_of (address_at pairs s)) =
    sym (one_slot n pairs t (mate_of (address_at pairs s)) pool
    (mate_of-low (address_at pairs s) (ready_live pairs s ready) some) at) in
    (own, ap (is_ready_at pairs) own ∙ (ready_mate n pairs s pool ready some).0)

-- where the pool answers a slot for it
pub mate_answered : (n : ℕ) (pairs : List ℕ) (s : ℕ) (answer : Option Slot) → IsPool n pairs →
    is_ready_at pairs s ≡ true →
    (mate_of (address_at pairs s) ≡ 0 → IsNone answer) →
    IfSome answer (λ t. address_at pairs t.0 ≡ mate_of (address_at pairs s)) →
    IfSome answer (λ t. (t.0 ≡ slot_of pairs (mate_of (address_at pairs s))) × (is_ready_at pairs t.0 ≡ true))
mate_answered n pairs s None pool ready alone at = tt
mate_answered n pairs s (Some t) pool ready alone at =
    mate_found n pairs s t.0 pool ready
    (⊎_elim (λ (few : mate_of (address_at pairs s) < 1). absurd (true≢false (alone (omega arith)))) (λ more. more)
    (cases_lt (mate_of (address_at pairs s)) 1)) at

-- the mark of a mate
pub mate_fresh : (parts : PartsState) (s r : ℕ) (e : Entry) → 1 ≤ mate_of (address_at parts.pool.pairs s) →
    r ≡ slot_of parts.pool.pairs (mate_of (address_at parts.pool.pairs s)) →
    e ≡ entry_at parts r → e.fresh ≡ is_mate_fresh parts s
mate_fresh parts s r e some at is =
    ap (λ (z : Entry). z.fresh) (is ∙ ap (entry_at parts) at)
    ∙ sym (ap (λ b. b && (entry_at parts (slot_of parts.pool.pairs (mate_of (address_at parts.pool.pairs s)))).fresh)
    (lt-ltb 0 (mate_of (address_at parts.pool.pairs s)) (omega arith)))

-- the parent of a triangle that is none of the halves of the square is an address
pub parent_low : (a : ℕ) → (a < 4 → true ≡ false) → 2 ≤ a / 2
parent_low a deep =
    ⊎_elim (λ (few : a < 4). absurd (true≢false (deep few))) (λ (more : 4 ≤ a). omega arith) (cases_lt a 4)
