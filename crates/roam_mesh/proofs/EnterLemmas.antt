-- What entering the next fresh slot does.
use Rattle.std.proofs.Common.{◌≡◌, ℕ, ◌+◌, ◌-◌, ◌*◌, ◌^◌, ◌<◌, ◌≤◌, ◌||◌, Bool, true, false, not, ◌&&◌, cond, eqb}
use Rattle.std.proofs.Common.{nat_eq, nat_lt, List, [], ◌∷◌, ◌++◌, length, map, reverse, Option, None, Some}
use Rattle.std.proofs.Common.{slice_index_or, slice_set, length-set, take, refl, sym, ◌∙◌, ap, ap₂, subst, arith}
use Rattle.std.proofs.Common.{⊎_elim}
use Rattle.std.specs.List.{IsDistinct}
use Rattle.std.proofs.lemmas.Bool.{cases_Bool, cond-true, cond-false, cond_both, both_ways, eqb-true, eqb-false, eq-eqb}
use Rattle.std.proofs.lemmas.Bool.{ne_eqb, or_left, or_right, or_from, or_parts, and_from, and_parts, not_from_false}
use Rattle.std.proofs.lemmas.Bool.{lt-ltb, ltb-true}
use Rattle.std.proofs.lemmas.List.{length-append, map-append, reverse-append, get_or-set_same, get_or-set_other}
use Rattle.mesh_defs.specs.ClosedSet.{among}
use Rattle.mesh_defs.specs.Greedy.{with_triangle}
use Rattle.mesh_defs.proofs.TestLemmas.{same_tests}
use Rattle.mesh_laws.specs.Edge.{mate_of}
use Rattle.mesh_laws.specs.Slots.{address_at, IsLive, IsPool}
use Rattle.mesh_laws.proofs.MateLemmas.{mate_of-back}
use Rattle.mesh_laws.specs.Chief.{chief_of}
use Rattle.bintree_addr.specs.declared.slot.Slot.{Slot}
use Rattle.triangle_pool.specs.Slots.{PoolState}
use Rattle.deferred_loop.specs.declared.gauge.Reading.{Reading}
use Rattle.deferred_loop.specs.Seen.{IsEntered}
use Rattle.roam_mesh.specs.Mesh.{slot_of}
use Rattle.roam_mesh.specs.Parts.{PartsState, blank, entry_at, is_leaf_at, is_ready_at, is_chief_at, is_entry_at}
use Rattle.roam_mesh.specs.Parts.{is_out, deadline_of, leaf_rank, diamond_rank, stamp_in, entry_of, seen_parts, IsWhole}
use Rattle.roam_mesh.specs.Parts.{IsPlaced, IsNear, IsParts}
use Rattle.roam_mesh.specs.Change.{chief_slot, rekeyed, is_mate_fresh, put_in, read_entry, entered, seated}
use Rattle.roam_mesh.specs.Keeping.{CanTakeBack}
use Rattle.roam_mesh.specs.declared.entry.Entry.{Entry}
use Rattle.roam_mesh.proofs.PlaceLemmas.{live_below, entry_at-set, entry_of-set, slot_of-at}
use Rattle.roam_mesh.proofs.RoleLemmas.{entry_live, ready_live, entry_cases, ready_mate, chief_ready, IsChiefIn}
use Rattle.roam_mesh.proofs.RoleLemmas.{chief_in, in_chief}
use Rattle.roam_mesh.proofs.PlacedLemmas.{length-cond_set, away_placed, placed_same, leaf_apart, chief_apart, role_none}
use Rattle.roam_mesh.proofs.PlacedLemmas.{rekeyed_as}
use Rattle.roam_mesh.proofs.SlotListLemmas.{numbers_count, numbers_pop, among-push, listed_below, among_last}
use Rattle.roam_mesh.proofs.SlotListLemmas.{distinct_front}
use Rattle.mesh_laws.proofs.ChiefLemmas.{chief_of-cases}
use Rattle.text_laws.proofs.TestLemmas.{by_bool}
use Rattle.std.proofs.Math.Bool.{or-false}

-- the last fresh slot has an entry
pub last_entry : (parts : PartsState) (rest : List ℕ) (s : ℕ) → IsParts parts → parts.fresh ≡ rest ++ (s ∷ []) →
    IsLive parts.pool.pairs s
last_entry parts rest s is last =
    entry_live parts.pool.pairs s (is.entries s (ap (λ l. among l s) last ∙ among_last rest s))

-- and is the next one
pub last_next : (pairs fresh rest : List ℕ) (s : ℕ) → fresh ≡ rest ++ (s ∷ []) →
    reverse (map (address_at pairs) fresh) ≡ address_at pairs s ∷ reverse (map (address_at pairs) rest)
last_next pairs fresh rest s last =
    ap (λ l. reverse (map (address_at pairs) l)) last ∙ ap reverse (map-append (address_at pairs) rest (s ∷ []))
    ∙ reverse-append (map (address_at pairs) rest) (address_at pairs s ∷ [])

-- the state with the last fresh slot read
abbrev with_read : PartsState → List ℕ → ℕ → Entry → Option ℕ → PartsState
with_read parts rest s e due = record parts {
  entries = slice_set parts.entries s e;
  due = slice_set parts.due s due;
  fresh = rest;
}

-- it is whole
pub read_whole : (parts : PartsState) (rest : List ℕ) (s : ℕ) (e : Entry) (due : Option ℕ) → IsWhole parts →
    parts.fresh ≡ rest ++ (s ∷ []) →
    e.fresh ≡ false → e.listed ≡ (entry_at parts s).listed → (e.known ≡ true → e.listed ≡ true) →
    IsWhole (with_read parts rest s e due)
read_whole parts rest s e due whole last stale listed known = record {
  few = whole.few;
  pairs = whole.pairs;
  root = whole.root;
  entries = length-set parts.entries s e ∙ whole.entries;
  split = whole.split;
  merge = whole.merge;
  due = length-set parts.due s due ∙ whole.due;
  asked = record {
    distinct = whole.asked.distinct;
    marked = λ r. same (λ f. f.listed) listed r ∙ whole.asked.marked r;
  };
  fresh = record { distinct = front.0; marked = fresh };
  known = λ r is. ⊎_elim
      (λ (own : eqb s r ≡ true).
      let here : slice_index_or (slice_set parts.entries s e) r blank ≡ e =
      entry_at-set parts.entries s e r below ∙ cond-true (eqb s r) e (entry_at parts r) own in
      ap (λ (f : Entry). f.listed) here ∙ known (sym (ap (λ (f : Entry). f.known) here) ∙ is))
      (λ (other : eqb s r ≡ false).
      let here : slice_index_or (slice_set parts.entries s e) r blank ≡ entry_at parts r =
      entry_at-set parts.entries s e r below ∙ cond-false (eqb s r) e (entry_at parts r) other in
      ap (λ (f : Entry). f.listed) here ∙ whole.known r (sym (ap (λ (f : Entry). f.known) here) ∙ is))
      (cases_Bool (eqb s r));
}
  where
    front : IsDistinct nat_eq rest × (among rest s ≡ false)
    front = distinct_front rest s (subst (IsDistinct nat_eq) last whole.fresh.distinct)

    below : s < length parts.entries
    below = listed_below parts.entries (λ f. f.fresh) parts.fresh s whole.fresh refl
        (ap (λ l. among l s) last ∙ among_last rest s)

    same : (mark : Entry → Bool) → mark e ≡ mark (entry_at parts s) → (r : ℕ) →
        mark (slice_index_or (slice_set parts.entries s e) r blank) ≡ mark (entry_at parts r)
    same mark own r = ap mark (entry_at-set parts.entries s e r below) ∙ ⊎_elim
        (λ (is : eqb s r ≡ true). ap mark (cond-true (eqb s r) e (entry_at parts r) is) ∙ own
        ∙ ap (λ z. mark (entry_at parts z)) (eqb-true s r is))
        (λ (other : eqb s r ≡ false). ap mark (cond-false (eqb s r) e (entry_at parts r) other))
        (cases_Bool (eqb s r))

    fresh : (r : ℕ) → (slice_index_or (slice_set parts.entries s e) r blank).fresh ≡ among rest r
    fresh r = ap (λ f. f.fresh) (entry_at-set parts.entries s e r below) ∙ ⊎_elim
        (λ (is : eqb s r ≡ true). ap (λ f. f.fresh) (cond-true (eqb s r) e (entry_at parts r) is) ∙ stale
        ∙ sym (subst (λ z. among rest z ≡ false) (eqb-true s r is) front.1))
        (λ (other : eqb s r ≡ false). ap (λ f. f.fresh) (cond-false (eqb s r) e (entry_at parts r) other)
        ∙ whole.fresh.marked r
        ∙ ap (λ l. among l r) last ∙ among-push rest s r ∙ ap (λ b. among rest r || (b || false)) other
        ∙ or-false (among rest r))
        (cases_Bool (eqb s r))

-- ---- putting a slot in its place

-- a key that comes
came_key : {A : Type 0} (xs : List (Option A)) (s r : ℕ) (was now : Bool) (key own : A) → s < length xs →
    slice_index_or xs r None ≡ cond was (Some key) None →
    (s ≡ r → (now ≡ true) × (own ≡ key)) → ((s ≡ r → ⊥) → now ≡ was) →
    slice_index_or (slice_set xs s (Some own)) r None ≡ cond now (Some key) None
came_key xs s r was now key own below is here other = by_bool (nat_eq s r)
    (λ same. let e = here (eqb-true s r same) in
    subst (λ q. slice_index_or (slice_set xs s (Some own)) q None ≡ Some own) (eqb-true s r same)
    (get_or-set_same xs s (Some own) None below)
    ∙ ap (λ k. Some k) e.1 ∙ sym (cond-true now (Some key) None e.0))
    (λ apart. get_or-set_other xs s r (Some own) None (λ e. eqb-false s r apart (sym e)) ∙ is
    ∙ ap (λ b. cond b (Some key) None) (sym (other (eqb-false s r apart))))

-- a slot less that is out
out_less : (out : ℕ → Bool) (s r : ℕ) → with_triangle out s r ≡ false → out r ≡ false
out_less out s r in_place = (or_parts (out r) (nat_eq s r) in_place).0

out_more : (out : ℕ → Bool) (s r : ℕ) → out r ≡ false → (s ≡ r → ⊥) → with_triangle out s r ≡ false
out_more out s r in_place other = or_from (out r) (nat_eq s r) in_place (ne_eqb s r other)

out_same : (out : ℕ → Bool) (s r : ℕ) → (s ≡ r → ⊥) → out r ≡ with_triangle out s r
out_same out s r other = sym (ap (λ b. out r || b) (ne_eqb s r other) ∙ or-false (out r))

module _ (n : ℕ) (pairs : List ℕ) (out : ℕ → Bool) (s : ℕ) (pool : IsPool n pairs) (own : out s ≡ false) where
  -- a diamond in its place is in it with one slot less out
  chief_less : (r : ℕ) → IsChiefIn pairs (with_triangle out s) r → IsChiefIn pairs out r
  chief_less r is = record {
    ready = is.ready;
    chief = is.chief;
    own = out_less out s r is.own;
    mate = λ some. out_less out s (slot_of pairs (mate_of (address_at pairs r))) (is.mate some);
  }

  -- and with one more, where that is none of its slots
  chief_more : (r : ℕ) → IsChiefIn pairs out r → (s ≡ r → ⊥) →
      (1 ≤ mate_of (address_at pairs r) → s ≡ slot_of pairs (mate_of (address_at pairs r)) → ⊥) →
      IsChiefIn pairs (with_triangle out s) r
  chief_more r is other apart = record {
    ready = is.ready;
    chief = is.chief;
    own = out_more out s r is.own other;
    mate = λ some. out_more out s (slot_of pairs (mate_of (address_at pairs r))) (is.mate some) (apart some);
  }

  -- the two tests agree
  chief_test : (r : ℕ) → (IsChiefIn pairs out r → IsChiefIn pairs (with_triangle out s) r) →
      (is_chief_at pairs r && not (is_out pairs out r))
      ≡ (is_chief_at pairs r && not (is_out pairs (with_triangle out s) r))
  chief_test r more = same_tests (is_chief_at pairs r && not (is_out pairs out r))
      (is_chief_at pairs r && not (is_out pairs (with_triangle out s) r))
      (λ is. in_chief pairs (with_triangle out s) r (more (chief_in pairs out r is)))
      (λ is. in_chief pairs out r (chief_less r (chief_in pairs (with_triangle out s) r is)))

  -- a leaf is no slot of a diamond
  leaf_chief : (r : ℕ) → is_leaf_at pairs s ≡ true → IsChiefIn pairs out r → IsChiefIn pairs (with_triangle out s) r
  leaf_chief r leaf is = chief_more r is (leaf_apart pairs s r leaf is.ready)
      (λ some. leaf_apart pairs s (slot_of pairs (mate_of (address_at pairs r))) leaf
      (ready_mate n pairs r pool is.ready some).0)

  -- the diamond of s stands under its chief alone
  other_chief : (r : ℕ) → (chief_slot pairs s ≡ r → ⊥) → IsChiefIn pairs out r → IsChiefIn pairs (with_triangle out s) r
  other_chief r other is =
      let test = and_from (is_ready_at pairs r) (nat_eq (chief_of (address_at pairs r)) (address_at pairs r)) is.ready
      (eq-eqb (chief_of (address_at pairs r)) (address_at pairs r) is.chief) in
      let apart = chief_apart n pairs s r pool test other in
      chief_more r is apart.0 apart.1

  -- while the mate is out, the diamond is
  waiting_chief : (r : ℕ) → is_ready_at pairs s ≡ true → 1 ≤ mate_of (address_at pairs s) →
      out (slot_of pairs (mate_of (address_at pairs s))) ≡ true →
      IsChiefIn pairs out r → IsChiefIn pairs (with_triangle out s) r
  waiting_chief r ready some away is =
      let live = ready_live pairs r is.ready in
      chief_more r is
      (λ same. both_ways (out (slot_of pairs (mate_of (address_at pairs s))))
      (ap (λ z. out (slot_of pairs (mate_of (address_at pairs z)))) same
      ∙ is.mate (subst (λ z. 1 ≤ mate_of (address_at pairs z)) same some)) away)
      (λ there same.
      let back : mate_of (address_at pairs s) ≡ address_at pairs r =
      ap mate_of (ap (address_at pairs) same ∙ (ready_mate n pairs r pool is.ready there).1)
      ∙ mate_of-back (address_at pairs r) live there in
      both_ways (out (slot_of pairs (mate_of (address_at pairs s))))
      (ap out (ap (slot_of pairs) back ∙ slot_of-at n pairs r pool live) ∙ is.own) away)

  -- and else it stands under its chief
  own_chief : is_ready_at pairs s ≡ true →
      (1 ≤ mate_of (address_at pairs s) → out (slot_of pairs (mate_of (address_at pairs s))) ≡ false) →
      IsChiefIn pairs out (chief_slot pairs s)
  own_chief ready both =
      let live = ready_live pairs s ready in
      let slot = slot_of-at n pairs s pool live in
      let head = chief_ready n pairs s pool ready in
      let parts = and_parts (is_ready_at pairs (chief_slot pairs s))
      (nat_eq (chief_of (address_at pairs (chief_slot pairs s))) (address_at pairs (chief_slot pairs s))) head.0 in
      let tests = ⊎_elim
      (λ (self : chief_of (address_at pairs s) ≡ address_at pairs s).
      let here : chief_slot pairs s ≡ s = ap (slot_of pairs) self ∙ slot in
      let pair : (out (chief_slot pairs s) ≡ false) × (1 ≤ mate_of (address_at pairs (chief_slot pairs s)) →
      out (slot_of pairs (mate_of (address_at pairs (chief_slot pairs s)))) ≡ false) =
      subst (λ z. (out z ≡ false) × (1 ≤ mate_of (address_at pairs z) →
      out (slot_of pairs (mate_of (address_at pairs z))) ≡ false)) (sym here) (own, both) in
      pair)
      (λ (mate : (1 ≤ mate_of (address_at pairs s)) × (chief_of (address_at pairs s) ≡ mate_of (address_at pairs s))).
      let back : mate_of (address_at pairs (chief_slot pairs s)) ≡ address_at pairs s =
      ap mate_of (head.1 ∙ mate.1) ∙ mate_of-back (address_at pairs s) live mate.0 in
      (ap out (ap (slot_of pairs) mate.1) ∙ both mate.0, λ _. ap out (ap (slot_of pairs) back ∙ slot) ∙ own))
      (chief_of-cases (address_at pairs s)) in
      record {
        ready = parts.0;
        chief =
            eqb-true (chief_of (address_at pairs (chief_slot pairs s))) (address_at pairs (chief_slot pairs s)) parts.1;
        own = tests.0;
        mate = tests.1;
      }

-- what putting in does by cases
abbrev put_leaf : PartsState → ℕ → PartsState
put_leaf p s = record p { split = slice_set p.split s (Some (leaf_rank p s)) }

abbrev put_diamond : PartsState → ℕ → PartsState
put_diamond p s = record p {
  merge = slice_set p.merge (chief_slot p.pool.pairs s) (Some (diamond_rank p (chief_of (address_at p.pool.pairs s))));
}

put_in-leaf : (p : PartsState) (s : ℕ) → is_leaf_at p.pool.pairs s ≡ true → put_in p s ≡ put_leaf p s
put_in-leaf p s leaf =
    cond-true (is_leaf_at p.pool.pairs s || cond (is_mate_fresh p s) false true) (rekeyed p s) p
    (or_left (is_leaf_at p.pool.pairs s) (cond (is_mate_fresh p s) false true) leaf) ∙ ap (rekeyed_as p s) leaf

put_in-diamond : (p : PartsState) (s : ℕ) → is_leaf_at p.pool.pairs s ≡ false → is_mate_fresh p s ≡ false →
    put_in p s ≡ put_diamond p s
put_in-diamond p s whole stale =
    cond-true (is_leaf_at p.pool.pairs s || cond (is_mate_fresh p s) false true) (rekeyed p s) p
    (or_right (is_leaf_at p.pool.pairs s) (cond (is_mate_fresh p s) false true) (ap (λ b. cond b false true) stale))
    ∙ ap (rekeyed_as p s) whole

put_in-waits : (p : PartsState) (s : ℕ) → is_leaf_at p.pool.pairs s ≡ false → is_mate_fresh p s ≡ true → put_in p s ≡ p
put_in-waits p s whole waits =
    cond-false (is_leaf_at p.pool.pairs s || cond (is_mate_fresh p s) false true) (rekeyed p s) p
    (or_from (is_leaf_at p.pool.pairs s) (cond (is_mate_fresh p s) false true) whole
    (ap (λ b. cond b false true) waits))

-- what is put in is in its place, and all that was in its place stays there
put_placed : (p : PartsState) (due : List (Option ℕ)) (out : ℕ → Bool) (s : ℕ) → IsPool p.pool.n p.pool.pairs →
    is_entry_at p.pool.pairs s ≡ true → out s ≡ false →
    s < length p.split → length p.merge ≡ 2 * length p.pool.pairs → s < length due →
    p.due ≡ slice_set due s (Some (deadline_of (entry_at p s))) →
    is_mate_fresh p s ≡ (nat_lt 0 (mate_of (address_at p.pool.pairs s)) && out
    (slot_of p.pool.pairs (mate_of (address_at p.pool.pairs s)))) →
    IsPlaced (record p { due = due }) (with_triangle out s) → IsPlaced (put_in p s) out
put_placed p due out s pool entry own below_split size below_due due_is waits placed = ⊎_elim
    (λ (leaf : is_leaf_at pairs s ≡ true). subst (λ q. IsPlaced q out) (sym (put_in-leaf p s leaf)) (record {
      split = λ r. came_key p.split s r (is_leaf_at pairs r && not (with_triangle out s r))
          (is_leaf_at pairs r && not (out r)) (leaf_rank p r) (leaf_rank p s) below_split (placed.split r)
          (λ same. (in_place is_leaf_at r leaf same, ap (leaf_rank p) same))
          (λ other. ap (λ b. is_leaf_at pairs r && not b) (out_same out s r other));
      merge = λ r. placed.merge r ∙ ap (λ b. cond b (Some (diamond_rank p (address_at pairs r))) None)
          (sym (chief_test n pairs out s pool own r (leaf_chief n pairs out s pool own r leaf)));
      due = come_due;
      stamped = placed.stamped;
      known = placed.known;
    }))
    (λ (diamond : (is_leaf_at pairs s ≡ false) × (is_ready_at pairs s ≡ true)). by_bool (is_mate_fresh p s)
    (λ fresh.
    let both = and_parts (nat_lt 0 (mate_of (address_at pairs s)))
    (out (slot_of pairs (mate_of (address_at pairs s)))) (sym waits ∙ fresh) in
    subst (λ q. IsPlaced q out) (sym (put_in-waits p s diamond.0 fresh)) (record {
      split =
          λ r. placed.split r
          ∙ ap (λ b. cond b (Some (leaf_rank p r)) None) (role_none (is_leaf_at pairs) out s r diamond.0);
      merge = λ r. placed.merge r ∙ ap (λ b. cond b (Some (diamond_rank p (address_at pairs r))) None)
          (sym (chief_test n pairs out s pool own r (waiting_chief n pairs out s pool own r diamond.1
          (ltb-true 0 (mate_of (address_at pairs s)) both.0) both.1)));
      due = come_due;
      stamped = placed.stamped;
      known = placed.known;
    }))
    (λ stale.
    let none : 1 ≤ mate_of (address_at pairs s) → out (slot_of pairs (mate_of (address_at pairs s))) ≡ false =
    λ some. sym (ap (λ b. b && out (slot_of pairs (mate_of (address_at pairs s))))
    (lt-ltb 0 (mate_of (address_at pairs s)) some)) ∙ sym waits ∙ stale in
    let head = own_chief n pairs out s pool own diamond.1 none in
    let test = in_chief pairs out (chief_slot pairs s) head in
    let at = (chief_ready n pairs s pool diamond.1).1 in
    let below = live_below pairs (chief_slot pairs s) (ready_live pairs (chief_slot pairs s) head.ready) in
    subst (λ q. IsPlaced q out) (sym (put_in-diamond p s diamond.0 stale)) (record {
      split =
          λ r. placed.split r
          ∙ ap (λ b. cond b (Some (leaf_rank p r)) None) (role_none (is_leaf_at pairs) out s r diamond.0);
      merge = λ r. came_key p.merge (chief_slot pairs s) r (is_chief_at pairs r && not
          (is_out pairs (with_triangle out s) r)) (is_chief_at pairs r && not (is_out pairs out r))
          (diamond_rank p (address_at pairs r)) (diamond_rank p (chief_of (address_at pairs s)))
          (omega arith) (placed.merge r)
          (λ same. (
            subst (λ z. (is_chief_at pairs z && not (is_out pairs out z)) ≡ true) same test,
            ap (diamond_rank p) (sym at ∙ ap (address_at pairs) same),
          ))
          (λ other. chief_test n pairs out s pool own r (other_chief n pairs out s pool own r other));
      due = come_due;
      stamped = placed.stamped;
      known = placed.known;
    })))
    (entry_cases pairs s entry)
  where
    pairs : List ℕ
    pairs = p.pool.pairs

    n : ℕ
    n = p.pool.n

    in_place : (role : List ℕ → ℕ → Bool) (r : ℕ) → role pairs s ≡ true → s ≡ r → (role pairs r && not (out r)) ≡ true
    in_place role r has same = and_from (role pairs r) (not (out r)) (ap (role pairs) (sym same) ∙ has)
        (not_from_false (out r) (ap out (sym same) ∙ own))

    come_due : (r : ℕ) →
        slice_index_or p.due r None ≡ cond (is_entry_at pairs r && not (out r)) (Some (deadline_of (entry_at p r))) None
    come_due r = ap (λ l. slice_index_or l r None) due_is
        ∙ came_key due s r (is_entry_at pairs r && not (with_triangle out s r)) (is_entry_at pairs r && not (out r))
        (deadline_of (entry_at p r)) (deadline_of (entry_at p s)) below_due (placed.due r)
        (λ same. (in_place is_entry_at r entry same, ap (λ z. deadline_of (entry_at p z)) same))
        (λ other. ap (λ b. is_entry_at pairs r && not b) (out_same out s r other))

-- ---- entering

-- putting in changes nothing but the queues
pub put_in-pool : (p : PartsState) (s : ℕ) → (put_in p s).pool ≡ p.pool
put_in-pool p s =
    cond_both (is_leaf_at p.pool.pairs s || cond (is_mate_fresh p s) false true) (rekeyed p s) p
    (λ q. q.pool ≡ p.pool) (λ _. refl) (λ _. refl)

put_in-fresh : (p : PartsState) (s : ℕ) → (put_in p s).fresh ≡ p.fresh
put_in-fresh p s =
    cond_both (is_leaf_at p.pool.pairs s || cond (is_mate_fresh p s) false true) (rekeyed p s) p
    (λ q. q.fresh ≡ p.fresh) (λ _. refl) (λ _. refl)

put_in-seen : (p : PartsState) (s : ℕ) → seen_parts (put_in p s) ≡ seen_parts p
put_in-seen p s =
    cond_both (is_leaf_at p.pool.pairs s || cond (is_mate_fresh p s) false true) (rekeyed p s) p
    (λ q. seen_parts q ≡ seen_parts p) (λ _. refl) (λ _. refl)

cond-map : {A B : Type 0} (f : A → B) (b : Bool) (x y : A) → f (cond b x y) ≡ cond b (f x) (f y)
cond-map f true x y = refl
cond-map f false x y = refl

-- the places do not depend on the list of fresh slots
refreshed : (p : PartsState) (fresh : List ℕ) (out : ℕ → Bool) → IsPlaced p out →
    IsPlaced (record p { fresh = fresh }) out
refreshed p fresh out placed = record {
  split = placed.split;
  merge = placed.merge;
  due = placed.due;
  stamped = placed.stamped;
  known = placed.known;
}

-- what is kept of a slot after one has another stamp
near_set : (parts : PartsState) (s : ℕ) (e : Entry) → s < length parts.entries → IsNear e →
    ((r : ℕ) → IsNear (entry_at parts r)) → (r : ℕ) → IsNear (slice_index_or (slice_set parts.entries s e) r blank)
near_set parts s e below near all r =
    subst IsNear (sym (entry_at-set parts.entries s e r below))
    (cond_both (nat_eq s r) e (entry_at parts r) IsNear (λ _. near) (λ _. all r))

-- what is kept of a slot after it was put in
put_in-entry : (p : PartsState) (s r : ℕ) → entry_at (put_in p s) r ≡ entry_at p r
put_in-entry p s r =
    cond_both (is_leaf_at p.pool.pairs s || cond (is_mate_fresh p s) false true) (rekeyed p s) p
    (λ q. entry_at q r ≡ entry_at p r) (λ _. refl) (λ _. refl)

-- putting in leaves all whole
put_whole : (p : PartsState) (s : ℕ) → IsWhole p → IsWhole (put_in p s)
put_whole p s whole =
    cond_both (is_leaf_at p.pool.pairs s || cond (is_mate_fresh p s) false true) (rekeyed p s) p IsWhole
    (λ _. record {
      few = whole.few;
      pairs = whole.pairs;
      root = whole.root;
      entries = whole.entries;
      split = (length-cond_set (is_leaf_at p.pool.pairs s) p.split s (Some (leaf_rank p s))).0 ∙ whole.split;
      merge = (length-cond_set (is_leaf_at p.pool.pairs s) p.merge (chief_slot p.pool.pairs s)
          (Some (diamond_rank p (chief_of (address_at p.pool.pairs s))))).1 ∙ whole.merge;
      due = whole.due;
      asked = whole.asked;
      fresh = whole.fresh;
      known = whole.known;
    })
    (λ _. whole)

-- what seating the last fresh slot does: pool and lists stay but for that slot, which has what was kept of it
pub record HasSeated (before after : PartsState) (rest : List ℕ) (s : ℕ) (e : Entry) : Type 0 where
  pub pool : after.pool ≡ before.pool
  pub fresh : after.fresh ≡ rest
  pub whole : IsWhole after
  pub parts : IsParts after
  pub entries : (r : ℕ) → entry_at after r ≡ cond (nat_eq s r) e (entry_at before r)

-- so all entries are in their places but those that are still fresh
pub seated_has : (parts : PartsState) (rest : List ℕ) (s : ℕ) (e : Entry) → IsWhole parts → CanTakeBack parts rest s e →
    HasSeated parts (seated parts rest s e) rest s e
seated_has parts rest s e whole can = record {
  pool = put_in-pool middle s;
  fresh = put_in-fresh middle s;
  whole = put_whole middle s whole_after;
  parts = record {
    pool = subst (λ (q : PoolState). IsPool q.n q.pairs) (sym (put_in-pool middle s)) is.pool;
    near = λ r. subst IsNear (sym (put_in-entry middle s r)) (near_set parts s e below can.near is.near r);
    placed = subst (λ l. IsPlaced (put_in middle s) (among l)) (sym (put_in-fresh middle s)) placed;
    entries = λ r listed. subst (λ (q : PoolState). is_entry_at q.pairs r ≡ true) (sym (put_in-pool middle s))
        (is.entries r (ap (λ l. among l r) last ∙ among-push rest s r
        ∙ or_left (among rest r) (among (s ∷ []) r) (ap (λ l. among l r) (sym (put_in-fresh middle s)) ∙ listed)));
  };
  entries = λ r. put_in-entry middle s r ∙ entry_at-set parts.entries s e r below;
}
  where
    is : IsParts parts
    is = can.parts_are

    last : parts.fresh ≡ rest ++ (s ∷ [])
    last = can.last

    middle : PartsState
    middle = with_read parts rest s e (Some (deadline_of e))

    there : among parts.fresh s ≡ true
    there = ap (λ l. among l s) last ∙ among_last rest s

    entry : is_entry_at parts.pool.pairs s ≡ true
    entry = is.entries s there

    below : s < length parts.entries
    below = listed_below parts.entries (λ f. f.fresh) parts.fresh s whole.fresh refl there

    whole_after : IsWhole middle
    whole_after = read_whole parts rest s e (Some (deadline_of e)) whole last can.stale can.listed can.known

    front : IsDistinct nat_eq rest × (among rest s ≡ false)
    front = distinct_front rest s (subst (IsDistinct nat_eq) last whole.fresh.distinct)

    tests : (r : ℕ) → with_triangle (among rest) s r ≡ among parts.fresh r
    tests r = sym (ap (λ l. among l r) last ∙ among-push rest s r ∙ ap (λ b. among rest r || b) (or-false (nat_eq s r)))

    before : IsPlaced (record parts { entries = slice_set parts.entries s e }) (with_triangle (among rest) s)
    before = placed_same (record parts { entries = slice_set parts.entries s e }) (among parts.fresh)
        (with_triangle (among rest) s) tests
        (away_placed parts (among parts.fresh) s e is.pool below entry there is.placed)

    own_entry : entry_at middle s ≡ e
    own_entry = entry_at-set parts.entries s e s below ∙ cond-true (nat_eq s s) e (entry_at parts s) (eq-eqb s s refl)

    size : s < 2 * length parts.pool.pairs
    size = let long = whole.entries in let small = below in omega arith

    placed : IsPlaced (put_in middle s) (among rest)
    placed = put_placed middle parts.due (among rest) s is.pool entry front.1 (let long = whole.split in
        let small = size in omega arith) whole.merge (let long = whole.due in let small = size in omega arith)
        (ap (λ (f : Entry). slice_set parts.due s (Some (deadline_of f))) (sym own_entry))
        (ap (λ b. nat_lt 0 (mate_of (address_at parts.pool.pairs s)) && b)
        (whole_after.fresh.marked (slot_of parts.pool.pairs (mate_of (address_at parts.pool.pairs s)))))
        (refreshed (record parts { entries = slice_set parts.entries s e }) rest (with_triangle (among rest) s) before)

-- two lists that end with one number each and are equal are equal in both parts
pub last_same : (xs ys : List ℕ) (a b : ℕ) → xs ++ (a ∷ []) ≡ ys ++ (b ∷ []) → (xs ≡ ys) × (a ≡ b)
last_same [] [] a b same = (refl, heads a b [] [] same)
  where
    heads : (a b : ℕ) (xs ys : List ℕ) → a ∷ xs ≡ b ∷ ys → a ≡ b
    heads a b xs ys same = cc
last_same [] (y ∷ ys) a b same =
    absurd (let short : length (a ∷ []) ≡ length (y ∷ (ys ++ (b ∷ []))) = ap (λ (l : List ℕ). length l) same in
    let long = length-append ys (b ∷ []) in let e : ⊥ = omega arith in e)
last_same (x ∷ xs) [] a b same =
    absurd (let short : length (x ∷ (xs ++ (a ∷ []))) ≡ length (b ∷ []) = ap (λ (l : List ℕ). length l) same in
    let long = length-append xs (a ∷ []) in let e : ⊥ = omega arith in e)
last_same (x ∷ xs) (y ∷ ys) a b same =
    let rest = last_same xs ys a b (tails x y (xs ++ (a ∷ [])) (ys ++ (b ∷ [])) same) in
    (ap₂ (λ z zs. z ∷ zs) (heads x y (xs ++ (a ∷ [])) (ys ++ (b ∷ [])) same) rest.0, rest.1)
  where
    heads : (a b : ℕ) (xs ys : List ℕ) → a ∷ xs ≡ b ∷ ys → a ≡ b
    heads a b xs ys same = cc

    tails : (a b : ℕ) (xs ys : List ℕ) → a ∷ xs ≡ b ∷ ys → xs ≡ ys
    tails a b xs ys same = cc

-- the last one of an array of fresh slots can have back what was kept of it, where the last one of the parts can
pub back_last : (parts old : PartsState) (items : List Slot) (count : ℕ) (s : Slot) (was : Entry) → parts ≡ old →
    parts.fresh ≡ map (λ t. t.0) (take count items) → count ≤ length items →
    s ≡ slice_index_or items (count - 1) s → ((rest : List ℕ) × (t : ℕ) × CanTakeBack old rest t was) →
    (1 ≤ count) × CanTakeBack parts (map (λ t. t.0) (take (count - 1) items)) s.0 was
back_last parts old items count s was same fresh within at can =
    let back = can.2 in
    let long : length (map (λ (t : Slot). t.0) (take count items)) ≡ length (can.0 ++ (can.1 ∷ [])) =
    ap (λ (l : List ℕ). length l) (sym fresh ∙ ap (λ (p : PartsState). p.fresh) same ∙ back.last) in
    let counted = numbers_count items count within in
    let sum = length-append can.0 (can.1 ∷ []) in
    let some : 1 ≤ count = omega arith in
    let last : parts.fresh ≡ map (λ (t : Slot). t.0) (take (count - 1) items) ++ (s.0 ∷ []) =
    fresh ∙ numbers_pop items count s some within at in
    let both = last_same (map (λ (t : Slot). t.0) (take (count - 1) items)) can.0 s.0 can.1
    (sym last ∙ ap (λ (p : PartsState). p.fresh) same ∙ back.last) in (
      some,
      record {
        parts_are = subst IsParts (sym same) back.parts_are;
        last = last;
        near = back.near;
        stale = back.stale;
        listed = back.listed ∙ ap₂ (λ (p : PartsState) (r : ℕ). (entry_at p r).listed) (sym same) (sym both.1);
        known = back.known;
      },
    )

-- the same for any way to say which one is last
pub seated_same : (parts old : PartsState) (front rest : List ℕ) (s t : ℕ) (was : Entry) → parts ≡ old →
    parts.fresh ≡ front ++ (s ∷ []) → old.fresh ≡ rest ++ (t ∷ []) →
    seated parts front s was ≡ seated old rest t was
seated_same parts old front rest s t was same here there =
    let both = last_same front rest s t (sym here ∙ ap (λ (p : PartsState). p.fresh) same ∙ there) in
    ap (λ p. seated p front s was) same ∙ ap₂ (λ l r. seated old l r was) both.0 both.1

-- and so they are after an entering
pub entered_parts : (parts : PartsState) (rest : List ℕ) (s : ℕ) (reading : Reading) (odometer : ℕ) → IsWhole parts →
    IsParts parts → parts.fresh ≡ rest ++ (s ∷ []) →
    odometer ≤ 2 ^ 62 → reading.slack ≤ 2 ^ 32 → IsParts (entered parts rest s reading odometer)
entered_parts parts rest s reading odometer whole is last far small =
    (seated_has parts rest s (read_entry (entry_at parts s) reading odometer) whole record {
      parts_are = is;
      last = last;
      near = (far, small);
      stale = refl;
      listed = refl;
      known = whole.known s;
    }).parts

-- and the loop sees it entered
pub entered_seen : (parts : PartsState) (rest : List ℕ) (s : ℕ) (reading : Reading) (odometer : ℕ) → IsWhole parts →
    IsParts parts → parts.fresh ≡ rest ++ (s ∷ []) →
    IsEntered (seen_parts parts) (seen_parts (entered parts rest s reading odometer))
    (address_at parts.pool.pairs s) reading odometer
entered_seen parts rest s reading odometer whole is last =
    subst (λ seen. IsEntered (seen_parts parts) seen (address_at parts.pool.pairs s) reading odometer)
    (sym (put_in-seen middle s)) (record {
      set = refl;
      fresh = last_next parts.pool.pairs parts.fresh rest s last;
      known = λ a. same (λ f. f.known) refl (slot_of parts.pool.pairs a);
      exact = λ a. exact (slot_of parts.pool.pairs a);
      stamp = λ a. ap stamp_in (entry_of-set parts.pool.n parts.pool.pairs parts.entries s e a is.pool live below)
          ∙ cond-map stamp_in (nat_eq (address_at parts.pool.pairs s) a) e (entry_of parts a);
    })
  where
    e : Entry
    e = read_entry (entry_at parts s) reading odometer

    middle : PartsState
    middle = with_read parts rest s e (Some (odometer + reading.slack + 1))

    there : among parts.fresh s ≡ true
    there = ap (λ l. among l s) last ∙ among_last rest s

    live : IsLive parts.pool.pairs s
    live = entry_live parts.pool.pairs s (is.entries s there)

    below : s < length parts.entries
    below = listed_below parts.entries (λ f. f.fresh) parts.fresh s whole.fresh refl there

    same : (mark : Entry → Bool) → mark e ≡ mark (entry_at parts s) → (r : ℕ) →
        mark (slice_index_or (slice_set parts.entries s e) r blank) ≡ mark (entry_at parts r)
    same mark own r = ap mark (entry_at-set parts.entries s e r below) ∙ by_bool (nat_eq s r)
        (λ (is : eqb s r ≡ true). ap mark (cond-true (eqb s r) e (entry_at parts r) is) ∙ own
        ∙ ap (λ z. mark (entry_at parts z)) (eqb-true s r is))
        (λ (other : eqb s r ≡ false). ap mark (cond-false (eqb s r) e (entry_at parts r) other))

    exact : (r : ℕ) → (slice_index_or (slice_set parts.entries s e) r blank).exact ≡ (entry_at parts r).exact
    exact r = ap (λ (f : Entry). f.exact) (entry_at-set parts.entries s e r below) ∙ by_bool (nat_eq s r)
        (λ (is : eqb s r ≡ true). ap (λ (f : Entry). f.exact) (cond-true (eqb s r) e (entry_at parts r) is)
        ∙ ap (λ z. (entry_at parts z).exact) (eqb-true s r is))
        (λ (other : eqb s r ≡ false). ap (λ (f : Entry). f.exact) (cond-false (eqb s r) e (entry_at parts r) other))
