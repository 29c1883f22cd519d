-- What a listing of slots as fresh does.
use Rattle.std.proofs.Common.{◌≡◌, ℕ, ◌+◌, ◌*◌, ◌<◌, ◌||◌, Bool, true, false, not, ◌&&◌, cond, eqb, nat_eq, List, []}
use Rattle.std.proofs.Common.{◌∷◌, ◌++◌, length, map, take, All, Option, None, Some, slice_index_or, slice_set}
use Rattle.std.proofs.Common.{length-set, refl, sym, ◌∙◌, ap, ap₂, subst, ⊎_elim}
use Rattle.std.proofs.lemmas.Bool.{cases_Bool, cond-true, cond-false, cond_both, eqb-true, or_left, or_right}
use Rattle.std.proofs.lemmas.Cmp.{nat_eq_equiv}
use Rattle.std.proofs.lemmas.List.Elements.{All-head, All-tail}
use Rattle.std.proofs.lemmas.Map.Keys.{IsDistinct-push}
use Rattle.mesh_defs.specs.ClosedSet.{among}
use Rattle.mesh_laws.specs.Edge.{mate_of}
use Rattle.mesh_laws.specs.Slots.{address_at}
use Rattle.bintree_addr.specs.declared.rank.Rank.{Rank}
use Rattle.bintree_addr.specs.declared.slot.Slot.{Slot}
use Rattle.triangle_pool.specs.Slots.{PoolState}
use Rattle.roam_mesh.specs.Mesh.{slot_of}
use Rattle.roam_mesh.specs.Parts.{PartsState, blank, best_of, merging_key, deadline_of, entry_at, is_leaf_at}
use Rattle.roam_mesh.specs.Parts.{is_chief_at, is_entry_at, is_out, worst_rank, better_of, diamond_rank, IsWhole}
use Rattle.roam_mesh.specs.Parts.{IsPlaced, parts_of}
use Rattle.roam_mesh.specs.Change.{pushed, pushed_all}
use Rattle.roam_mesh.specs.declared.entry.Entry.{Entry}
use Rattle.roam_mesh.proofs.PlaceLemmas.{entry_at-set}
use Rattle.roam_mesh.proofs.SlotListLemmas.{any-among, among-push, numbers_push}
use Rattle.std.proofs.Math.Bool.{or-false, or_assoc}

-- two lists that are listed one after the other are listed as one
pub pushed_all-append : (parts : PartsState) (xs ys : List ℕ) →
    pushed_all parts (xs ++ ys) ≡ pushed_all (pushed_all parts xs) ys
pushed_all-append parts [] ys = refl
pushed_all-append parts (s ∷ xs) ys = pushed_all-append (pushed parts s) xs ys

-- what is kept is changed in the mark alone
abbrev marked : Entry → Bool → Entry
marked e b = record e { fresh = b }

-- one slot more
abbrev pushed_one : PartsState → ℕ → PartsState
pushed_one parts s = record parts {
  entries = slice_set parts.entries s (marked (entry_at parts s) true);
  fresh = parts.fresh ++ (s ∷ []);
}

-- a listing changes nothing in the pool
pub pushed-pool : (parts : PartsState) (s : ℕ) → (pushed parts s).pool ≡ parts.pool
pushed-pool parts s =
    cond_both (entry_at parts s).fresh parts (pushed_one parts s)
    (λ after. after.pool ≡ parts.pool) (λ _. refl) (λ _. refl)

-- nor does one of many slots
pub pushed_all-pool : (parts : PartsState) (slots : List ℕ) → (pushed_all parts slots).pool ≡ parts.pool
pushed_all-pool parts [] = refl
pushed_all-pool parts (s ∷ more) = pushed_all-pool (pushed parts s) more ∙ pushed-pool parts s

-- a slot that was not fresh is the last one
pub pushed-fresh : (parts : PartsState) (s : ℕ) → (entry_at parts s).fresh ≡ false →
    (pushed parts s).fresh ≡ parts.fresh ++ (s ∷ [])
pushed-fresh parts s new =
    ap (λ (p : PartsState). p.fresh) (cond-false (entry_at parts s).fresh parts (pushed_one parts s) new)

-- what a listing of slots as fresh does: pool and heaps stay, what is kept changes in the mark alone, and these slots
-- are fresh too
pub record HasPushed (before after : PartsState) (slots : List ℕ) : Type 0 where
  pub pool : after.pool ≡ before.pool
  pub split : after.split ≡ before.split
  pub merge : after.merge ≡ before.merge
  pub due : after.due ≡ before.due
  pub asked : after.asked ≡ before.asked
  pub whole : IsWhole after
  pub entries : (r : ℕ) → entry_at after r ≡ record (entry_at before r) { fresh = among after.fresh r }
  pub fresh : (r : ℕ) → among after.fresh r ≡ (among before.fresh r || among slots r)
  pub placed : (out : ℕ → Bool) → IsPlaced before out → IsPlaced after out

cons_or : (a b : Bool) → (a || b) ≡ ((a || false) || b)
cons_or true b = refl
cons_or false b = refl

-- where no more than that mark changes, the places stay
marked_placed : (parts : PartsState) (entries : List Entry) (fresh : List ℕ) (out : ℕ → Bool) →
    ((r : ℕ) → slice_index_or entries r blank ≡ marked (entry_at parts r) (among fresh r)) →
    IsPlaced parts out → IsPlaced (record parts { entries = entries; fresh = fresh }) out
marked_placed parts entries fresh out same placed = record {
  split = λ s. placed.split s ∙ ap (λ p. cond (is_leaf_at parts.pool.pairs s && not (out s))
      (Some (record { p = p; tri = address_at parts.pool.pairs s })) None) (sym (best s));
  merge = λ s. placed.merge s ∙ ap (λ q. cond (is_chief_at parts.pool.pairs s && not (is_out parts.pool.pairs out s))
      (Some q) None) (sym (rank (address_at parts.pool.pairs s)));
  due = λ s. placed.due s
      ∙ ap (λ d. cond (is_entry_at parts.pool.pairs s && not (out s)) (Some d) None) (sym (ap deadline_of (same s)));
  stamped = λ s is. placed.stamped s (sym (ap (λ e. e.stamped) (same s)) ∙ is);
  known = λ s is. placed.known s (sym (ap (λ e. e.known) (same s)) ∙ is);
}
  where
    best : (s : ℕ) → best_of (slice_index_or entries s blank) ≡ best_of (entry_at parts s)
    best s = ap best_of (same s)

    worst : (a : ℕ) → worst_rank (record parts { entries = entries; fresh = fresh }) a ≡ worst_rank parts a
    worst a = ap (λ e. record { p = merging_key e; tri = a }) (same (slot_of parts.pool.pairs a))

    rank : (a : ℕ) → diamond_rank (record parts { entries = entries; fresh = fresh }) a ≡ diamond_rank parts a
    rank a = ap₂ (λ q r. cond (nat_eq (mate_of a) 0) q (better_of q r)) (worst a) (worst (mate_of a))

pushed_one_has : (parts : PartsState) (s : ℕ) → IsWhole parts → s < length parts.entries →
    (entry_at parts s).fresh ≡ false → HasPushed parts (pushed_one parts s) (s ∷ [])
pushed_one_has parts s whole below new = record {
  pool = refl;
  split = refl;
  merge = refl;
  due = refl;
  asked = refl;
  whole = record {
    few = whole.few;
    pairs = whole.pairs;
    root = whole.root;
    entries = length-set parts.entries s (marked (entry_at parts s) true) ∙ whole.entries;
    split = whole.split;
    merge = whole.merge;
    due = whole.due;
    asked = record {
      distinct = whole.asked.distinct;
      marked = λ r. ap (λ e. e.listed) (entry r) ∙ whole.asked.marked r;
    };
    fresh = record {
      distinct = IsDistinct-push nat_eq_equiv parts.fresh s whole.fresh.distinct
          (any-among s parts.fresh ∙ sym (whole.fresh.marked s) ∙ new);
      marked = λ r. ap (λ e. e.fresh) (entry r);
    };
    known = λ r is. ap (λ e. e.listed) (entry r) ∙ whole.known r (sym (ap (λ e. e.known) (entry r)) ∙ is);
  };
  entries = entry;
  fresh = among-push parts.fresh s;
  placed = λ out placed. marked_placed parts (slice_set parts.entries s (marked (entry_at parts s) true))
      (parts.fresh ++ (s ∷ [])) out entry placed;
}
  where
    entry : (r : ℕ) → slice_index_or (slice_set parts.entries s (marked (entry_at parts s) true)) r blank
        ≡ marked (entry_at parts r) (among (parts.fresh ++ (s ∷ [])) r)
    entry r = entry_at-set parts.entries s (marked (entry_at parts s) true) r below ∙ ⊎_elim
        (λ (same : eqb s r ≡ true). cond-true (eqb s r) (marked (entry_at parts s) true) (entry_at parts r) same
        ∙ subst (λ z. marked (entry_at parts s) true ≡ marked (entry_at parts z) true) (eqb-true s r same) refl
        ∙ ap (marked (entry_at parts r))
        (sym (or_right (among parts.fresh r) (among (s ∷ []) r) (ap (λ b. b || false) same))))
        (λ (other : eqb s r ≡ false). cond-false (eqb s r) (marked (entry_at parts s) true) (entry_at parts r) other
        ∙ ap (marked (entry_at parts r)) (whole.fresh.marked r ∙ sym (or-false (among parts.fresh r))
        ∙ sym (ap (λ b. among parts.fresh r || (b || false)) other)))
        (cases_Bool (eqb s r))
        ∙ ap (marked (entry_at parts r)) (sym (among-push parts.fresh s r))

-- these slots are fresh already
same_has : (parts : PartsState) (slots : List ℕ) → IsWhole parts →
    ((r : ℕ) → among parts.fresh r ≡ (among parts.fresh r || among slots r)) → HasPushed parts parts slots
same_has parts slots whole fresh = record {
  pool = refl;
  split = refl;
  merge = refl;
  due = refl;
  asked = refl;
  whole = whole;
  entries = λ r. ap (marked (entry_at parts r)) (whole.fresh.marked r);
  fresh = fresh;
  placed = λ out placed. placed;
}

-- one slot, if it is fresh or not
pushed_has_one : (parts : PartsState) (s : ℕ) → IsWhole parts → s < length parts.entries →
    HasPushed parts (pushed parts s) (s ∷ [])
pushed_has_one parts s whole below =
    cond_both (entry_at parts s).fresh parts (pushed_one parts s) (λ after. HasPushed parts after (s ∷ []))
    (λ old. same_has parts (s ∷ []) whole (λ r. ⊎_elim
    (λ (same : eqb s r ≡ true).
    let there : among parts.fresh r ≡ true =
    subst (λ z. among parts.fresh z ≡ true) (eqb-true s r same) (sym (whole.fresh.marked s) ∙ old) in
    there ∙ sym (or_left (among parts.fresh r) (among (s ∷ []) r) there))
    (λ (other : eqb s r ≡ false). sym (or-false (among parts.fresh r))
    ∙ sym (ap (λ b. among parts.fresh r || (b || false)) other))
    (cases_Bool (eqb s r))))
    (λ new. pushed_one_has parts s whole below new)

-- one listing after another
pushed_then : (before middle after : PartsState) (xs ys both : List ℕ) →
    ((r : ℕ) → among both r ≡ (among xs r || among ys r)) → HasPushed before middle xs → HasPushed middle after ys →
    HasPushed before after both
pushed_then before middle after xs ys both same one two = record {
  pool = two.pool ∙ one.pool;
  split = two.split ∙ one.split;
  merge = two.merge ∙ one.merge;
  due = two.due ∙ one.due;
  asked = two.asked ∙ one.asked;
  whole = two.whole;
  entries = λ r. two.entries r ∙ ap (λ e. marked e (among after.fresh r)) (one.entries r);
  fresh = λ r. two.fresh r ∙ ap (λ b. b || among ys r) (one.fresh r)
      ∙ or_assoc (among before.fresh r) (among xs r) (among ys r) ∙ sym (ap (λ b. among before.fresh r || b) (same r));
  placed = λ out placed. two.placed out (one.placed out placed);
}

-- so it is with slots that are listed one after the other
pub pushed_has : (parts : PartsState) (slots : List ℕ) → IsWhole parts → All (λ s. s < length parts.entries) slots →
    HasPushed parts (pushed_all parts slots) slots
pushed_has parts [] whole below = same_has parts [] whole (λ r. sym (or-false (among parts.fresh r)))
pushed_has parts (s ∷ more) whole below =
    let one = pushed_has_one parts s whole (All-head (λ r. r < length parts.entries) s more below) in
    let size : length (pushed parts s).entries ≡ length parts.entries =
    one.whole.entries ∙ ap (λ (p : PoolState). 2 * length p.pairs) one.pool ∙ sym whole.entries in
    pushed_then parts (pushed parts s) (pushed_all (pushed parts s) more) (s ∷ []) more (s ∷ more)
    (λ r. cons_or (eqb s r) (among more r)) one
    (pushed_has (pushed parts s) more one.whole
    (subst (λ n. All (λ r. r < n) more) (sym size) (All-tail (λ r. r < length parts.entries) s more below)))

-- a slot listed as fresh in an array
pub pushed-array : (pool : PoolState) (entries : List Entry) (split merge : List (Option Rank)) (due : List (Option ℕ))
    (asked : List Slot) (asked_count : ℕ) (fresh : List Slot) (fresh_count : ℕ)
    (s : Slot) (e : Entry) → fresh_count < length fresh → e ≡ slice_index_or entries s.0 blank → e.fresh ≡ false →
    parts_of pool (slice_set entries s.0 (record e { fresh = true })) split merge due asked asked_count
    (slice_set fresh fresh_count s) (fresh_count + 1)
    ≡ pushed (parts_of pool entries split merge due asked asked_count fresh fresh_count) s.0
pushed-array pool entries split merge due asked asked_count fresh fresh_count s e below is new =
    ap₂ (λ f l. record {
      pool = pool;
      entries = slice_set entries s.0 (record f { fresh = true });
      split = split;
      merge = merge;
      due = due;
      asked = map (λ t. t.0) (take asked_count asked);
      fresh = l;
    })
    is (numbers_push fresh fresh_count s below)
    ∙ sym (cond-false (slice_index_or entries s.0 blank).fresh
    (parts_of pool entries split merge due asked asked_count fresh fresh_count)
    (pushed_one (parts_of pool entries split merge due asked asked_count fresh fresh_count) s.0)
    (sym (ap (λ f. f.fresh) is) ∙ new))
