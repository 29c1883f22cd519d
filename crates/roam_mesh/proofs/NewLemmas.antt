-- The two halves of the square, as a pool of pairs and as parts.
use Rattle.std.proofs.Common.{◌≡◌, ◌≢◌, ℕ, zero, suc, ◌+◌, ◌-◌, ◌*◌, ◌/◌, ◌<◌, ◌≤◌, ◌||◌, Bool, false, not, ◌&&◌, cond}
use Rattle.std.proofs.Common.{nat_eq, nat_lt, nat_le, List, [], length, replicate, Option, None, Some, slice_index}
use Rattle.std.proofs.Common.{slice_index_or, slice_set, length-set, get_or-set_same, get_or-set_other, refl, sym, ◌∙◌}
use Rattle.std.proofs.Common.{ap, ap₂, subst, arith, ⊎_elim}
use Rattle.std.specs.List.{IsDistinct}
use Rattle.std.proofs.lemmas.Bool.{cases_lt, both_ways, and_left, and_right, and_from, not_from_false}
use Rattle.std.proofs.lemmas.Bool.{false_from_ne_true, lt-ltb, le-ltb, lt-leb, le-leb}
use Rattle.std.proofs.lemmas.List.{length-replicate}
use Rattle.mesh_defs.specs.ClosedSet.{leaves_of, among}
use Rattle.bintree_addr.specs.declared.rank.Rank.{Rank}
use Rattle.mesh_laws.specs.Edge.{mate_of}
use Rattle.mesh_laws.specs.Slots.{address_at, has_children, split_set, room_of, IsPool}
use Rattle.mesh_laws.proofs.SlotLemmas.{pair_of}
use Rattle.mesh_laws.specs.Chief.{chief_of}
use Rattle.triangle_pool.specs.Slots.{PoolState}
use Rattle.triangle_pool.specs.declared.pool.TheConstants.{MOST_LEAVES}
use Rattle.roam_mesh.specs.Parts.{PartsState, blank, entry_at, is_leaf_at, is_bare, is_ready, is_ready_at, is_chief_at}
use Rattle.roam_mesh.specs.Parts.{is_entry_at, is_out, leaf_rank, diamond_rank, IsSlotList, IsWhole, IsNear, IsParts}
use Rattle.roam_mesh.specs.Base.{AreEmpty}
use Rattle.roam_mesh.specs.declared.entry.Entry.{Entry}
use Rattle.roam_mesh.proofs.PoolChangeLemmas.{pairs_counted}
use Rattle.text_laws.proofs.TestLemmas.{by_bool}
use Rattle.std.proofs.Math.Bool.{or-false, and-true}

-- ---- the pairs

-- the pairs of a pool with the halves of the square and nothing else
abbrev pub AreBase : List ℕ → Type 0
AreBase pairs = (i : ℕ) → slice_index pairs i ≡ cond (nat_lt 0 i) 0 1

-- the first pair has the halves, and all others are free
pub base_from : (pairs : List ℕ) → slice_index pairs 0 ≡ 1 → ((i : ℕ) → i ≢ 0 → slice_index pairs i ≡ 0) → AreBase pairs
base_from pairs first empty zero = first
base_from pairs first empty (suc i) =
    empty (suc i) (λ e. let no : zero ≡ suc i = sym e in omega arith)
    ∙ ap (λ b. cond b 0 1) (sym (lt-ltb 0 (suc i) (omega arith)))

module _ (pairs : List ℕ) (base : AreBase pairs) where
  -- no triangle is split
  base_children : (a : ℕ) → 2 ≤ a → has_children pairs a ≡ false
  base_children a low = false_from_ne_true (has_children pairs a) (λ split.
      let pair = pair_of pairs a split in
      let small : slice_index pairs pair.0 ≤ 1 = by_bool (nat_lt 0 pair.0)
      (λ some. let e = base pair.0 ∙ ap (λ b. cond b 0 1) some in omega arith)
      (λ none. let e = base pair.0 ∙ ap (λ b. cond b 0 1) none in omega arith) in
      let is = pair.2 in
      omega arith)

  -- the first two slots have the halves
  base_low : (r : ℕ) → r < 2 → address_at pairs r ≡ 2 + r
  base_low r low =
      let half : r / 2 ≡ 0 = omega arith in
      let one : slice_index pairs (r / 2) ≡ 1 = ap (slice_index pairs) half ∙ base 0 in
      omega arith

  -- and all others are free
  base_high : (r : ℕ) → 2 ≤ r → address_at pairs r < 2
  base_high r high =
      let none : slice_index pairs (r / 2) ≡ 0 = base (r / 2) ∙ ap (λ b. cond b 0 1) (lt-ltb 0 (r / 2) (omega arith)) in
      omega arith

  -- so the leaves are at the first two slots
  pub base_leaf : (r : ℕ) → is_leaf_at pairs r ≡ nat_lt r 2
  base_leaf r = ⊎_elim
      (λ (low : r < 2).
      let at = base_low r low in
      let live : 2 ≤ address_at pairs r = omega arith in
      and_from (nat_le 2 (address_at pairs r)) (not (has_children pairs (address_at pairs r)))
      (le-leb 2 (address_at pairs r) live)
      (not_from_false (has_children pairs (address_at pairs r)) (base_children (address_at pairs r) live))
      ∙ sym (lt-ltb r 2 low))
      (λ (high : 2 ≤ r). and_left (nat_le 2 (address_at pairs r)) (not (has_children pairs (address_at pairs r)))
      (lt-leb 2 (address_at pairs r) (base_high r high)) ∙ sym (le-ltb r 2 high))
      (cases_lt r 2)

  -- and no diamond can be merged
  pub base_ready : (r : ℕ) → is_ready_at pairs r ≡ false
  base_ready r = ⊎_elim
      (λ (low : r < 2).
      let at = base_low r low in
      let live : 2 ≤ address_at pairs r = omega arith in
      let a : ℕ = address_at pairs r in
      and_right (nat_le 2 a) (is_ready pairs a)
      (and_left (is_bare pairs a) (nat_eq (mate_of a) 0 || is_bare pairs (mate_of a))
      (and_left (has_children pairs a) (not (has_children pairs (2 * a)) && not (has_children pairs (2 * a + 1)))
      (base_children a live))))
      (λ (high : 2 ≤ r). and_left (nat_le 2 (address_at pairs r)) (is_ready pairs (address_at pairs r))
      (lt-leb 2 (address_at pairs r) (base_high r high)))
      (cases_lt r 2)

-- ---- the parts

-- the parts hold the halves of the square, in their places
pub base_parts : (parts : PartsState) → IsPool parts.pool.n parts.pool.pairs → AreBase parts.pool.pairs →
    ((s : ℕ) → entry_at parts s ≡ blank) →
    ((r : ℕ) → slice_index_or parts.split r None ≡ cond (nat_lt r 2) (Some (leaf_rank parts r)) None) →
    ((r : ℕ) → slice_index_or parts.merge r None ≡ None) →
    ((r : ℕ) → slice_index_or parts.due r None ≡ cond (nat_lt r 2) (Some 0) None) →
    parts.fresh ≡ [] → IsParts parts
base_parts parts pool base entries split merge due none = record {
  pool = pool;
  near = λ r. subst IsNear (sym (entries r)) (omega arith, omega arith);
  placed = record {
    split = λ r. split r ∙ ap (λ b. cond b (Some (leaf_rank parts r)) None)
        (sym (role (is_leaf_at parts.pool.pairs r) (nat_lt r 2) r (base_leaf parts.pool.pairs base r)));
    merge = λ r. merge r ∙ ap (λ b. cond b (Some (diamond_rank parts (address_at parts.pool.pairs r))) None)
        (sym (and_left (is_chief_at parts.pool.pairs r) (not (is_out parts.pool.pairs (among parts.fresh) r))
        (and_left (is_ready_at parts.pool.pairs r) (nat_eq (chief_of (address_at parts.pool.pairs r))
        (address_at parts.pool.pairs r)) (base_ready parts.pool.pairs base r))));
    due = λ r. due r
        ∙ ap₂ (λ b (e : Entry). cond b (Some (cond (e.stamped && not e.expired) (e.odometer + e.slack + 1) 0)) None)
        (sym (role (is_entry_at parts.pool.pairs r) (nat_lt r 2) r (ap₂ (λ x y. x || y)
        (base_leaf parts.pool.pairs base r) (base_ready parts.pool.pairs base r) ∙ or-false (nat_lt r 2))))
        (sym (entries r));
    stamped = λ r is. absurd (both_ways (entry_at parts r).stamped (ap (λ (e : Entry). e.stamped) (entries r)) is);
    known = λ r is. absurd (both_ways (entry_at parts r).known (ap (λ (e : Entry). e.known) (entries r)) is);
  };
  entries = λ r fresh. absurd (both_ways (among parts.fresh r) (ap (λ l. among l r) none) fresh);
}
  where
    role : (test is : Bool) (r : ℕ) → test ≡ is → (test && not (among parts.fresh r)) ≡ is
    role test is r same = ap (λ l. test && not (among l r)) none ∙ and-true test ∙ same

-- ---- the lists

-- no more than the default, wherever it is read
pub read_replicate : {A : Type 0} (n : ℕ) (x : A) (r : ℕ) → slice_index_or (replicate n x) r x ≡ x
read_replicate zero x r = refl
read_replicate (suc n) x zero = refl
read_replicate (suc n) x (suc r) = read_replicate n x r

-- two keys of an empty heap
pub two_keys : {A : Type 0} (xs : List (Option A)) (key : ℕ → A) → 2 ≤ length xs →
    ((r : ℕ) → slice_index_or xs r None ≡ None) → (r : ℕ) →
    slice_index_or (slice_set (slice_set xs 0 (Some (key 0))) 1 (Some (key 1))) r None
    ≡ cond (nat_lt r 2) (Some (key r)) None
two_keys xs key room none zero =
    get_or-set_other (slice_set xs 0 (Some (key 0))) 1 0 (Some (key 1)) None (λ e. omega arith)
    ∙ get_or-set_same xs 0 (Some (key 0)) None (omega arith)
two_keys xs key room none (suc zero) =
    get_or-set_same (slice_set xs 0 (Some (key 0))) 1 (Some (key 1)) None
    (let long = length-set xs 0 (Some (key 0)) in omega arith)
two_keys xs key room none (suc (suc r)) =
    get_or-set_other (slice_set xs 0 (Some (key 0))) 1 (suc (suc r)) (Some (key 1)) None (λ e. omega arith)
    ∙ get_or-set_other xs 0 (suc (suc r)) (Some (key 0)) None (λ e. omega arith) ∙ none (suc (suc r))
    ∙ ap (λ b. cond b (Some (key (suc (suc r)))) None) (sym (le-ltb (suc (suc r)) 2 (omega arith)))

-- a list of no slots, where no entry has the mark
no_list : (entries : List Entry) (mark : Entry → Bool) → mark blank ≡ false →
    ((s : ℕ) → slice_index_or entries s blank ≡ blank) → IsSlotList entries mark []
unfolding IsDistinct
no_list entries mark none all = record { distinct = tt; marked = λ s. ap mark (all s) ∙ none }

-- parts with nothing in the heaps
pub empty_whole : (pool : PoolState) (entries : List Entry) (split merge : List (Option Rank)) (due : List (Option ℕ))
    (asked fresh : List ℕ) →
    pool.most ≤ MOST_LEAVES → length pool.pairs + 1 ≡ pool.most → slice_index pool.pairs 0 ≡ 1 →
    ((s : ℕ) → slice_index_or entries s blank ≡ blank) →
    length entries ≡ 2 * length pool.pairs → length split ≡ 2 * length pool.pairs →
    length merge ≡ 2 * length pool.pairs → length due ≡ 2 * length pool.pairs →
    asked ≡ [] → fresh ≡ [] →
    IsWhole (record {
      pool = pool;
      entries = entries;
      split = split;
      merge = merge;
      due = due;
      asked = asked;
      fresh = fresh;
    })
empty_whole pool entries split merge due asked fresh few pairs root all long_entries long_split long_merge
    long_due no_asked no_fresh =
    record {
      few = few;
      pairs = pairs;
      root = root;
      entries = long_entries;
      split = long_split;
      merge = long_merge;
      due = long_due;
      asked = subst (IsSlotList entries (λ e. e.listed)) (sym no_asked) (no_list entries (λ e. e.listed) refl all);
      fresh = subst (IsSlotList entries (λ e. e.fresh)) (sym no_fresh) (no_list entries (λ e. e.fresh) refl all);
      known =
          λ s is. absurd (both_ways (slice_index_or entries s blank).known (ap (λ (e : Entry). e.known) (all s)) is);
    }

-- all at once
pub empty_parts : (pool : PoolState) (leaves count : ℕ) (entries : List Entry) (split merge : List (Option Rank))
    (due : List (Option ℕ)) →
    2 ≤ leaves → leaves ≤ MOST_LEAVES → pool.most ≡ leaves → IsPool pool.n pool.pairs →
    count + room_of pool.pairs ≡ pool.most → count ≡ length (leaves_of pool.n (split_set pool.pairs)) →
    slice_index pool.pairs 0 ≡ 1 → entries ≡ replicate (2 * leaves - 2) blank →
    split ≡ replicate (2 * leaves - 2) None → merge ≡ replicate (2 * leaves - 2) None →
    due ≡ replicate (2 * leaves - 2) None →
    IsWhole (record { pool = pool; entries = entries; split = split; merge = merge; due = due; asked = []; fresh = [] })
    × (2 * leaves - 2 ≡ 2 * length pool.pairs)
empty_parts pool leaves count entries split merge due some few most valid counted leaf_count root entries_are
    split_is merge_is due_is =
    let pairs = pairs_counted pool count valid counted leaf_count in
    let slots : 2 * leaves - 2 ≡ 2 * length pool.pairs = omega arith in (
      empty_whole pool entries split merge due [] [] (omega arith) pairs root
          (λ s. ap (λ l. slice_index_or l s blank) entries_are ∙ read_replicate (2 * leaves - 2) blank s)
          (ap (λ (l : List Entry). length l) entries_are ∙ length-replicate (2 * leaves - 2) blank ∙ slots)
          (ap (λ (l : List (Option Rank)). length l) split_is ∙ length-replicate (2 * leaves - 2) None ∙ slots)
          (ap (λ (l : List (Option Rank)). length l) merge_is ∙ length-replicate (2 * leaves - 2) None ∙ slots)
          (ap (λ (l : List (Option ℕ)). length l) due_is ∙ length-replicate (2 * leaves - 2) None ∙ slots)
          refl refl,
      slots,
    )

-- a leaf put in its place, without a stamp
abbrev pub begun_leaf : PartsState → ℕ → PartsState
begun_leaf parts s = record parts {
  split = slice_set parts.split s (Some (leaf_rank parts s));
  due = slice_set parts.due s (Some 0);
}

-- so are both halves of the square
pub begun_parts : (parts : PartsState) (leaves : ℕ) → 2 ≤ leaves → IsPool parts.pool.n parts.pool.pairs →
    AreBase parts.pool.pairs → AreEmpty leaves parts → IsParts (begun_leaf (begun_leaf parts 0) 1)
begun_parts parts leaves some pool base empty = base_parts (begun_leaf (begun_leaf parts 0) 1) pool base
    (λ s. ap (λ l. slice_index_or l s blank) empty.entries ∙ read_replicate (2 * leaves - 2) blank s)
    (two_keys parts.split (leaf_rank parts) (let long =
    ap (λ (l : List (Option Rank)). length l) empty.split ∙ length-replicate (2 * leaves - 2) None in omega arith)
    (λ r. ap (λ l. slice_index_or l r None) empty.split ∙ read_replicate (2 * leaves - 2) None r))
    (λ r. ap (λ l. slice_index_or l r None) empty.merge ∙ read_replicate (2 * leaves - 2) None r)
    (two_keys parts.due (λ _. 0) (let long =
    ap (λ (l : List (Option ℕ)). length l) empty.due ∙ length-replicate (2 * leaves - 2) None in omega arith)
    (λ r. ap (λ l. slice_index_or l r None) empty.due ∙ read_replicate (2 * leaves - 2) None r))
    empty.fresh
