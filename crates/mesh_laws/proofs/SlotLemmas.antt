-- Pairs of slots: which triangles have children there, the set of split triangles, and how many they are.
use Rattle.std.proofs.Common.{◌≡◌, ◌≢◌, ◌-◌, ap, sym, ◌∙◌, ◌⊎◌, Bool, true, false, ◌&&◌, cond, nat_eq, nat_lt, ℕ, zero}
use Rattle.std.proofs.Common.{suc, ◌+◌, ◌*◌, ◌/◌, ◌%◌, ◌<◌, ◌≤◌, refl, arith, inl, inr, ⊎_elim, List, [], ◌∷◌, length}
use Rattle.std.proofs.Common.{get_or, set, get_or-set_other, get_or-set_same}
use Rattle.std.specs.List.{count_by, filter, list_any}
use Rattle.std.proofs.lemmas.Bool.{cases_eq, cases_lt, cases_Bool, true≢false, eq-eqb, eqb-true, ne_eqb, or_cases}
use Rattle.std.proofs.lemmas.Bool.{or_left, or_right, and_parts, and_from, lt-ltb, le-ltb, ltb-true}
use Rattle.std.proofs.lemmas.List.{get_or_past}
use Rattle.std.proofs.lemmas.List.Folds.{list_any_at}
use Rattle.std.proofs.lemmas.List.Sums.{sum_by-set, sum_by-cons, length-filter}
use Rattle.std.proofs.lemmas.Map.Views.{any-filter_same}
use Rattle.mesh_defs.specs.Triangle.{level_of}
use Rattle.mesh_defs.specs.ClosedSet.{IsClosed, leaves_of, among}
use Rattle.mesh_defs.specs.GridSet.{IsGridSet}
use Rattle.mesh_defs.proofs.ListLemmas.{among-in}
use Rattle.mesh_defs.proofs.TestLemmas.{same_tests}
use Rattle.mesh_laws.proofs.ClosureLemmas.{leaves_of-same}
use Rattle.mesh_laws.proofs.SetListLemmas.{list_of, ascending-list_of, among-list_of}
use Rattle.mesh_laws.proofs.SizeLemmas.{length-leaves_once}
use Rattle.mesh_laws.specs.Edge.{mate_of, owner, with_square}
use Rattle.mesh_laws.specs.LeafAcross.{IsLeafOf, IsGrown}
use Rattle.mesh_laws.specs.Slots.{address_at, has_children, IsLive, split_set, split_list, room_of, IsPool}
use Rattle.mesh_laws.specs.Slots.{diamond_size, HasLeaf, IsSplit, IsMerge}
use Rattle.mesh_laws.proofs.MateLemmas.{mate_of-low, mate_of-level}
use Rattle.mesh_laws.proofs.OwnerLemmas.{owner_cases}
use Rattle.bintree_laws.proofs.LevelLemmas.{level_of-parent}
use Rattle.mesh_laws.proofs.IsMateLemmas.{IsMate-mate_of}
use Rattle.mesh_laws.proofs.LeafAcrossLemmas.{with_square-root, with_square-deep}

-- ---- which addresses have children

place_from_any : (p : ℕ → Bool) (xs : List ℕ) → list_any p xs ≡ true →
    (i : ℕ) × (i < length xs) × (p (get_or xs i 0) ≡ true)
place_from_any p [] h = absurd (true≢false (sym h))
place_from_any p (x ∷ xs) h = ⊎_elim (λ here. (0, omega arith, here))
    (λ there. let r = place_from_any p xs there in (suc r.0, (let w = r.1 in omega arith), r.2))
    (or_cases (p x) (list_any p xs) h)

-- an address that has children has them in a pair
pub pair_of : (pairs : List ℕ) (p : ℕ) → has_children pairs p ≡ true →
    (i : ℕ) × (i < length pairs) × (get_or pairs i 0 ≡ p)
pair_of pairs p h =
    let found = place_from_any (λ t. nat_eq t p) pairs (and_parts (nat_lt 0 p) (among pairs p) h).1 in
    (found.0, found.1, eqb-true (get_or pairs found.0 0) p found.2)

-- an address that has children is at least 1
pub has_children_low : (pairs : List ℕ) (p : ℕ) → has_children pairs p ≡ true → 1 ≤ p
has_children_low pairs p h = let x = ltb-true 0 p (and_parts (nat_lt 0 p) (among pairs p) h).0 in omega arith

-- an address of at least 1 that stands among the pairs has children
pub has_children_by : (pairs : List ℕ) (i p : ℕ) → 1 ≤ p → get_or pairs i 0 ≡ p → has_children pairs p ≡ true
has_children_by pairs i p low is =
    and_from (nat_lt 0 p) (among pairs p) (lt-ltb 0 p (omega arith))
    (list_any_at (λ t. nat_eq t p) pairs i 0 (⊎_elim (λ y. y)
    (λ past. absurd (let z = get_or_past pairs i 0 past in omega arith)) (cases_lt i (length pairs)))
    (eq-eqb (get_or pairs i 0) p is))

-- a free pair is given to a
pub has_children-added : (pairs : List ℕ) (k a : ℕ) → k < length pairs → 1 ≤ a → has_children (set pairs k a) a ≡ true
has_children-added pairs k a within low = has_children_by (set pairs k a) k a low (get_or-set_same pairs k a 0 within)

-- when a free pair is given to a, every other address has children exactly if it had them
pub has_children-kept : (pairs : List ℕ) (k a p : ℕ) → k < length pairs → get_or pairs k 0 ≡ 0 → p ≢ a →
    has_children (set pairs k a) p ≡ has_children pairs p
has_children-kept pairs k a p within free other = same_tests (has_children (set pairs k a) p) (has_children pairs p)
    (λ yes. let found = pair_of (set pairs k a) p yes in let low = has_children_low (set pairs k a) p yes in
    elim (cases_eq found.0 k) [
      | inl same ↦
          absurd (other (sym found.2 ∙ ap (λ t. get_or (set pairs k a) t 0) same ∙ get_or-set_same pairs k a 0 within))
      | inr apart ↦ has_children_by pairs found.0 p low (sym (get_or-set_other pairs k found.0 a 0 apart) ∙ found.2)
    ])
    (λ yes. let found = pair_of pairs p yes in let low = has_children_low pairs p yes in
    elim (cases_eq found.0 k) [
      | inl same ↦ absurd (let z : get_or pairs found.0 0 ≡ 0 = ap (λ t. get_or pairs t 0) same ∙ free in
          let y = found.2 in omega arith)
      | inr apart ↦ has_children_by (set pairs k a) found.0 p low (get_or-set_other pairs k found.0 a 0 apart ∙ found.2)
    ])

-- the pair of a is freed
pub has_children-removed : (pairs : List ℕ) (k a : ℕ) → k < length pairs → get_or pairs k 0 ≡ a → 1 ≤ a →
    ((i : ℕ) → get_or pairs i 0 ≡ a → i ≡ k) → has_children (set pairs k 0) a ≡ false
has_children-removed pairs k a within is low once = ⊎_elim
    (λ yes. absurd (let found = pair_of (set pairs k 0) a yes in elim (cases_eq found.0 k) [
      | inl same ↦
          let z = sym found.2 ∙ ap (λ t. get_or (set pairs k 0) t 0) same ∙ get_or-set_same pairs k 0 0 within in
          omega arith
      | inr apart ↦ apart (once found.0 (sym (get_or-set_other pairs k found.0 0 0 apart) ∙ found.2))
    ])) (λ no. no) (cases_Bool (has_children (set pairs k 0) a))

-- when the pair of a is freed, every other address has children exactly if it had them
pub has_children-left : (pairs : List ℕ) (k a p : ℕ) → k < length pairs → get_or pairs k 0 ≡ a → p ≢ a →
    has_children (set pairs k 0) p ≡ has_children pairs p
has_children-left pairs k a p within is other = same_tests (has_children (set pairs k 0) p) (has_children pairs p)
    (λ yes. let found = pair_of (set pairs k 0) p yes in let low = has_children_low (set pairs k 0) p yes in
    elim (cases_eq found.0 k) [
      | inl same ↦ absurd (let z =
          sym found.2 ∙ ap (λ t. get_or (set pairs k 0) t 0) same ∙ get_or-set_same pairs k 0 0 within in omega arith)
      | inr apart ↦ has_children_by pairs found.0 p low (sym (get_or-set_other pairs k found.0 0 0 apart) ∙ found.2)
    ])
    (λ yes. let found = pair_of pairs p yes in let low = has_children_low pairs p yes in
    elim (cases_eq found.0 k) [
      | inl same ↦ absurd (other (sym found.2 ∙ ap (λ t. get_or pairs t 0) same ∙ is))
      | inr apart ↦ has_children_by (set pairs k 0) found.0 p low (get_or-set_other pairs k found.0 0 0 apart ∙ found.2)
    ])

-- ---- the set of split triangles

-- a member of the set has children
pub set-has_children : (pairs : List ℕ) (p : ℕ) → split_set pairs p ≡ true → has_children pairs p ≡ true
set-has_children pairs p h =
    let parts = and_parts (nat_lt 1 p) (among pairs p) h in
    let low = ltb-true 1 p parts.0 in
    and_from (nat_lt 0 p) (among pairs p) (lt-ltb 0 p (omega arith)) parts.1

-- what has children is a member, but for the square
pub has_children-set : (pairs : List ℕ) (p : ℕ) → 2 ≤ p → has_children pairs p ≡ true → split_set pairs p ≡ true
has_children-set pairs p low h =
    and_from (nat_lt 1 p) (among pairs p) (lt-ltb 1 p (omega arith)) (and_parts (nat_lt 0 p) (among pairs p) h).1

-- a child of what has children has a slot
pub slot_of : (pairs : List ℕ) (c : ℕ) → 2 ≤ c → has_children pairs (c / 2) ≡ true → (q : ℕ) × (address_at pairs q ≡ c)
slot_of pairs c low up =
    let pair = pair_of pairs (c / 2) up in (
      2 * pair.0 + c % 2,
      (let half : (2 * pair.0 + c % 2) / 2 ≡ pair.0 = omega arith in
          let top : get_or pairs ((2 * pair.0 + c % 2) / 2) 0 ≡ c / 2 = ap (λ t. get_or pairs t 0) half ∙ pair.2 in
          omega arith),
    )

-- the set after the pair k is given to a
pub set_more : (pairs : List ℕ) (k a p : ℕ) → k < length pairs → get_or pairs k 0 ≡ 0 → split_set pairs p ≡ true →
    split_set (set pairs k a) p ≡ true
set_more pairs k a p within free h =
    let low = ltb-true 1 p (and_parts (nat_lt 1 p) (among pairs p) h).0 in
    has_children-set (set pairs k a) p (omega arith) (elim (cases_eq p a) [
      | inl e ↦ ap (has_children (set pairs k a)) e ∙ has_children-added pairs k a within (omega arith)
      | inr other ↦ has_children-kept pairs k a p within free other ∙ set-has_children pairs p h
    ])

-- and it has no more than a
pub set_only : (pairs : List ℕ) (k a p : ℕ) → k < length pairs → get_or pairs k 0 ≡ 0 →
    split_set (set pairs k a) p ≡ true → (split_set pairs p ≡ true) ⊎ (p ≡ a)
set_only pairs k a p within free h =
    let low = ltb-true 1 p (and_parts (nat_lt 1 p) (among (set pairs k a) p) h).0 in
    elim (cases_eq p a) [
      | inl e ↦ inr e
      | inr other ↦ inl (has_children-set pairs p (omega arith)
          (sym (has_children-kept pairs k a p within free other) ∙ set-has_children (set pairs k a) p h))
    ]

-- the set after the pair of a is freed is as before but for a
pub set_kept : (pairs : List ℕ) (k a p : ℕ) → k < length pairs → get_or pairs k 0 ≡ a → p ≢ a →
    split_set (set pairs k 0) p ≡ split_set pairs p
set_kept pairs k a p within is n = ⊎_elim
    (λ low. same_tests (split_set (set pairs k 0) p) (split_set pairs p)
    (λ y. has_children-set pairs p low (sym (has_children-left pairs k a p within is n)
    ∙ set-has_children (set pairs k 0) p y))
    (λ y. has_children-set (set pairs k 0) p low
    (has_children-left pairs k a p within is n ∙ set-has_children pairs p y)))
    (λ small. ap (λ t. t && among (set pairs k 0) p) (le-ltb 1 p (omega arith))
    ∙ sym (ap (λ t. t && among pairs p) (le-ltb 1 p (omega arith))))
    (⊎_elim (λ l. inr (let z : p < 2 = omega arith in z)) (λ g. inl g) (cases_lt p 2))

-- what has no children is no member
pub set_false : (pairs : List ℕ) (p : ℕ) → has_children pairs p ≡ false → split_set pairs p ≡ false
set_false pairs p h =
    ⊎_elim (λ y. absurd (true≢false (sym (set-has_children pairs p y) ∙ h))) (λ n. n) (cases_Bool (split_set pairs p))

-- a pair that is given is one of the pairs
pub pair_in : (pairs : List ℕ) (k a : ℕ) → 2 ≤ a → get_or pairs k 0 ≡ a → k < length pairs
pair_in pairs k a low is =
    ⊎_elim (λ w. w) (λ past. absurd (let z = get_or_past pairs k 0 past in omega arith)) (cases_lt k (length pairs))

-- ---- the set of a pool

-- the mate of a member is a member
pub member_mate : (n : ℕ) (pairs : List ℕ) (a : ℕ) → IsPool n pairs → 2 ≤ a → has_children pairs a ≡ true →
    1 ≤ mate_of a → has_children pairs (mate_of a) ≡ true
member_mate n pairs a pool low is_split some =
    let member = has_children-set pairs a low is_split in
    let coarse = (pool.closed.splittable a member).coarse in
    set-has_children pairs
    (mate_of a) (pool.closed.mate a (mate_of a) member (IsMate-mate_of n a low (omega arith) some))

-- and so is its parent, or the square
pub member_parent : (n : ℕ) (pairs : List ℕ) (a : ℕ) → IsPool n pairs → 2 ≤ a → has_children pairs a ≡ true →
    has_children pairs (a / 2) ≡ true
member_parent n pairs a pool low is_split = ⊎_elim
    (λ top. ap (has_children pairs) (let z : a / 2 ≡ 1 = omega arith in z) ∙ pool.root)
    (λ deep. set-has_children pairs (a / 2) (pool.closed.parent a (has_children-set pairs a low is_split) deep))
    (cases_lt a 4)

-- the pair of a live slot is in the list
pub live_within : (pairs : List ℕ) (s : ℕ) → IsLive pairs s → s / 2 < length pairs
live_within pairs s live = ⊎_elim (λ yes. yes)
    (λ past. absurd (let z : get_or pairs (s / 2) 0 ≡ 0 = get_or_past pairs (s / 2) 0 past in omega arith))
    (cases_lt (s / 2) (length pairs))

-- the slots of a pair have the children of its triangle
pub child_at : (pairs : List ℕ) (k a side : ℕ) → side < 2 → get_or pairs k 0 ≡ a →
    address_at pairs (2 * k + side) ≡ 2 * a + side
child_at pairs k a side small is =
    let half : (2 * k + side) / 2 ≡ k = omega arith in
    let z : get_or pairs ((2 * k + side) / 2) 0 ≡ a = ap (λ t. get_or pairs t 0) half ∙ is in omega arith

-- an address has one pair
pub pair_one : (n : ℕ) (pairs : List ℕ) (i k a : ℕ) → IsPool n pairs → 1 ≤ a → get_or pairs i 0 ≡ a →
    get_or pairs k 0 ≡ a → i ≡ k
pair_one n pairs i k a pool low at_i at_k =
    let x : address_at pairs (2 * i + 0) ≡ 2 * a + 0 = child_at pairs i a 0 (omega arith) at_i in
    let y : address_at pairs (2 * k + 0) ≡ 2 * a + 0 = child_at pairs k a 0 (omega arith) at_k in
    let same : 2 * i + 0 ≡ 2 * k + 0 = pool.once (2 * i + 0) (2 * k + 0) (omega arith) (x ∙ sym y) in omega arith

-- a diamond at the border has one triangle
pub size_one : (a : ℕ) → mate_of a ≡ 0 → diamond_size a ≡ 1
size_one a none = rw (none, diamond_size) refl

-- and any other has two
pub size_two : (a : ℕ) → 1 ≤ mate_of a → diamond_size a ≡ 2
size_two a some = rw (lt-ltb 0 (mate_of a) some, diamond_size) refl

-- ---- leaves

-- a live slot's parent is split
pub parent_has_children : (pairs : List ℕ) (r : ℕ) → IsLive pairs r → has_children pairs (address_at pairs r / 2) ≡ true
parent_has_children pairs r live =
    let half : address_at pairs r / 2 ≡ get_or pairs (r / 2) 0 = omega arith in
    ap (has_children pairs) half ∙ has_children_by pairs (r / 2) (get_or pairs (r / 2) 0) (omega arith) refl

-- a live slot without children has a leaf of the set
pub IsLeafOf-slot : (pairs : List ℕ) (s : ℕ) → IsLive pairs s → has_children pairs (address_at pairs s) ≡ false →
    IsLeafOf (split_set pairs) (address_at pairs s)
IsLeafOf-slot pairs s live leaf = record {
  low = live;
  above = λ deep. has_children-set pairs (address_at pairs s / 2) (omega arith) (parent_has_children pairs s live);
  whole = set_false pairs (address_at pairs s) leaf;
}

-- whether a triangle has children is the same in the words of the pairs and in those of the set
pub square-children : (n : ℕ) (pairs : List ℕ) (p : ℕ) → IsPool n pairs → 1 ≤ p →
    has_children pairs p ≡ with_square (split_set pairs) p
square-children n pairs p pool low = ⊎_elim
    (λ top.
    let is : p ≡ 1 = omega arith in
    ap (has_children pairs) is ∙ pool.root ∙ sym (with_square-root (split_set pairs))
    ∙ sym (ap (with_square (split_set pairs)) is))
    (λ deep. same_tests (has_children pairs p) (split_set pairs p) (λ h. has_children-set pairs p deep h)
    (λ h. set-has_children pairs p h) ∙ sym (with_square-deep (split_set pairs) p deep))
    (cases_lt p 2)

-- ---- the leaf across the base

-- what the link across a leaf's base says: it is coarser, or as fine
pub record IsBaseLink (pairs : List ℕ) (s base : ℕ) : Type 0 where
  pub some : 1 ≤ mate_of (address_at pairs s)
  pub live : IsLive pairs base
  pub coarser : level_of (address_at pairs base) < level_of (address_at pairs s) →
      (address_at pairs base ≡ mate_of (address_at pairs s) / 2) × HasLeaf pairs base
  pub even : has_children pairs (mate_of (address_at pairs s) / 2) ≡ true →
      level_of (address_at pairs base) ≡ level_of (address_at pairs s)
  pub same : (level_of (address_at pairs base) < level_of (address_at pairs s) → ⊥) →
      has_children pairs (mate_of (address_at pairs s) / 2) ≡ true

-- where the slot has the leaf across, the link says so
pub coarse_link : (n : ℕ) (pairs : List ℕ) (s base : ℕ) → IsPool n pairs → HasLeaf pairs s →
    (mate_of (address_at pairs s) ≡ 0 → ⊥) →
    address_at pairs base ≡ owner (has_children pairs) (mate_of (address_at pairs s)) → IsBaseLink pairs s base
coarse_link n pairs s base pool leaf given link =
    let a : ℕ = address_at pairs s in
    let low = leaf.live in
    let some : 1 ≤ mate_of a = ⊎_elim (λ z. absurd (given (omega arith))) (λ h. h) (cases_lt (mate_of a) 1) in
    let b = mate_of-low a low some in
    let level : level_of (mate_of a) ≡ level_of a = mate_of-level a low some in
    elim (owner_cases (has_children pairs) (mate_of a)) [
      | inl fine ↦
          let at : address_at pairs base ≡ mate_of a = link ∙ fine.1 in
          let same : level_of (address_at pairs base) ≡ level_of (mate_of a) = ap level_of at in
          record {
            some = some;
            live = omega arith;
            coarser = λ less. absurd (omega arith);
            even = λ _. omega arith;
            same = λ _. fine.0;
          }
      | inr coarse ↦
          let at : address_at pairs base ≡ mate_of a / 2 = link ∙ coarse.1 in
          let deep : 4 ≤ mate_of a = ⊎_elim
          (λ top. absurd (let half : mate_of a / 2 ≡ 1 = omega arith in
          true≢false (sym pool.root ∙ ap (has_children pairs) (sym half) ∙ coarse.0)))
          (λ deep. deep) (cases_lt (mate_of a) 4) in
          let up : level_of (mate_of a) ≡ level_of (mate_of a / 2) + 1 = level_of-parent (mate_of a) deep in
          let same : level_of (address_at pairs base) ≡ level_of (mate_of a / 2) = ap level_of at in
          record {
            some = some;
            live = omega arith;
            coarser = λ _. (at, record { live = omega arith; leaf = ap (has_children pairs) at ∙ coarse.0 });
            even = λ up_too. absurd (true≢false (sym up_too ∙ coarse.0));
            same = λ no. absurd (no (omega arith));
          }
    ]

-- ---- how many

-- the members of the set, as a list
abbrev pub members_of : List ℕ → List ℕ
members_of pairs = filter (nat_lt 1) pairs

-- each member stands in the list, and nothing else does
pub among-members : (pairs : List ℕ) (p : ℕ) → among (members_of pairs) p ≡ split_set pairs p
among-members pairs p =
    any-filter_same (λ t. nat_eq t p) (nat_lt 1) (nat_lt 1 p) (λ t same. ap (nat_lt 1) (eqb-true t p same)) pairs

-- one entry more
pub counted_cons : (p : ℕ → Bool) (x : ℕ) (xs : List ℕ) → count_by p (x ∷ xs) ≡ cond (p x) 1 0 + count_by p xs
counted_cons p x xs = sum_by-cons (λ t. cond (p t) 1 0) x xs

-- where no entry passes a test, none is counted
pub none_counted : (p : ℕ → Bool) (xs : List ℕ) → list_any p xs ≡ false → count_by p xs ≡ 0
none_counted p [] h = refl
none_counted p (x ∷ xs) h = elim (cases_Bool (p x)) [
  | inl hit ↦ absurd (true≢false (sym (or_left (p x) (list_any p xs) hit) ∙ h))
  | inr miss ↦ elim (cases_Bool (list_any p xs)) [
    | inl more ↦ absurd (true≢false (sym (or_right (p x) (list_any p xs) more) ∙ h))
    | inr none ↦ counted_cons p x xs ∙ ap (λ b. cond b 1 0 + count_by p xs) miss
        ∙ (let rest = none_counted p xs none in omega arith)
  ]
]

-- where the entries that pass q pass p too, the filter by p loses none of them
count-filter : (p q : ℕ → Bool) → ((x : ℕ) → q x ≡ true → p x ≡ true) → (xs : List ℕ) →
    count_by q (filter p xs) ≡ count_by q xs
count-filter p q both [] = refl
count-filter p q both (x ∷ xs) = elim (cases_Bool (p x)) [
  | inl kept ↦ rw (kept, filter) (counted_cons q x (filter p xs)
      ∙ ap (λ t. cond (q x) 1 0 + t) (count-filter p q both xs) ∙ sym (counted_cons q x xs))
  | inr lost ↦ elim (cases_Bool (q x)) [
    | inl hit ↦ absurd (true≢false (sym (both x hit) ∙ lost))
    | inr miss ↦ rw (lost, filter) (let rest = count-filter p q both xs in let all = counted_cons q x xs in
        let none : cond {A = ℕ} (q x) 1 0 ≡ 0 = ap (λ b. cond {A = ℕ} b 1 0) miss in omega arith)
  ]
]

-- an address that has children stands once among the pairs
pub once_counted : (n : ℕ) (pairs : List ℕ) (a : ℕ) → IsPool n pairs → has_children pairs a ≡ true →
    count_by (λ t. nat_eq t a) pairs ≡ 1
once_counted n pairs a pool is_split =
    let low = has_children_low pairs a is_split in
    let pair = pair_of pairs a is_split in
    let k : ℕ = pair.0 in
    let f : ℕ → ℕ = λ t. cond (nat_eq t a) 1 0 in
    let all = sum_by-set f pairs k 0 0 pair.1 in
    let old : f (get_or pairs k 0) ≡ 1 = rw (eq-eqb (get_or pairs k 0) a pair.2) refl in
    let new : f 0 ≡ 0 = rw (ne_eqb 0 a (λ z. omega arith)) refl in
    let shut : has_children (set pairs k 0) a ≡ false =
    has_children-removed pairs k a pair.1 pair.2 low (λ i e. pair_one n pairs i k a pool low e pair.2) in
    let none : list_any (λ t. nat_eq t a) (set pairs k 0) ≡ false = ⊎_elim
    (λ hit. absurd (true≢false (sym (and_from (nat_lt 0 a) (among (set pairs k 0) a) (lt-ltb 0 a low) hit) ∙ shut)))
    (λ none. none) (cases_Bool (list_any (λ t. nat_eq t a) (set pairs k 0))) in
    let zero_is : count_by (λ t. nat_eq t a) (set pairs k 0) ≡ 0 =
    none_counted (λ t. nat_eq t a) (set pairs k 0) none in
    omega arith

-- each member of a pool's set stands once in the list of members
pub members_once : (n : ℕ) (pairs : List ℕ) (a : ℕ) → IsPool n pairs → among (members_of pairs) a ≡ true →
    count_by (λ t. nat_eq t a) (members_of pairs) ≡ 1
members_once n pairs a pool member =
    let inside : split_set pairs a ≡ true = sym (among-members pairs a) ∙ member in
    count-filter (nat_lt 1) (λ t. nat_eq t a)
    (λ x same. ap (nat_lt 1) (eqb-true x a same) ∙ (and_parts (nat_lt 1 a) (among pairs a) inside).0) pairs
    ∙ once_counted n pairs a pool (set-has_children pairs a inside)

one_of_three : (t : ℕ) → cond (nat_lt 1 t) 1 0 + (cond (nat_eq t 0) 1 0 + cond (nat_eq t 1) 1 0) ≡ 1
one_of_three zero = refl
one_of_three (suc zero) = refl
one_of_three (suc (suc t)) =
    rw (
      lt-ltb 1 (suc (suc t)) (omega arith),
      ne_eqb (suc (suc t)) 0 (λ z. omega arith),
      ne_eqb (suc (suc t)) 1 (λ z. omega arith),
    ) refl

all_counted : (pairs : List ℕ) →
    count_by (nat_lt 1) pairs + (room_of pairs + count_by (λ t. nat_eq t 1) pairs) ≡ length pairs
all_counted [] = refl
all_counted (t ∷ pairs) =
    let here = one_of_three t in
    let rest = all_counted pairs in
    let more : count_by (nat_lt 1) (t ∷ pairs) ≡ cond (nat_lt 1 t) 1 0 + count_by (nat_lt 1) pairs =
    counted_cons (nat_lt 1) t pairs in
    let free : room_of (t ∷ pairs) ≡ cond (nat_eq t 0) 1 0 + room_of pairs = counted_cons (λ x. nat_eq x 0) t pairs in
    let square : count_by (λ x. nat_eq x 1) (t ∷ pairs) ≡ cond (nat_eq t 1) 1 0 + count_by (λ x. nat_eq x 1) pairs =
    counted_cons (λ x. nat_eq x 1) t pairs in
    omega arith

-- a set with the same members is closed too
pub same_closed : (n : ℕ) (has other : ℕ → Bool) → ((a : ℕ) → has a ≡ other a) → IsClosed n has → IsClosed n other
same_closed n has other same closed = record {
  splittable = λ a h. closed.splittable a (same a ∙ h);
  parent = λ a h deep. sym (same (a / 2)) ∙ closed.parent a (same a ∙ h) deep;
  mate = λ a b h m. sym (same b) ∙ closed.mate a b (same a ∙ h) m;
}

-- how many members the set has
pub members_count : (n : ℕ) (pairs : List ℕ) → IsPool n pairs →
    length (members_of pairs) + room_of pairs + 1 ≡ length pairs
members_count n pairs pool =
    let one = once_counted n pairs 1 pool pool.root in
    let all = all_counted pairs in
    let count : length (members_of pairs) ≡ count_by (nat_lt 1) pairs = length-filter (nat_lt 1) pairs in omega arith

-- how many leaves the set has
pub leaves_count : (n : ℕ) (pairs : List ℕ) → IsPool n pairs →
    length (leaves_of n (split_set pairs)) + room_of pairs ≡ length pairs + 1
leaves_count n pairs pool =
    let closed : IsClosed n (among (members_of pairs)) =
    same_closed n (split_set pairs) (among (members_of pairs)) (λ a. sym (among-members pairs a)) pool.closed in
    let leaves : length (leaves_of n (among (members_of pairs))) ≡ length (members_of pairs) + 2 = length-leaves_once n
    (members_of pairs) (λ a h. members_once n pairs a pool (among-in a (members_of pairs) h)) closed in
    let same : length (leaves_of n (among (members_of pairs))) ≡ length (leaves_of n (split_set pairs)) =
    ap length (leaves_of-same n (among (members_of pairs)) (split_set pairs) (among-members pairs)) in
    let count = members_count n pairs pool in omega arith

-- ---- leaves and slots

-- a leaf of the set has a slot, and no children
pub leaf_slot : (n : ℕ) (pairs : List ℕ) (a : ℕ) → IsPool n pairs → IsLeafOf (split_set pairs) a →
    ((s : ℕ) × (address_at pairs s ≡ a)) × (has_children pairs a ≡ false)
leaf_slot n pairs a pool leaf =
    let low = leaf.low in (
      slot_of pairs a low (⊎_elim
          (λ top. ap (has_children pairs) (let half : a / 2 ≡ 1 = omega arith in half) ∙ pool.root)
          (λ deep. set-has_children pairs (a / 2) (leaf.above deep)) (cases_lt a 4)),
      ⊎_elim (λ yes. absurd (true≢false (sym (has_children-set pairs a low yes) ∙ leaf.whole))) (λ no. no)
          (cases_Bool (has_children pairs a)),
    )

-- ---- split and merge

-- a split changes nothing but the diamond
grown_other : (before after : List ℕ) (a p : ℕ) → IsGrown (split_set before) (split_set after) a → p ≢ a →
    (1 ≤ mate_of a → p ≢ mate_of a) → split_set after p ≡ split_set before p
grown_other before after a p grown other apart = same_tests (split_set after p) (split_set before p)
    (λ new. elim (grown.only p new) [
      | inl old ↦ old
      | inr (inl e) ↦ absurd (other e)
      | inr (inr v) ↦ absurd (apart v.0 v.1)
    ])
    (λ old. grown.kept p old)

-- Merging what was split gives the set back.
pub IsMerge-IsSplit : (before middle after : List ℕ) (a : ℕ) → split_set before a ≡ false →
    (1 ≤ mate_of a → split_set before (mate_of a) ≡ false) →
    IsSplit before middle a → IsMerge middle after a → (p : ℕ) → split_set after p ≡ split_set before p
IsMerge-IsSplit before middle after a whole mate_whole split merge p = elim (cases_eq p a) [
  | inl e ↦ ap (split_set after) e ∙ merge.removed ∙ sym (ap (split_set before) e ∙ whole)
  | inr other ↦ elim (cases_lt (mate_of a) 1) [
    | inl none ↦ merge.others p other (λ some. absurd (omega arith))
        ∙ grown_other before middle a p split.grown other (λ some. absurd (omega arith))
    | inr some ↦ elim (cases_eq p (mate_of a)) [
      | inl e ↦ ap (split_set after) e ∙ merge.mate some ∙ sym (ap (split_set before) e ∙ mate_whole some)
      | inr apart ↦ merge.others p other (λ _. apart) ∙ grown_other before middle a p split.grown other (λ _. apart)
    ]
  ]
]

-- Splitting what was merged gives the set back.
pub IsSplit-IsMerge : (before middle after : List ℕ) (a : ℕ) → split_set before a ≡ true →
    (1 ≤ mate_of a → split_set before (mate_of a) ≡ true) →
    IsMerge before middle a → IsSplit middle after a → (p : ℕ) → split_set after p ≡ split_set before p
IsSplit-IsMerge before middle after a member mate_member merge split p = elim (cases_eq p a) [
  | inl e ↦ ap (split_set after) e ∙ split.grown.added ∙ sym (ap (split_set before) e ∙ member)
  | inr other ↦ elim (cases_lt (mate_of a) 1) [
    | inl none ↦ grown_other middle after a p split.grown other (λ some. absurd (omega arith))
        ∙ merge.others p other (λ some. absurd (omega arith))
    | inr some ↦ elim (cases_eq p (mate_of a)) [
      | inl e ↦ ap (split_set after) e ∙ split.grown.mate some ∙ sym (ap (split_set before) e ∙ mate_member some)
      | inr apart ↦ grown_other middle after a p split.grown other (λ _. apart) ∙ merge.others p other (λ _. apart)
    ]
  ]
]

-- ---- the set as a list

-- each member is listed, and nothing else
pub among-split_list : (n : ℕ) (pairs : List ℕ) (a : ℕ) → IsPool n pairs →
    among (split_list n pairs) a ≡ split_set pairs a
unfolding list_of
among-split_list n pairs a pool = sym (among-list_of n (split_set pairs) pool.closed a)

-- the list is that of a closed set
pub split_list-closed : (n : ℕ) (pairs : List ℕ) → IsPool n pairs → IsGridSet n (split_list n pairs)
unfolding list_of
split_list-closed n pairs pool = record {
  n_low = pool.n_low;
  n_high = pool.n_high;
  ascending = ascending-list_of n (split_set pairs);
  closed = same_closed n (split_set pairs) (among (split_list n pairs))
      (among-list_of n (split_set pairs) pool.closed) pool.closed;
}

-- and has the leaves of the set
pub leaves-split_list : (n : ℕ) (pairs : List ℕ) → IsPool n pairs →
    leaves_of n (among (split_list n pairs)) ≡ leaves_of n (split_set pairs)
leaves-split_list n pairs pool =
    leaves_of-same n (among (split_list n pairs)) (split_set pairs) (λ a. among-split_list n pairs a pool)
