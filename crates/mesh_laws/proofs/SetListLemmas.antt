-- Sets as ascending lists: what a filter keeps, how long a list with fewer members is, and that each closed set is such
-- a list.
use Rattle.std.proofs.Common.{◌≡◌, ℕ, zero, suc, ◌+◌, ◌*◌, ◌^◌, ◌<◌, ◌≤◌, ◌⊎◌, ◌||◌, ◌↔◌, inl, inr, Bool, true, false}
use Rattle.std.proofs.Common.{not, nat_eq, IsTrue, List, [], ◌∷◌, length, count_by, All, refl, sym, ◌∙◌, ap, ap₂, subst}
use Rattle.std.proofs.Common.{arith, ⊎_elim}
use Rattle.std.specs.List.{filter, range_with_len, IsDistinct}
use Rattle.std.specs.Set.{is_member}
use Rattle.std.proofs.lemmas.Bool.{cases_lt, cases_Bool, cond_both, both_ways, not_from_false}
use Rattle.std.proofs.lemmas.Cmp.{nat_eq_equiv}
use Rattle.std.proofs.lemmas.List.Elements.{All-nil, All-cons, All-contains, All-filter}
use Rattle.std.proofs.lemmas.List.Filters.{length-filter_both}
use Rattle.std.proofs.lemmas.Map.Made.{length-le_from_is_member}
use Rattle.mesh_defs.specs.Triangle.{IsSplittable}
use Rattle.mesh_defs.specs.ClosedSet.{IsClosed, IsSubset, among}
use Rattle.bintree_laws.proofs.LevelLemmas.{splittable-below}
use Rattle.mesh_defs.proofs.ListLemmas.{IsIn, Contains-in, IsIn-among, among-in, count-cons, count-yes, count-no}
use Rattle.mesh_defs.proofs.ListLemmas.{count-narrower}
use Rattle.mesh_defs.specs.GridSet.{IsAscending}
use Rattle.mesh_defs.proofs.TestLemmas.{same_tests}
use Rattle.mesh_laws.proofs.MemberLemmas.{ascending_unique}

-- what holds of each entry
pub All-in : (P : ℕ → Type 0) (xs : List ℕ) → ((a : ℕ) → IsIn a xs → P a) → All P xs
All-in P [] h = All-nil P
All-in P (x ∷ xs) h = All-cons P x xs (h x (inl refl)) (All-in P xs (λ a i. h a (inr i)))

-- filters

-- an entry that is kept is an entry that passes
pub in-filter : (p : ℕ → Bool) (a : ℕ) (xs : List ℕ) → IsIn a (filter p xs) → IsIn a xs × (p a ≡ true)
in-filter p a [] h = absurd h
in-filter p a (x ∷ xs) h =
    cond_both (p x) (x ∷ filter p xs) (filter p xs) (λ l. IsIn a l → IsIn a (x ∷ xs) × (p a ≡ true))
    (λ passes k. ⊎_elim
    (λ (same : x ≡ a). (inl same, subst (λ z. p z ≡ true) same passes))
    (λ rest. let r = in-filter p a xs rest in (inr r.0, r.1))
    k)
    (λ fails k. let r = in-filter p a xs k in (inr r.0, r.1))
    h

-- an entry that passes is kept
pub filter-in : (p : ℕ → Bool) (a : ℕ) (xs : List ℕ) → IsIn a xs → p a ≡ true → IsIn a (filter p xs)
filter-in p a [] h passes = absurd h
filter-in p a (x ∷ xs) h passes =
    cond_both (p x) (x ∷ filter p xs) (filter p xs) (λ l. IsIn a l)
    (λ yes. ⊎_elim (λ (same : x ≡ a). inl same) (λ rest. inr (filter-in p a xs rest passes)) h)
    (λ no. ⊎_elim
    (λ (same : x ≡ a). absurd (both_ways (p a) (subst (λ z. p z ≡ false) same no) passes))
    (λ rest. filter-in p a xs rest passes)
    h)

-- the same for the test of membership
pub among-filter : (p : ℕ → Bool) (a : ℕ) (xs : List ℕ) → IsTrue (among (filter p xs) a) →
    IsTrue (among xs a) × (p a ≡ true)
among-filter p a xs h = let r = in-filter p a xs (IsIn-among a (filter p xs) h) in (among-in a xs r.0, r.1)

-- an entry that passes stays
pub filter-among : (p : ℕ → Bool) (a : ℕ) (xs : List ℕ) → IsTrue (among xs a) → p a ≡ true →
    IsTrue (among (filter p xs) a)
filter-among p a xs h passes = among-in a (filter p xs) (filter-in p a xs (IsIn-among a xs h) passes)

-- a filter of an ascending list is ascending
pub ascending-filter : (p : ℕ → Bool) (xs : List ℕ) → IsAscending xs → IsAscending (filter p xs)
ascending-filter p [] h = h
ascending-filter p (x ∷ xs) h =
    cond_both (p x) (x ∷ filter p xs) (filter p xs) IsAscending
    (λ yes. (All-filter p (λ y. x < y) xs h.0, ascending-filter p xs h.1))
    (λ no. ascending-filter p xs h.1)

-- lists with the same members

-- two ascending lists with the same members are one
pub same_list : (xs ys : List ℕ) → IsAscending xs → IsAscending ys → IsSubset (among xs) (among ys) →
    IsSubset (among ys) (among xs) → xs ≡ ys
same_list xs ys rises climbs there back =
    ascending_unique xs ys rises climbs (λ a. same_tests (among xs a) (among ys a) (there a) (back a))

-- an ascending list is what the members of one part are, and what the others are
pub length-parts : (part whole : List ℕ) → IsAscending part → IsAscending whole → IsSubset (among part) (among whole) →
    length part + length (filter (λ a. not (among part a)) whole) ≡ length whole
length-parts part whole rises climbs sub =
    let kept : filter (λ a. among part a) whole ≡ part =
    same_list (filter (λ a. among part a) whole) part (ascending-filter (λ a. among part a) whole climbs) rises
    (λ a h. (among-filter (λ a. among part a) a whole h).1)
    (λ a h. filter-among (λ a. among part a) a whole (sub a h) h) in
    let both = length-filter_both (λ a. among part a) (λ a. not (among part a)) (λ a. refl) whole in
    let same : length (filter (λ a. among part a) whole) ≡ length part = ap (λ (l : List ℕ). length l) kept in
    omega arith

-- with fewer members it is no longer
pub length-subset : (part whole : List ℕ) → IsAscending part → IsAscending whole → IsSubset (among part) (among whole) →
    length part ≤ length whole
length-subset part whole rises climbs sub = omega (arith, length-parts part whole rises climbs sub)

-- a list with an entry is not empty
pub length-some : (a : ℕ) (xs : List ℕ) → IsIn a xs → 0 < length xs
length-some a [] h = absurd h
length-some a (x ∷ xs) h = omega arith

-- where a member is missing it is shorter
pub length-less : (part whole : List ℕ) (a : ℕ) → IsAscending part → IsAscending whole →
    IsSubset (among part) (among whole) →
    IsTrue (among whole a) → (IsTrue (among part a) → ⊥) → length part < length whole
length-less part whole a rises climbs sub member outside =
    let out : among part a ≡ false = ⊎_elim (λ is. absurd (outside is)) (λ no. no) (cases_Bool (among part a)) in
    let left = length-some a (filter (λ b. not (among part b)) whole)
    (filter-in (λ b. not (among part b)) a whole (IsIn-among a whole member) (not_from_false (among part a) out)) in
    omega (arith, length-parts part whole rises climbs sub)

-- the entries that do not have P, where that is decided
pub entries_without : (P : ℕ → Type 0) (xs : List ℕ) → IsAscending xs → ((a : ℕ) → IsIn a xs → P a ⊎ (P a → ⊥)) →
    (ys : List ℕ) × IsAscending ys × ((a : ℕ) → IsIn a ys ↔ (IsIn a xs × (P a → ⊥)))
entries_without P [] rises decide = ([], tt, λ a. ((λ i. absurd i), (λ r. r.0)))
entries_without P (x ∷ xs) rises decide =
    let rest = entries_without P xs rises.1 (λ a i. decide a (inr i)) in
    ⊎_elim
    (λ (has : P x). (
      rest.0,
      rest.1,
      λ a. (
        (λ i. let r = (rest.2 a).0 i in (inr r.0, r.1)),
        (λ r. ⊎_elim (λ (same : x ≡ a). absurd (r.1 (subst P same has))) (λ i. (rest.2 a).1 (i, r.1)) r.0),
      ),
    ))
    (λ (lacks : P x → ⊥). (
      x ∷ rest.0,
      (
        All-in (λ y. x < y) rest.0
            (λ a i. All-contains (λ y. x < y) xs a rises.0 (Contains-in a xs ((rest.2 a).0 i).0)),
        rest.1,
      ),
      λ a. (
        (λ i. ⊎_elim
            (λ (same : x ≡ a). (inl same, λ (k : P a). lacks (subst P (sym same) k)))
            (λ j. let r = (rest.2 a).0 j in (inr r.0, r.1))
            i),
        (λ r. ⊎_elim (λ (same : x ≡ a). inl same) (λ i. inr ((rest.2 a).1 (i, r.1))) r.0),
      ),
    ))
    (decide x (inl refl))

-- the two tests of membership agree
pub is_member-among : (a : ℕ) (xs : List ℕ) → is_member nat_eq xs a ≡ among xs a
is_member-among a [] = refl
is_member-among a (x ∷ xs) = ap₂ (λ (b c : Bool). b || c) (nat_eq_equiv.symm a x) (is_member-among a xs)

-- a list in which no entry stands twice is no longer than a list with its entries
pub length-distinct : (xs ys : List ℕ) → IsDistinct nat_eq xs → IsSubset (among xs) (among ys) → length xs ≤ length ys
length-distinct xs ys distinct sub =
    length-le_from_is_member nat_eq_equiv xs ys distinct
    (λ a h. is_member-among a ys ∙ sub a (sym (is_member-among a xs) ∙ h))

-- counts

-- a test that passes at no more entries counts no more
pub count-no_more : (p q : ℕ → Bool) (xs : List ℕ) → ((t : ℕ) → IsIn t xs → p t ≡ true → q t ≡ true) →
    count_by p xs ≤ count_by q xs
count-no_more p q [] narrow = omega arith
count-no_more p q (x ∷ xs) narrow =
    let rest = count-no_more p q xs (λ t i. narrow t (inr i)) in
    ⊎_elim
    (λ is. let one = count-yes p x xs is in let two = count-yes q x xs (narrow x (inl refl) is) in omega arith)
    (λ no. let none = count-no p x xs no in let second = count-cons q x xs in omega arith)
    (cases_Bool (p x))

-- a test that passes at fewer entries counts fewer
pub count-less : (p q : ℕ → Bool) (a : ℕ) (xs : List ℕ) → ((t : ℕ) → p t ≡ true → q t ≡ true) → IsIn a xs →
    p a ≡ false → q a ≡ true → count_by p xs < count_by q xs
count-less p q a [] narrow i fails passes = absurd i
count-less p q a (x ∷ xs) narrow (inl same) fails passes =
    let no = count-no p x xs (subst (λ z. p z ≡ false) (sym same) fails) in
    let yes = count-yes q x xs (subst (λ z. q z ≡ true) (sym same) passes) in
    let rest = count-narrower p q xs narrow in omega arith
count-less p q a (x ∷ xs) narrow (inr i) fails passes =
    let rest = count-less p q a xs narrow i fails passes in
    ⊎_elim
    (λ is. let one = count-yes p x xs is in let two = count-yes q x xs (narrow x is) in omega arith)
    (λ no. let none = count-no p x xs no in let second = count-cons q x xs in omega arith)
    (cases_Bool (p x))

-- ranges of numbers

-- the numbers from low on, so many of them, are in their range
pub in-range : (low count a : ℕ) → low ≤ a → a < low + count → IsIn a (range_with_len low count)
in-range low zero a first last = absurd (omega arith)
in-range low (suc count) a first last = ⊎_elim
    (λ more. inr (in-range (low + 1) count a (omega arith) (omega arith)))
    (λ (less : a ≤ low). inl (let e : low ≡ a = omega arith in e))
    (cases_lt low a)

-- what is in a range is no less than its first number
pub range-low : (low count a : ℕ) → IsIn a (range_with_len low count) → low ≤ a
range-low low zero a h = absurd h
range-low low (suc count) a (inl e) = omega arith
range-low low (suc count) a (inr h) = let r = range-low (low + 1) count a h in omega arith

-- a range is ascending
pub ascending-range : (low count : ℕ) → IsAscending (range_with_len low count)
ascending-range low zero = tt
ascending-range low (suc count) = (
  All-in (λ y. low < y) (range_with_len (low + 1) count) (λ a h. let r = range-low (low + 1) count a h in omega arith),
  ascending-range (low + 1) count,
)

-- closed sets as lists

-- the members of a closed set, in ascending order
unfoldable pub list_of : ℕ → (ℕ → Bool) → List ℕ
list_of n has = filter has (range_with_len 0 (4 * 2 ^ (2 * n)))

-- the list of a set is ascending
pub ascending-list_of : (n : ℕ) (has : ℕ → Bool) → IsAscending (list_of n has)
unfolding list_of
ascending-list_of n has =
    ascending-filter has (range_with_len 0 (4 * 2 ^ (2 * n))) (ascending-range 0 (4 * 2 ^ (2 * n)))

-- what is listed is a member
pub list_of-among : (n : ℕ) (has : ℕ → Bool) (a : ℕ) → IsTrue (among (list_of n has) a) → IsTrue (has a)
unfolding list_of
list_of-among n has a h = (among-filter has a (range_with_len 0 (4 * 2 ^ (2 * n))) h).1

-- and a splittable member is listed
pub among-list : (n : ℕ) (has : ℕ → Bool) (a : ℕ) → IsSplittable n a → IsTrue (has a) → IsTrue (among (list_of n has) a)
unfolding list_of
among-list n has a splittable is = filter-among has a (range_with_len 0 (4 * 2 ^ (2 * n)))
    (among-in a (range_with_len 0 (4 * 2 ^ (2 * n)))
    (in-range 0 (4 * 2 ^ (2 * n)) a (omega arith) (let b = splittable-below n a splittable in omega arith))) is

-- so a closed set is the list of its members
pub among-list_of : (n : ℕ) (has : ℕ → Bool) → IsClosed n has → (a : ℕ) → has a ≡ among (list_of n has) a
among-list_of n has closed a = same_tests (has a) (among (list_of n has) a)
    (λ is. among-list n has a (closed.splittable a is) is)
    (λ is. list_of-among n has a is)
