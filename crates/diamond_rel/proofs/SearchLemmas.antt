-- Ascending lists: what a binary search finds in them, and an insert at its place.
use Rattle.std.proofs.Common.{◌≡◌, ℕ, zero, suc, ◌<◌, ◌≤◌, inl, inr, Bool, true, false, eqb, ◌||◌, List, [], ◌∷◌}
use Rattle.std.proofs.Common.{length, take, drop, get_or, All, Result, Ok, Err, is_ok, refl, sym, ◌∙◌, ap, subst, arith}
use Rattle.std.proofs.Common.{⊎_elim, take-append-drop}
use Rattle.std.proofs.lemmas.Bool.{cases_lt, false≢true, false_from_ne_true, eqb-true}
use Rattle.std.proofs.lemmas.List.Elements.{All-nil, All-cons, All-head, All-tail}
use Rattle.std.proofs.lemmas.List.Folds.{list_any-append}
use Rattle.std.proofs.lemmas.List.Sorted.{searched}
use Rattle.std.specs.List.{insert}
use Rattle.std.specs.List.Sorted.{IsBinarySearchResult}
use Rattle.std.specs.Ordering.{nat_cmp}
use Rattle.mesh_defs.specs.ClosedSet.{among}
use Rattle.mesh_defs.specs.Greedy.{with_triangle}
use Rattle.mesh_defs.specs.GridSet.{IsAscending}
use Rattle.mesh_defs.proofs.ListLemmas.{IsIn, IsIn-among, among-in}

-- places

-- an earlier entry is less than a later one
pub ascending-at : (xs : List ℕ) → IsAscending xs → (i j : ℕ) → i < j → j < length xs → get_or xs i 0 < get_or xs j 0
ascending-at [] o i j h k = absurd (omega arith)
ascending-at (x ∷ xs) o i zero h k = absurd (omega arith)
ascending-at (x ∷ xs) o zero (suc j) h k = o.0 j 0 (omega arith)
ascending-at (x ∷ xs) o (suc i) (suc j) h k = ascending-at xs o.1 i j (omega arith) (omega arith)

-- and no greater than itself
rising-at : (xs : List ℕ) → IsAscending xs → (i j : ℕ) → i ≤ j → j < length xs → get_or xs i 0 ≤ get_or xs j 0
rising-at xs o i j h k = ⊎_elim
    (λ less. let step = ascending-at xs o i j less k in omega arith)
    (λ same.
    let e : get_or xs i 0 ≡ get_or xs j 0 = ap (λ z. get_or xs z 0) (let f : i ≡ j = omega arith in f) in
    omega arith)
    (cases_lt i j)

-- an entry has a place
place_of : (a : ℕ) (xs : List ℕ) → IsIn a xs → (k : ℕ) × (k < length xs) × (get_or xs k 0 ≡ a)
place_of a [] h = absurd h
place_of a (x ∷ xs) (inl e) = (zero, omega arith, e)
place_of a (x ∷ xs) (inr h) =
    let rest : (k : ℕ) × (k < length xs) × (get_or xs k 0 ≡ a) = place_of a xs h in
    (suc rest.0, (let b = rest.1 in omega arith), rest.2)

-- what stands at a place is an entry
at_place : (k : ℕ) (xs : List ℕ) → k < length xs → IsIn (get_or xs k 0) xs
at_place k [] h = absurd (omega arith)
at_place zero (x ∷ xs) h = inl refl
at_place (suc k) (x ∷ xs) h = inr (at_place k xs (omega arith))

-- the place for t: all before are less, and all from there on are greater
pub record IsPlaceFor (xs : List ℕ) (t i : ℕ) : Type 0 where
  pub within : i ≤ length xs
  pub before : (k : ℕ) → k < i → get_or xs k 0 < t
  pub after : (k : ℕ) → i ≤ k → k < length xs → t < get_or xs k 0

-- a search that fails gives the place
pub IsPlaceFor-searched : (xs : List ℕ) (t i : ℕ) → IsAscending xs →
    IsBinarySearchResult (λ y. nat_cmp y t) xs (Err i) → IsPlaceFor xs t i
IsPlaceFor-searched xs t i o r =
    let h = searched xs t (Err i) r (rising-at xs o) in record { within = h.0; before = h.1; after = h.2 }

-- what has a place to be put is not there
not_there : (xs : List ℕ) (t i : ℕ) → IsPlaceFor xs t i → among xs t ≡ false
not_there xs t i p = false_from_ne_true (among xs t) (λ is.
    let at = place_of t xs (IsIn-among t xs is) in
    ⊎_elim
    (λ early. let less : get_or xs at.0 0 < t = p.before at.0 early in let e = at.2 in omega arith)
    (λ late. let more : t < get_or xs at.0 0 = p.after at.0 late at.1 in let e = at.2 in omega arith)
    (cases_lt at.0 i))

-- a search finds what is there
pub is_ok-searched : (xs : List ℕ) (t : ℕ) (r : Result ℕ ℕ) → IsAscending xs →
    IsBinarySearchResult (λ y. nat_cmp y t) xs r → is_ok r ≡ among xs t
is_ok-searched xs t (Ok i) o r =
    let h = searched xs t (Ok i) r (rising-at xs o) in
    sym (among-in t xs (subst (λ z. IsIn z xs) h.1 (at_place i xs h.0)))
is_ok-searched xs t (Err i) o r = sym (not_there xs t i (IsPlaceFor-searched xs t i o r))

-- what a search finds is an entry
pub found-searched : (xs : List ℕ) (t i : ℕ) → IsAscending xs →
    IsBinarySearchResult (λ y. nat_cmp y t) xs (Ok i) → IsIn t xs
found-searched xs t i o r =
    let h = searched xs t (Ok i) r (rising-at xs o) in subst (λ z. IsIn z xs) h.1 (at_place i xs h.0)

-- inserts

-- from places to all entries
All-places : (P : ℕ → Type 0) (xs : List ℕ) → ((k : ℕ) → k < length xs → P (get_or xs k 0)) → All P xs
All-places P [] h = All-nil P
All-places P (x ∷ xs) h = All-cons P x xs (h zero (omega arith)) (All-places P xs (λ k b. h (suc k) (omega arith)))

-- in place
pub ascending-insert : (xs : List ℕ) (t i : ℕ) → IsAscending xs → IsPlaceFor xs t i → IsAscending (insert xs i t)
ascending-insert xs t zero o p = (All-places (λ y. t < y) xs (λ k b. p.after k (omega arith) b), o)
ascending-insert [] t (suc i) o p = let h = p.within in absurd (omega arith)
ascending-insert (x ∷ xs) t (suc i) o p =
    let less : x < t = p.before zero (omega arith) in
    let later : All (λ y. x < y) (insert xs i t) = All-insert (λ y. x < y) xs i t o.0 less in (
      later,
      ascending-insert xs t i o.1 record {
        within = let h = p.within in omega arith;
        before = λ k b. p.before (suc k) (omega arith);
        after = λ k b c. p.after (suc k) (omega arith) (omega arith);
      },
    )
  where
    All-insert : (P : ℕ → Type 0) (ys : List ℕ) (j y : ℕ) → All P ys → P y → All P (insert ys j y)
    All-insert P [] zero y all q = All-cons P y [] q (All-nil P)
    All-insert P [] (suc j) y all q = All-cons P y [] q (All-nil P)
    All-insert P (z ∷ ys) zero y all q = All-cons P y (z ∷ ys) q all
    All-insert P (z ∷ ys) (suc j) y all q =
        All-cons P z (insert ys j y) (All-head P z ys all) (All-insert P ys j y (All-tail P z ys all) q)

-- three tests in another order
or_turned : (x y z : Bool) → (x || (y || z)) ≡ ((x || z) || y)
or_turned true y z = refl
or_turned false true true = refl
or_turned false true false = refl
or_turned false false true = refl
or_turned false false false = refl

-- an insert adds its element
pub among-insert : (xs : List ℕ) (t i a : ℕ) → among (insert xs i t) a ≡ with_triangle (among xs) t a
among-insert xs t i a =
    list_any-append (λ z. eqb z a) (take i xs) (t ∷ drop i xs)
    ∙ or_turned (among (take i xs) a) (eqb t a) (among (drop i xs) a)
    ∙ ap (λ b. b || eqb t a) (sym (list_any-append (λ z. eqb z a) (take i xs) (drop i xs))
    ∙ ap (λ l. among l a) (take-append-drop i xs))

-- what is there is added by nothing
pub among-there : (xs : List ℕ) (t a : ℕ) → IsIn t xs → among xs a ≡ with_triangle (among xs) t a
among-there xs t a h = by_cases (among xs a) (eqb t a) refl refl
  where
    by_cases : (b c : Bool) → among xs a ≡ b → eqb t a ≡ c → b ≡ (b || c)
    by_cases true c e f = refl
    by_cases false true e f = absurd (false≢true (sym e ∙ among-in a xs (subst (λ z. IsIn z xs) (eqb-true t a f) h)))
    by_cases false false e f = refl
