-- Lists in which no entry stands twice, and the sizes of closed sets.
use Rattle.std.proofs.Common.{◌≡◌, ℕ, ◌+◌, ◌/◌, ◌<◌, ◌≤◌, ◌⊎◌, inl, inr, Bool, true, false, eqb, nat_eq, IsTrue, List}
use Rattle.std.proofs.Common.{[], ◌∷◌, length, refl, sym, ◌∙◌, ap, subst, arith, ⊎_elim, eq-eqb, count_by}
use Rattle.std.proofs.lemmas.Bool.{cases_lt, cases_Bool, both_ways, or_cases, or_left, or_right, ne_eqb, false≢true}
use Rattle.std.proofs.lemmas.Bool.{eqb-true}
use Rattle.std.proofs.lemmas.List.Elements.{All-contains}
use Rattle.std.proofs.lemmas.Map.Keys.{IsDistinct-cons, IsDistinct-head, IsDistinct-tail}
use Rattle.mesh_defs.specs.ClosedSet.{IsClosed, IsSubset, leaves_of, among}
use Rattle.mesh_defs.proofs.ListLemmas.{IsIn, Contains-in, IsIn-among, among-in, count-cons, count-yes, count-no}
use Rattle.mesh_defs.proofs.ListLemmas.{count-some, some-count}
use Rattle.mesh_defs.specs.GridSet.{IsAscending}
use Rattle.mesh_laws.proofs.ClosureLemmas.{leaves_of-same}
use Rattle.mesh_laws.proofs.SizeLemmas.{length-leaves_of}
use Rattle.std.specs.List.{IsDistinct, AllByRecursion}
use Rattle.mesh_laws.proofs.SetListLemmas.{list_of, ascending-list_of, among-list_of}
use Rattle.mesh_laws.proofs.SetListLemmas.{length-distinct}

-- searching

-- some entry has P, or none, where that is decided
pub some_or_none : (P : ℕ → Type 0) (xs : List ℕ) → ((a : ℕ) → IsIn a xs → P a ⊎ (P a → ⊥)) →
    ((a : ℕ) × IsIn a xs × P a) ⊎ ((a : ℕ) → IsIn a xs → P a → ⊥)
some_or_none P [] decide = inr (λ a i. absurd i)
some_or_none P (x ∷ xs) decide = ⊎_elim
    (λ (yes : P x). inl (x, inl refl, yes))
    (λ (no : P x → ⊥). ⊎_elim
    (λ (found : (a : ℕ) × IsIn a xs × P a). inl (found.0, inr found.1, found.2))
    (λ (none : (a : ℕ) → IsIn a xs → P a → ⊥).
    inr (λ a i p. ⊎_elim (λ (same : x ≡ a). no (subst P (sym same) p)) (λ h. none a h p) i))
    (some_or_none P xs (λ a i. decide a (inr i))))
    (decide x (inl refl))

-- no entry twice

-- by the head: it is none of the others
apart-from : (x : ℕ) (xs : List ℕ) → (IsTrue (among xs x) → ⊥) → AllByRecursion (λ y. nat_eq x y ≡ false) xs
apart-from x [] out = tt
apart-from x (y ∷ ys) out = (
  ne_eqb x y (λ e. out (or_left (eqb y x) (among ys x) (eq-eqb y x (sym e)))),
  apart-from x ys (λ h. out (or_right (eqb y x) (among ys x) h)),
)

apart-none : (x : ℕ) (xs : List ℕ) → AllByRecursion (λ y. nat_eq x y ≡ false) xs → IsTrue (among xs x) → ⊥
apart-none x [] all h = false≢true h
apart-none x (y ∷ ys) all h = ⊎_elim
    (λ same. both_ways (eqb x y) all.0 (eq-eqb x y (sym (eqb-true y x same))))
    (λ rest. apart-none x ys all.1 rest)
    (or_cases (eqb y x) (among ys x) h)

-- a new entry before a list in which none stands twice
pub distinct-cons : (x : ℕ) (xs : List ℕ) → (IsTrue (among xs x) → ⊥) → IsDistinct nat_eq xs →
    IsDistinct nat_eq (x ∷ xs)
distinct-cons x xs out distinct = IsDistinct-cons nat_eq x xs (apart-from x xs out) distinct

-- the first entry is none of the others
pub distinct-head : (x : ℕ) (xs : List ℕ) → IsDistinct nat_eq (x ∷ xs) → IsTrue (among xs x) → ⊥
distinct-head x xs distinct = apart-none x xs (IsDistinct-head nat_eq x xs distinct)

-- and none of the others stands twice
pub distinct-tail : (x : ℕ) (xs : List ℕ) → IsDistinct nat_eq (x ∷ xs) → IsDistinct nat_eq xs
distinct-tail x xs distinct = IsDistinct-tail nat_eq x xs distinct

-- in the empty list none stands twice
pub distinct-none : IsDistinct nat_eq []
unfolding IsDistinct
distinct-none = tt

-- an ascending list has no entry twice
pub distinct-ascending : (xs : List ℕ) → IsAscending xs → IsDistinct nat_eq xs
distinct-ascending [] rises = distinct-none
distinct-ascending (x ∷ xs) rises = distinct-cons x xs
    (λ h.
    let less : x < x = All-contains (λ y. x < y) xs x rises.0 (Contains-in x xs (IsIn-among x xs h)) in
    absurd (omega arith))
    (distinct-ascending xs rises.1)

-- whether an entry stands twice is decided
pub distinct_or_not : (xs : List ℕ) → IsDistinct nat_eq xs ⊎ (IsDistinct nat_eq xs → ⊥)
distinct_or_not [] = inl distinct-none
distinct_or_not (x ∷ xs) = ⊎_elim
    (λ (twice : among xs x ≡ true). inr (λ (d : IsDistinct nat_eq (x ∷ xs)). distinct-head x xs d twice))
    (λ (once : among xs x ≡ false). ⊎_elim
    (λ (rest : IsDistinct nat_eq xs). inl (distinct-cons x xs (λ h. both_ways (among xs x) once h) rest))
    (λ (rest : IsDistinct nat_eq xs → ⊥). inr (λ (d : IsDistinct nat_eq (x ∷ xs)). rest (distinct-tail x xs d)))
    (distinct_or_not xs))
    (cases_Bool (among xs x))

-- where each entry is counted once, none stands twice
pub distinct-counts : (xs : List ℕ) → ((a : ℕ) → IsIn a xs → count_by (λ t. eqb t a) xs ≤ 1) → IsDistinct nat_eq xs
distinct-counts [] once = distinct-none
distinct-counts (x ∷ xs) once = distinct-cons x xs
    (λ h.
    let first = count-yes (λ t. eqb t x) x xs (eq-eqb x x refl) in
    let more = count-some (λ t. eqb t x) x xs (IsIn-among x xs h) (eq-eqb x x refl) in
    let most = once x (inl refl) in
    absurd (omega arith))
    (distinct-counts xs (λ a i. let c = count-cons (λ t. eqb t a) x xs in let most = once a (inr i) in omega arith))

-- where the entries that pass are all one, it is counted once at most
pub count-one : (p : ℕ → Bool) (xs : List ℕ) → IsDistinct nat_eq xs →
    ((a b : ℕ) → IsIn a xs → IsIn b xs → p a ≡ true → p b ≡ true → a ≡ b) →
    count_by p xs ≤ 1
count-one p [] distinct same = omega arith
count-one p (x ∷ xs) distinct same = ⊎_elim
    (λ yes.
    let c = count-yes p x xs yes in
    ⊎_elim
    (λ none. omega arith)
    (λ some.
    let e = some-count p xs some in
    absurd (distinct-head x xs distinct
    (among-in x xs (subst (λ z. IsIn z xs) (sym (same x e.0 (inl refl) (inr e.1) yes e.2)) e.1))))
    (cases_lt (count_by p xs) 1))
    (λ no. let c = count-no p x xs no in
    let rest = count-one p xs (distinct-tail x xs distinct) (λ a b i j. same a b (inr i) (inr j)) in omega arith)
    (cases_Bool (p x))

-- a list as long as another that holds it has all its entries
pub subset-length : (xs ys : List ℕ) → IsDistinct nat_eq xs → IsSubset (among xs) (among ys) → length ys ≤ length xs →
    IsSubset (among ys) (among xs)
subset-length xs ys distinct sub long a h = ⊎_elim
    (λ member. member)
    (λ (missing : among xs a ≡ false).
    let more : length (a ∷ xs) ≤ length ys =
    length-distinct (a ∷ xs) ys (distinct-cons a xs (λ i. both_ways (among xs a) missing i) distinct) (λ b i. ⊎_elim
    (λ same. subst (λ z. IsTrue (among ys z)) (eqb-true a b same) h)
    (λ old. sub b old)
    (or_cases (eqb a b) (among xs b) i)) in
    absurd (omega arith))
    (cases_Bool (among xs a))

-- sizes

-- the members of a closed set are a closed list
pub closed-list_of : (n : ℕ) (has : ℕ → Bool) → IsClosed n has → IsClosed n (among (list_of n has))
closed-list_of n has closed =
    let same = among-list_of n has closed in record {
      splittable = λ a h. closed.splittable a (same a ∙ h);
      parent = λ a h big. sym (same (a / 2)) ∙ closed.parent a (same a ∙ h) big;
      mate = λ a b h m. sym (same b) ∙ closed.mate a b (same a ∙ h) m;
    }

-- a closed set has two leaves more than members
pub size_of-leaves : (n : ℕ) (has : ℕ → Bool) → IsClosed n has → length (leaves_of n has) ≡ length (list_of n has) + 2
size_of-leaves n has closed =
    ap (λ (l : List ℕ). length l) (leaves_of-same n has (among (list_of n has)) (among-list_of n has closed))
    ∙ length-leaves_of n (list_of n has) (ascending-list_of n has) (closed-list_of n has closed)

-- a list of members without repetition is no longer than the set
pub length-members_le : (n : ℕ) (has : ℕ → Bool) (xs : List ℕ) → IsClosed n has → IsDistinct nat_eq xs →
    ((a : ℕ) → IsIn a xs → IsTrue (has a)) →
    length xs + 2 ≤ length (leaves_of n has)
length-members_le n has xs closed distinct inside =
    let size = size_of-leaves n has closed in
    let most = length-distinct xs (list_of n has) distinct
    (λ a h. sym (among-list_of n has closed a) ∙ inside a (IsIn-among a xs h)) in
    omega arith
