-- Membership by recursion, and counts of entries that pass a test.
use Rattle.std.proofs.Common.{◌≡◌, ℕ, zero, suc, ◌+◌, ◌<◌, ◌≤◌, ◌⊎◌, inl, inr, Bool, true, false, cond, eqb, List, []}
use Rattle.std.proofs.Common.{◌∷◌, ◌++◌, length, Contains, refl, sym, ◌∙◌, ap, subst, arith, ⊎_elim, count_by, eq-eqb}
use Rattle.std.proofs.lemmas.Bool.{eqb-true, or_cases, or_left, or_right, cond-true, cond-false, cases_Bool, false≢true}
use Rattle.std.proofs.lemmas.List.Sums.{sum_by-cons, sum_by-le-sum_by}
use Rattle.std.specs.List.{list_any}
use Rattle.mesh_defs.specs.ClosedSet.{among}

-- a is an entry
abbrev pub IsIn : ℕ → List ℕ → Type 0
IsIn a [] = ⊥
IsIn a (x ∷ xs) = (x ≡ a) ⊎ IsIn a xs

-- from membership by a place, and to it
pub IsIn-contains : (a : ℕ) (xs : List ℕ) → Contains xs a → IsIn a xs
IsIn-contains a [] (k, h, e) = absurd (omega arith)
IsIn-contains a (x ∷ xs) (zero, h, e) = inl e
IsIn-contains a (x ∷ xs) (suc k, h, e) = inr (IsIn-contains a xs (k, omega arith, e))

-- to membership by a place
pub Contains-in : (a : ℕ) (xs : List ℕ) → IsIn a xs → Contains xs a
Contains-in a [] h = absurd h
Contains-in a (x ∷ xs) (inl e) = (zero, omega arith, e)
Contains-in a (x ∷ xs) (inr h) =
    let rest : Contains xs a = Contains-in a xs h in
    (suc rest.0, (let below : rest.0 < length xs = rest.1 in omega arith), rest.2)

-- from the test of membership, and to it
pub IsIn-among : (a : ℕ) (xs : List ℕ) → among xs a ≡ true → IsIn a xs
IsIn-among a [] h = absurd (false≢true h)
IsIn-among a (x ∷ xs) h = ⊎_elim
    (λ first. inl (eqb-true x a first))
    (λ rest. inr (IsIn-among a xs rest))
    (or_cases (eqb x a) (among xs a) h)

-- to the test of membership
pub among-in : (a : ℕ) (xs : List ℕ) → IsIn a xs → among xs a ≡ true
among-in a [] h = absurd h
among-in a (x ∷ xs) (inl e) = or_left (eqb x a) (among xs a) (eq-eqb x a e)
among-in a (x ∷ xs) (inr h) = or_right (eqb x a) (among xs a) (among-in a xs h)

-- the entries of two lists
pub IsIn-append : (a : ℕ) (xs ys : List ℕ) → IsIn a (xs ++ ys) → IsIn a xs ⊎ IsIn a ys
IsIn-append a [] ys h = inr h
IsIn-append a (x ∷ xs) ys (inl e) = inl (inl e)
IsIn-append a (x ∷ xs) ys (inr h) = ⊎_elim (λ left. inl (inr left)) (λ right. inr right) (IsIn-append a xs ys h)

-- an entry of the first list is one of both
pub IsIn-append-left : (a : ℕ) (xs ys : List ℕ) → IsIn a xs → IsIn a (xs ++ ys)
IsIn-append-left a [] ys h = absurd h
IsIn-append-left a (x ∷ xs) ys (inl e) = inl e
IsIn-append-left a (x ∷ xs) ys (inr h) = inr (IsIn-append-left a xs ys h)

-- and so is an entry of the second
pub IsIn-append-right : (a : ℕ) (xs ys : List ℕ) → IsIn a ys → IsIn a (xs ++ ys)
IsIn-append-right a [] ys h = h
IsIn-append-right a (x ∷ xs) ys h = inr (IsIn-append-right a xs ys h)

-- some entry passes
pub Any-in : (p : ℕ → Bool) (xs : List ℕ) → list_any p xs ≡ true → (e : ℕ) × IsIn e xs × (p e ≡ true)
Any-in p [] h = absurd (false≢true h)
Any-in p (x ∷ xs) h = ⊎_elim
    (λ first. (x, inl refl, first))
    (λ rest. let e : (e : ℕ) × IsIn e xs × (p e ≡ true) = Any-in p xs rest in (e.0, inr e.1, e.2))
    (or_cases (p x) (list_any p xs) h)

-- an entry that passes makes the test pass
pub list_any-in : (p : ℕ → Bool) (xs : List ℕ) (e : ℕ) → IsIn e xs → p e ≡ true → list_any p xs ≡ true
list_any-in p [] e h is = absurd h
list_any-in p (x ∷ xs) e (inl same) is = or_left (p x) (list_any p xs) (subst (λ z. p z ≡ true) (sym same) is)
list_any-in p (x ∷ xs) e (inr h) is = or_right (p x) (list_any p xs) (list_any-in p xs e h is)

-- counts

-- 1 for a test that passes, else 0
abbrev pub one_if : Bool → ℕ
one_if b = cond b 1 0

-- a test that fails counts nothing
pub one_if-no : (b : Bool) → (b ≡ true → ⊥) → one_if b ≡ 0
one_if-no true h = absurd (h refl)
one_if-no false h = refl

-- one entry more
pub count-cons : (p : ℕ → Bool) (x : ℕ) (xs : List ℕ) → count_by p (x ∷ xs) ≡ one_if (p x) + count_by p xs
count-cons p x xs = sum_by-cons (λ t. cond (p t) 1 0) x xs

-- an entry that passes adds one
pub count-yes : (p : ℕ → Bool) (x : ℕ) (xs : List ℕ) → p x ≡ true → count_by p (x ∷ xs) ≡ 1 + count_by p xs
count-yes p x xs is = count-cons p x xs ∙ ap (λ k. k + count_by p xs) (cond-true (p x) 1 0 is)

-- an entry that fails adds nothing
pub count-no : (p : ℕ → Bool) (x : ℕ) (xs : List ℕ) → p x ≡ false → count_by p (x ∷ xs) ≡ count_by p xs
count-no p x xs is = count-cons p x xs ∙ ap (λ k. k + count_by p xs) (cond-false (p x) 1 0 is) ∙ omega arith

-- an entry that passes is counted
pub count-some : (p : ℕ → Bool) (a : ℕ) (xs : List ℕ) → IsIn a xs → p a ≡ true → 1 ≤ count_by p xs
count-some p a [] h is = absurd h
count-some p a (x ∷ xs) (inl e) is = let c = count-yes p x xs (subst (λ z. p z ≡ true) (sym e) is) in omega arith
count-some p a (x ∷ xs) (inr h) is =
    let c = count-cons p x xs in let rest : 1 ≤ count_by p xs = count-some p a xs h is in omega arith

-- and what is counted is an entry that passes
pub some-count : (p : ℕ → Bool) (xs : List ℕ) → 1 ≤ count_by p xs → (e : ℕ) × IsIn e xs × (p e ≡ true)
some-count p [] h = absurd (omega arith)
some-count p (x ∷ xs) h = ⊎_elim
    (λ yes. (x, inl refl, yes))
    (λ no. let c = count-no p x xs no in
    let e : (e : ℕ) × IsIn e xs × (p e ≡ true) = some-count p xs (omega arith) in (e.0, inr e.1, e.2))
    (cases_Bool (p x))

-- where one is counted, two entries that pass are the same
pub one_entry : (p : ℕ → Bool) (xs : List ℕ) (a b : ℕ) → count_by p xs ≤ 1 → IsIn a xs → IsIn b xs →
    p a ≡ true → p b ≡ true → a ≡ b
one_entry p [] a b one in_a in_b is_a is_b = absurd in_a
one_entry p (x ∷ xs) a b one (inl e) (inl f) is_a is_b = sym e ∙ f
one_entry p (x ∷ xs) a b one (inl e) (inr h) is_a is_b =
    let c = count-yes p x xs (subst (λ z. p z ≡ true) (sym e) is_a) in
    let some : 1 ≤ count_by p xs = count-some p b xs h is_b in absurd (omega arith)
one_entry p (x ∷ xs) a b one (inr h) (inl f) is_a is_b =
    let c = count-yes p x xs (subst (λ z. p z ≡ true) (sym f) is_b) in
    let some : 1 ≤ count_by p xs = count-some p a xs h is_a in absurd (omega arith)
one_entry p (x ∷ xs) a b one (inr h) (inr k) is_a is_b =
    let c = count-cons p x xs in one_entry p xs a b (omega arith) h k is_a is_b

-- a narrower test counts no more
pub count-narrower : (p q : ℕ → Bool) (xs : List ℕ) → ((t : ℕ) → p t ≡ true → q t ≡ true) →
    count_by p xs ≤ count_by q xs
count-narrower p q xs within =
    sum_by-le-sum_by (λ t. cond (p t) 1 0) (λ t. cond (q t) 1 0) xs (λ t. at (p t) (q t) (within t))
  where
    at : (b c : Bool) → (b ≡ true → c ≡ true) → one_if b ≤ one_if c
    at true c h = let e : one_if c ≡ 1 = ap one_if (h refl) in omega arith
    at false c h = omega arith

-- lists with the same counts have the same length

-- the list without the first a
without : ℕ → List ℕ → List ℕ
without a [] = []
without a (x ∷ xs) = cond (eqb x a) xs (x ∷ without a xs)

-- an entry of the list that is not its first one is an entry of the others
later : (x a : ℕ) (xs : List ℕ) → eqb x a ≡ false → IsIn a (x ∷ xs) → IsIn a xs
later x a xs other (inl e) = absurd (false≢true (sym other ∙ eq-eqb x a e))
later x a xs other (inr k) = k

-- one entry less
length-without : (a : ℕ) (xs : List ℕ) → IsIn a xs → length xs ≡ 1 + length (without a xs)
unfolding without
length-without a [] h = absurd h
length-without a (x ∷ xs) h = ⊎_elim
    (λ yes. let e = ap length (cond-true (eqb x a) xs (x ∷ without a xs) yes) in omega arith)
    (λ no. let e = ap length (cond-false (eqb x a) xs (x ∷ without a xs) no) in
    let rest : length xs ≡ 1 + length (without a xs) = length-without a xs (later x a xs no h) in omega arith)
    (cases_Bool (eqb x a))

-- and its count goes
count-without : (p : ℕ → Bool) (a : ℕ) (xs : List ℕ) → IsIn a xs →
    count_by p xs ≡ one_if (p a) + count_by p (without a xs)
unfolding without
count-without p a [] h = absurd h
count-without p a (x ∷ xs) h = ⊎_elim
    (λ yes. let e = ap (count_by p) (cond-true (eqb x a) xs (x ∷ without a xs) yes) in
    let same : one_if (p x) ≡ one_if (p a) = ap (λ z. one_if (p z)) (eqb-true x a yes) in
    let c = count-cons p x xs in omega arith)
    (λ no. let e = ap (count_by p) (cond-false (eqb x a) xs (x ∷ without a xs) no) in
    let c = count-cons p x xs in let d = count-cons p x (without a xs) in
    let rest : count_by p xs ≡ one_if (p a) + count_by p (without a xs) = count-without p a xs (later x a xs no h) in
    omega arith)
    (cases_Bool (eqb x a))

-- each test counts as many in the one as in the other
pub count-counts : (p : ℕ → Bool) (xs ys : List ℕ) →
    ((a : ℕ) → count_by (λ t. eqb t a) xs ≡ count_by (λ t. eqb t a) ys) → count_by p xs ≡ count_by p ys
count-counts p [] [] same = refl
count-counts p [] (y ∷ ys) same =
    let c = count-yes (λ t. eqb t y) y ys (eq-eqb y y refl) in let e = same y in absurd (omega arith)
count-counts p (x ∷ xs) ys same =
    let c = count-yes (λ t. eqb t x) x xs (eq-eqb x x refl) in
    let e = same x in
    let found : (t : ℕ) × IsIn t ys × (eqb t x ≡ true) = some-count (λ t. eqb t x) ys (omega arith) in
    let there : IsIn x ys = subst (λ t. IsIn t ys) (eqb-true found.0 x found.2) found.1 in
    let rest : count_by p xs ≡ count_by p (without x ys) = count-counts p xs (without x ys)
    (λ a. let f = same a in let g = count-cons (λ t. eqb t a) x xs in
    let h = count-without (λ t. eqb t a) x ys there in omega arith) in
    let first = count-cons p x xs in let l = count-without p x ys there in omega arith

-- each number as often in the one as in the other
pub length-counts : (xs ys : List ℕ) →
    ((a : ℕ) → count_by (λ t. eqb t a) xs ≡ count_by (λ t. eqb t a) ys) → length xs ≡ length ys
length-counts [] [] same = refl
length-counts [] (y ∷ ys) same =
    let c = count-yes (λ t. eqb t y) y ys (eq-eqb y y refl) in let e = same y in absurd (omega arith)
length-counts (x ∷ xs) ys same =
    let c = count-yes (λ t. eqb t x) x xs (eq-eqb x x refl) in
    let e = same x in
    let found : (t : ℕ) × IsIn t ys × (eqb t x ≡ true) = some-count (λ t. eqb t x) ys (omega arith) in
    let there : IsIn x ys = subst (λ t. IsIn t ys) (eqb-true found.0 x found.2) found.1 in
    let rest : length xs ≡ length (without x ys) = length-counts xs (without x ys)
    (λ a. let f = same a in let g = count-cons (λ t. eqb t a) x xs in
    let h = count-without (λ t. eqb t a) x ys there in omega arith) in
    let l = length-without x ys there in omega arith
