-- How often a triangle stands in a mesh, before and after a frame; and a buffer that is patched by what the frame
-- changed.
use Rattle.std.proofs.Common.{◌≡◌, ℕ, ◌+◌, ◌≤◌, inl, inr, Bool, true, false, not, cond, eqb, List, [], ◌∷◌, ◌++◌}
use Rattle.std.proofs.Common.{length, filter, count_by, refl, ap, ◌∙◌, arith, ⊎_elim}
use Rattle.std.specs.List.Sorted.{IsPermutation}
use Rattle.std.proofs.lemmas.Bool.{cases_Bool, eq-eqb, eqb-true, and_left, not_from_true}
use Rattle.std.proofs.lemmas.List.{length-append}
use Rattle.std.proofs.lemmas.List.Filters.{sum_by-filter_both}
use Rattle.std.proofs.lemmas.List.Sorted.{length_permutation, sum_by-IsPermutation}
use Rattle.std.proofs.lemmas.List.Sums.{sum_by-append}
use Rattle.std.proofs.lemmas.Map.Views.{any-filter_same}
use Rattle.mesh_defs.specs.ClosedSet.{among}
use Rattle.mesh_defs.proofs.ListLemmas.{IsIn, IsIn-among}
use Rattle.mesh_laws.proofs.SlotLemmas.{counted_cons, none_counted}
use Rattle.mesh_arrays.specs.Changes.{alone}
use Rattle.draw_buffer.specs.Times.{times}

-- ---- how often

-- what is in a list is counted
count-in : (a : ℕ) (xs : List ℕ) → IsIn a xs → 1 ≤ count_by (λ t. eqb t a) xs
count-in a [] is = absurd is
count-in a (x ∷ xs) (inl same) =
    let all = counted_cons (λ t. eqb t a) x xs in
    let one : cond {A = ℕ} (eqb x a) 1 0 ≡ 1 = ap (λ b. cond {A = ℕ} b 1 0) (eq-eqb x a same) in
    omega arith
count-in a (x ∷ xs) (inr later) =
    let all = counted_cons (λ t. eqb t a) x xs in
    let rest = count-in a xs later in
    omega arith

times-in : (xs : List ℕ) (a : ℕ) → among xs a ≡ true → 1 ≤ times xs a
unfolding times
times-in xs a is = count-in a xs (IsIn-among a xs is)

times-out : (xs : List ℕ) (a : ℕ) → among xs a ≡ false → times xs a ≡ 0
unfolding times
times-out xs a away = none_counted (λ t. eqb t a) xs away

-- a filter that lets a go leaves none of it
times-lost : (p : ℕ → Bool) (xs : List ℕ) (a : ℕ) → p a ≡ false → times (filter p xs) a ≡ 0
times-lost p xs a lost =
    times-out (filter p xs) a (any-filter_same (λ t. eqb t a) p (p a) (λ t same. ap p (eqb-true t a same)) xs
    ∙ and_left (p a) (among xs a) lost)

-- what the other list has is not alone
times-alone-in : (xs ys : List ℕ) (a : ℕ) → among ys a ≡ true → times (alone xs ys) a ≡ 0
times-alone-in xs ys a there = times-lost (λ t. not (among ys t)) xs a (not_from_true (among ys a) there)

not-not : (b : Bool) → b ≡ not (not b)
not-not true = refl
not-not false = refl

-- each is alone, or is in the other list
times-parts : (xs ys : List ℕ) (a : ℕ) → times (alone xs ys) a + times (filter (among ys) xs) a ≡ times xs a
unfolding times
times-parts xs ys a =
    sum_by-filter_both (λ t. not (among ys t)) (among ys) (λ t. not-not (among ys t)) (λ t. cond (eqb t a) 1 0) xs

-- what it has not is
times-alone-out : (xs ys : List ℕ) (a : ℕ) → among ys a ≡ false → times (alone xs ys) a ≡ times xs a
times-alone-out xs ys a away =
    let none = times-lost (among ys) xs a away in
    let both = times-parts xs ys a in
    omega arith

-- ---- one mesh after another, each triangle at most once in each

-- what goes was there
pub times-gone : (before after : List ℕ) (a : ℕ) → times (alone before after) a ≤ times before a
times-gone before after a = ⊎_elim
    (λ yes. let none = times-alone-in before after a yes in omega arith)
    (λ no. let all = times-alone-out before after a no in omega arith)
    (cases_Bool (among after a))

-- what comes was not there, and comes once
pub times-come : (before after : List ℕ) (a : ℕ) → times before a ≤ 1 → times after a ≤ 1 →
    times before a + times (alone after before) a ≤ 1
times-come before after a one other = ⊎_elim
    (λ yes. let none = times-alone-in after before a yes in omega arith)
    (λ no.
    let all = times-alone-out after before a no in
    let away = times-out before a no in
    omega arith)
    (cases_Bool (among before a))

-- after, with what went, is before with what came
pub times-step : (before after : List ℕ) (a : ℕ) → times before a ≤ 1 → times after a ≤ 1
    → times after a + times (alone before after) a ≡ times before a + times (alone after before) a
times-step before after a one other = ⊎_elim
    (λ here.
    let come = times-alone-in after before a here in
    let was = times-in before a here in
    ⊎_elim
    (λ there.
    let gone = times-alone-in before after a there in
    let is = times-in after a there in
    omega arith)
    (λ away.
    let gone = times-alone-out before after a away in
    let none = times-out after a away in
    omega arith)
    (cases_Bool (among after a)))
    (λ new.
    let come = times-alone-out after before a new in
    let was = times-out before a new in
    ⊎_elim
    (λ there. let gone = times-alone-in before after a there in omega arith)
    (λ away.
    let gone = times-alone-out before after a away in
    let none = times-out after a away in
    omega arith)
    (cases_Bool (among after a)))
    (cases_Bool (among before a))

-- two lists one behind the other
times-both : (xs ys : List ℕ) (a : ℕ) → times (xs ++ ys) a ≡ times xs a + times ys a
unfolding times
times-both xs ys a = sum_by-append (λ t. cond (eqb t a) 1 0) xs ys

-- the same of how many there are
pub length-step : (before after : List ℕ)
    → ((these those : List ℕ) → ((a : ℕ) → times these a ≡ times those a) → IsPermutation these those)
    → ((a : ℕ) → times before a ≤ 1) → ((a : ℕ) → times after a ≤ 1)
    → length after + length (alone before after) ≡ length before + length (alone after before)
length-step before after law one other =
    let gone : List ℕ = alone before after in
    let come : List ℕ = alone after before in
    let whole : IsPermutation (after ++ gone) (before ++ come) = law (after ++ gone) (before ++ come) (λ a.
    let left = times-both after gone a in
    let right = times-both before come a in
    let same = times-step before after a (one a) (other a) in
    omega arith) in
    let long = length_permutation (after ++ gone) (before ++ come) whole in
    let left = length-append after gone in
    let right = length-append before come in
    omega arith

-- in another order each stands as often
pub times-moved : (xs ys : List ℕ) (a : ℕ) → IsPermutation xs ys → times ys a ≡ times xs a
unfolding times
times-moved xs ys a moved = sum_by-IsPermutation (λ t. cond (eqb t a) 1 0) xs ys moved

-- a leaf stands once
pub times-leaves : (xs : List ℕ) (a : ℕ) → count_by (λ t. eqb t a) xs ≤ 1 → times xs a ≤ 1
unfolding times
times-leaves xs a once = once

-- in no list stands nothing
pub times-none : (a : ℕ) → times [] a ≡ 0
unfolding times
times-none a = refl
