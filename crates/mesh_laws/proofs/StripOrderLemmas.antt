-- The strip has the leaves, each once.
use Rattle.std.proofs.Common.{◌≡◌, ℕ, zero, suc, ◌+◌, ◌*◌, ◌≤◌, Bool, true, false, cond, eqb, List, [], ◌∷◌, ◌++◌}
use Rattle.std.proofs.Common.{Contains, refl, sym, subst, arith, count_by, eq-eqb}
use Rattle.std.proofs.lemmas.Bool.{eqb-true}
use Rattle.std.proofs.lemmas.List.Sums.{sum_by-append}
use Rattle.mesh_defs.specs.ClosedSet.{leaves_under, leaves_of}
use Rattle.mesh_laws.specs.Ancestors.{AreLeaves}
use Rattle.mesh_defs.proofs.ListLemmas.{IsIn, IsIn-contains, some-count, count-some}
use Rattle.mesh_laws.proofs.LeafLemmas.{leaf-once}
use Rattle.mesh_laws.specs.Strip.{has_even_level, strip_under, strip_of}

-- ---- the order

-- one step: whatever the tests say, as many entries of the strip pass as of the leaves
count_step : (member even : Bool) (test : ℕ → Bool) (left right first second : List ℕ) (a : ℕ) →
    count_by test left ≡ count_by test first → count_by test right ≡ count_by test second →
    count_by test (elim member as (λ _. List ℕ) [
      | true ↦ elim even as (λ _. List ℕ) [ true ↦ left ++ right | false ↦ right ++ left ]
      | false ↦ a ∷ []
    ])
    ≡ count_by test (elim member as (λ _. List ℕ) [ true ↦ first ++ second | false ↦ a ∷ [] ])
count_step false even test left right first second a e f = refl
count_step true true test left right first second a e f =
    let g : count_by test (left ++ right) ≡ count_by test left + count_by test right =
    sum_by-append (λ t. cond (test t) 1 0) left right in
    let h : count_by test (first ++ second) ≡ count_by test first + count_by test second =
    sum_by-append (λ t. cond (test t) 1 0) first second in
    omega arith
count_step true false test left right first second a e f =
    let g : count_by test (right ++ left) ≡ count_by test right + count_by test left =
    sum_by-append (λ t. cond (test t) 1 0) right left in
    let h : count_by test (first ++ second) ≡ count_by test first + count_by test second =
    sum_by-append (λ t. cond (test t) 1 0) first second in
    omega arith

-- below each triangle as many entries of the strip pass a test as of the leaves
pub count-strip_under : (test has : ℕ → Bool) (levels a : ℕ) →
    count_by test (leaves_under levels has a) ≡ count_by test (strip_under levels has a)
count-strip_under test has zero a = refl
count-strip_under test has (suc levels) a =
    sym (count_step (has a) (has_even_level a) test
    (strip_under levels has (2 * a)) (strip_under levels has (2 * a + 1))
    (leaves_under levels has (2 * a)) (leaves_under levels has (2 * a + 1)) a
    (sym (count-strip_under test has levels (2 * a))) (sym (count-strip_under test has levels (2 * a + 1))))

-- and so in all
pub count-strip_of : (n : ℕ) (test has : ℕ → Bool) → count_by test (leaves_of n has) ≡ count_by test (strip_of n has)
unfolding leaves_of strip_of
count-strip_of n test has =
    let g : count_by test (leaves_of n has) ≡ count_by test (leaves_under (2 * n) has 2) + count_by test
    (leaves_under (2 * n) has 3) =
    sum_by-append (λ t. cond (test t) 1 0) (leaves_under (2 * n) has 2) (leaves_under (2 * n) has 3) in
    let h : count_by test (strip_of n has) ≡ count_by test (strip_under (2 * n) has 2) + count_by test
    (strip_under (2 * n) has 3) =
    sum_by-append (λ t. cond (test t) 1 0) (strip_under (2 * n) has 2) (strip_under (2 * n) has 3) in
    let lower = count-strip_under test has (2 * n) 2 in let upper = count-strip_under test has (2 * n) 3 in
    omega arith

-- the strip has the leaves, each as often
pub AreLeaves-strip_of : (n : ℕ) (has : ℕ → Bool) → AreLeaves n has (strip_of n has)
AreLeaves-strip_of n has = record { counts = λ a. count-strip_of n (λ t. eqb t a) has }

-- ---- each once

-- an entry of the strip is a leaf
pub leaf-strip_of : (n a : ℕ) (has : ℕ → Bool) → IsIn a (strip_of n has) → IsIn a (leaves_of n has)
leaf-strip_of n a has h =
    let some : 1 ≤ count_by (λ t. eqb t a) (strip_of n has) =
    count-some (λ t. eqb t a) a (strip_of n has) h (eq-eqb a a refl) in
    let same = count-strip_of n (λ t. eqb t a) has in
    let e = some-count (λ t. eqb t a) (leaves_of n has) (omega arith) in
    subst (λ z. IsIn z (leaves_of n has)) (eqb-true e.0 a e.2) e.1

-- no triangle stands in it twice
pub strip-once : (n : ℕ) (has : ℕ → Bool) (a : ℕ) → count_by (λ t. eqb t a) (strip_of n has) ≤ 1
strip-once n has a = let same = count-strip_of n (λ t. eqb t a) has in let once = leaf-once n has a in omega arith

-- a leaf stands in it once
pub once-leaf : (n a : ℕ) (has : ℕ → Bool) → Contains (leaves_of n has) a → count_by (λ t. eqb t a) (strip_of n has) ≡ 1
once-leaf n a has h =
    let some : 1 ≤ count_by (λ t. eqb t a) (leaves_of n has) =
    count-some (λ t. eqb t a) a (leaves_of n has) (IsIn-contains a (leaves_of n has) h) (eq-eqb a a refl) in
    let same = count-strip_of n (λ t. eqb t a) has in
    let most = strip-once n has a in omega arith

-- and all that stand in it are leaves
pub once-strip_of : (n a : ℕ) (has : ℕ → Bool) → Contains (strip_of n has) a →
    count_by (λ t. eqb t a) (strip_of n has) ≡ 1
once-strip_of n a has h =
    let some : 1 ≤ count_by (λ t. eqb t a) (strip_of n has) =
    count-some (λ t. eqb t a) a (strip_of n has) (IsIn-contains a (strip_of n has) h) (eq-eqb a a refl) in
    let most = strip-once n has a in omega arith
