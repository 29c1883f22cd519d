-- The first place at which two texts differ: there is one, unless they are the same, and one alone.
use Rattle.std.proofs.Common.{◌≡◌, ℕ, zero, suc, ◌<◌, ◌⊎◌, List, [], ◌∷◌, take, Some, None, refl, ap, subst, inl, inr}
use Rattle.std.proofs.Common.{arith}
use Rattle.std.specs.List.{slice_get}
use Rattle.std.proofs.lemmas.Bool.Decides.{leb_tells, eqb_tells}
use Rattle.run_laws.specs.Certify.{IsFirstDifference}

-- the heads and the tails of one list

heads : (x y : ℕ) (xs ys : List ℕ) → x ∷ xs ≡ y ∷ ys → Some x ≡ Some y
heads x y xs ys same = cc

tails : (x y : ℕ) (xs ys : List ℕ) → x ∷ xs ≡ y ∷ ys → xs ≡ ys
tails x y xs ys same = cc

-- lists that are the same up to a place have the same entries before it
entry-take : (k j : ℕ) (xs ys : List ℕ) → j < k → take k xs ≡ take k ys → slice_get xs j ≡ slice_get ys j
entry-take zero j xs ys before same = absurd (omega (arith, before))
entry-take (suc k) j [] [] before same = refl
entry-take (suc k) j [] (y ∷ ys) before same = absurd (none same)
  where
    none : [] ≡ y ∷ take k ys → ⊥
    none e = cc
entry-take (suc k) j (x ∷ xs) [] before same = absurd (none same)
  where
    none : x ∷ take k xs ≡ [] → ⊥
    none e = cc
entry-take (suc k) zero (x ∷ xs) (y ∷ ys) before same = heads x y (take k xs) (take k ys) same
entry-take (suc k) (suc j) (x ∷ xs) (y ∷ ys) before same =
    entry-take k j xs ys (omega (arith, before)) (tails x y (take k xs) (take k ys) same)

-- of two first differences none is the earlier one
not-earlier : (these those : List ℕ) (at other : ℕ) → IsFirstDifference these those at →
    IsFirstDifference these those other → at < other → ⊥
not-earlier these those at other one two less = one.differ (entry-take other at these those less two.same)

-- there is one alone
pub difference-unique : (these those : List ℕ) (at other : ℕ) → IsFirstDifference these those at →
    IsFirstDifference these those other → at ≡ other
difference-unique these those at other one two = elim (leb_tells at other) [
  | inl low ↦ elim (leb_tells other at) [
    | inl high ↦ omega (arith, low.1, high.1)
    | inr less ↦ absurd (not-earlier these those at other one two less.1)
  ]
  | inr more ↦ absurd (not-earlier these those other at two one more.1)
]

-- and none where they are the same
pub difference-same : (these those : List ℕ) (at : ℕ) → IsFirstDifference these those at → these ≡ those → ⊥
difference-same these those at one same = one.differ (ap (λ (l : List ℕ). slice_get l at) same)

-- an entry that both have moves the place by one
difference-behind : (x : ℕ) (xs ys : List ℕ) (at : ℕ) → IsFirstDifference xs ys at →
    IsFirstDifference (x ∷ xs) (x ∷ ys) (suc at)
difference-behind x xs ys at one = record { same = ap (λ (l : List ℕ). x ∷ l) one.same; differ = one.differ }

-- two texts are the same, or there is one
pub same-or-different : (these those : List ℕ) → (these ≡ those) ⊎ ((at : ℕ) × IsFirstDifference these those at)
same-or-different [] [] = inl refl
same-or-different [] (y ∷ ys) = inr (0, record { same = refl; differ = none })
  where
    none : None ≡ Some y → ⊥
    none e = cc
same-or-different (x ∷ xs) [] = inr (0, record { same = refl; differ = none })
  where
    none : Some x ≡ None → ⊥
    none e = cc
same-or-different (x ∷ xs) (y ∷ ys) = elim (eqb_tells x y) [
  | inl equal ↦ both equal.1 (same-or-different xs ys)
  | inr other ↦ inr (0, record { same = refl; differ = λ e. other.1 (entry e) })
]
  where
    entry : Some x ≡ Some y → x ≡ y
    entry e = cc

    both : x ≡ y → (xs ≡ ys) ⊎ ((at : ℕ) × IsFirstDifference xs ys at) →
        (x ∷ xs ≡ y ∷ ys) ⊎ ((at : ℕ) × IsFirstDifference (x ∷ xs) (y ∷ ys) at)
    both equal (inl same) = inl cc
    both equal (inr one) = inr (
      suc one.0,
      subst (λ (k : ℕ). IsFirstDifference (x ∷ xs) (k ∷ ys) (suc one.0)) equal (difference-behind x xs ys one.0 one.1),
    )
