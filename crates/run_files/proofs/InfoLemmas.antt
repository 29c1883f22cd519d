-- The least and the greatest of a list.
use Rattle.std.proofs.Common.{◌≡◌, ℕ, zero, suc, ◌<◌, ◌≤◌, List, [], ◌∷◌, length, slice_index_or, refl, ◌∙◌, arith, inl}
use Rattle.std.proofs.Common.{inr}
use Rattle.std.proofs.lemmas.Bool.{cases_lt}
use Rattle.roam_lanes.specs.Extremes.{IsLeast, IsGreatest}
use Rattle.mesh_defs.specs.BoundingBox.{least, greatest}

-- no element is less than the least
least-at : (xs : List ℕ) (k d : ℕ) → k < length xs → least xs ≤ slice_index_or xs k d
least-at [] k d below = absurd (omega (arith, below))
least-at (x ∷ []) zero d below = omega arith
least-at (x ∷ []) (suc k) d below = absurd (omega (arith, below))
least-at (x ∷ (y ∷ ys)) zero d below = omega arith
least-at (x ∷ (y ∷ ys)) (suc k) d below = omega (arith, least-at (y ∷ ys) k d (omega (arith, below)))

-- some element is the least
least-some : (xs : List ℕ) → 0 < length xs → (k : ℕ) × (k < length xs) × ((d : ℕ) → slice_index_or xs k d ≡ least xs)
least-some [] some = absurd (omega (arith, some))
least-some (x ∷ []) some = (zero, omega arith, λ d. refl)
least-some (x ∷ (y ∷ ys)) some =
    let rest = least-some (y ∷ ys) (omega arith) in
    elim (cases_lt (least (y ∷ ys)) x) [
      | inl less ↦ (suc rest.0, omega (arith, rest.1), λ d. rest.2 d ∙ omega (arith, less))
      | inr other ↦ (zero, omega arith, λ d. omega (arith, other))
    ]

-- what is one of the elements, and of which none is less, is the least
pub least-is : (xs : List ℕ) (low : ℕ) → 0 < length xs → IsLeast xs low → low ≡ least xs
least-is xs low some is =
    let held = least-at xs is.held.0 low is.held.1 in
    let found = least-some xs some in
    let bound = is.bound found.0 0 found.1 in
    omega (arith, held, is.held.2, bound, found.2 0)

greatest-at : (xs : List ℕ) (k d : ℕ) → k < length xs → slice_index_or xs k d ≤ greatest xs
greatest-at [] k d below = absurd (omega (arith, below))
greatest-at (x ∷ xs) zero d below = omega arith
greatest-at (x ∷ xs) (suc k) d below = omega (arith, greatest-at xs k d (omega (arith, below)))

greatest-some : (xs : List ℕ) → 0 < length xs →
    (k : ℕ) × (k < length xs) × ((d : ℕ) → slice_index_or xs k d ≡ greatest xs)
greatest-some [] some = absurd (omega (arith, some))
greatest-some (x ∷ []) some = (zero, omega arith, λ d. omega arith)
greatest-some (x ∷ (y ∷ ys)) some =
    let rest = greatest-some (y ∷ ys) (omega arith) in
    elim (cases_lt x (greatest (y ∷ ys))) [
      | inl less ↦ (suc rest.0, omega (arith, rest.1), λ d. rest.2 d ∙ omega (arith, less))
      | inr other ↦ (zero, omega arith, λ d. omega (arith, other))
    ]

pub greatest-is : (xs : List ℕ) (high : ℕ) → 0 < length xs → IsGreatest xs high → high ≡ greatest xs
greatest-is xs high some is =
    let held = greatest-at xs is.held.0 high is.held.1 in
    let found = greatest-some xs some in
    let bound = is.bound found.0 0 found.1 in
    omega (arith, held, is.held.2, bound, found.2 0)
