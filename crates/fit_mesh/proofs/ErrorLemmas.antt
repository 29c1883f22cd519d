-- The error of a triangle by what mesh_measure answers.
use Rattle.std.proofs.Common.{◌≡◌, ℕ, ◌*◌, ◌^◌, ◌≤◌, All, List, refl, subst}
use Rattle.mesh_defs.specs.Triangle.{IsAddress}
use Rattle.mesh_defs.specs.BoundingBox.{greatest}
use Rattle.fit_laws.specs.PlaneHeight.{offs_in, excesses_in}
use Rattle.fit_laws.specs.Error.{error_of}
use Rattle.fit_laws.proofs.ListLemmas.{offs_in-most}
use Rattle.fit_laws.specs.Excess.{excess_of}

-- it is the greatest of the distances
pub error-greatest : (n : ℕ) (heights : List ℕ) (a : ℕ) → greatest (offs_in n heights a) ≡ error_of n heights a
unfolding error_of
error-greatest n heights a = refl

-- no error is above the greatest height, times 2 ^ n
pub error-most : (n : ℕ) (heights : List ℕ) (top a : ℕ) → IsAddress n a → All (λ h. h ≤ top) heights →
    error_of n heights a ≤ 2 ^ n * top
error-most n heights top a address bounded =
    subst (λ k. k ≤ 2 ^ n * top) (error-greatest n heights a) (offs_in-most n heights top a address bounded)

-- and the excess is the greatest of what is beyond the points' tolerances
pub excess-greatest : (n : ℕ) (heights tolerances : List ℕ) (a : ℕ) →
    greatest (excesses_in n heights tolerances a) ≡ excess_of n heights tolerances a
unfolding excess_of
excess-greatest n heights tolerances a = refl
