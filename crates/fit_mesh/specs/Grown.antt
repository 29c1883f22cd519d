-- What the loops keep: what is needed, the best set so far, and what was asked.
-- Words: IsNeededWith, IsNeededBelow, IsBest, AreSettled.
use Rattle.std.specs.Prelude.{◌≡◌, ℕ, ◌/◌, ◌<◌, ◌≤◌, Bool, IsTrue, max, List, length, take}
use Rattle.mesh_defs.specs.Triangle.{IsAddress}
use Rattle.mesh_defs.specs.ClosedSet.{IsClosed, IsSubset, leaves_of, among}
use Rattle.mesh_defs.specs.Priority.{worst_of}
use Rattle.fit_laws.specs.Settled.{IsFineEnough, IsNeeded}

-- every settled set that has all that is required has all of the set
abbrev pub IsNeededWith : ℕ → ℕ → (ℕ → ℕ) → (ℕ → Bool) → (ℕ → Bool) → Type 0
IsNeededWith n tolerance error required has =
    (other : ℕ → Bool) → IsFineEnough n tolerance error other → IsSubset required other → IsSubset has other

-- each mesh with a greatest error below low needs the set
abbrev pub IsNeededBelow : ℕ → (ℕ → ℕ) → ℕ → (ℕ → Bool) → Type 0
IsNeededBelow n error low has = (k : ℕ) → k < low → IsNeeded n k error has

-- The first entries of the log are a mesh with the greatest error low, within the budget, and needed by
-- each mesh with an error of at most low or at most the tolerance.
pub record IsBest (n : ℕ) (error : ℕ → ℕ) (tolerance budget low : ℕ) (log : List ℕ) (mark : ℕ) : Type 0 where
  pub place : mark ≤ length log
  pub closed : IsClosed n (among (take mark log))
  pub worst : worst_of error (leaves_of n (among (take mark log))) ≡ low
  pub needed : IsNeeded n (max low tolerance) error (among (take mark log))
  pub within : length (leaves_of n (among (take mark log))) ≤ budget

-- of the children of these, each that is above the tolerance is a member
abbrev pub AreSettled : ℕ → (ℕ → ℕ) → ℕ → (ℕ → Bool) → List ℕ → Type 0
AreSettled n error tolerance has asked =
    (a : ℕ) → IsAddress n a → 4 ≤ a → IsTrue (among asked (a / 2)) → tolerance < error a → IsTrue (has a)
