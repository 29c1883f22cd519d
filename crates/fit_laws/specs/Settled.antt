-- Closed sets that a tolerance lets stand: no leaf has an error above it, so none has to be split.
-- This project's own form. Words: both, IsFineEnough, IsNeeded, IsLeastSettled, IsMadeBy.
use Rattle.std.specs.Prelude.{◌≡◌, ℕ, ◌<◌, ◌≤◌, Bool, false, ◌&&◌, List, [], ◌∷◌, Contains}
use Rattle.mesh_defs.specs.Priority.{worst_of}
use Rattle.mesh_defs.specs.ClosedSet.{IsClosed, IsSubset, IsLeastClosed, leaves_of}
use Rattle.mesh_defs.specs.Greedy.{with_triangle}

-- what is in both sets
abbrev pub both : (ℕ → Bool) → (ℕ → Bool) → ℕ → Bool
both some other a = some a && other a

-- a closed set none of whose leaves has an error above the tolerance
pub record IsFineEnough (n tolerance : ℕ) (error : ℕ → ℕ) (has : ℕ → Bool) : Type 0 where
  pub closed : IsClosed n has
  pub within : worst_of error (leaves_of n has) ≤ tolerance

-- every settled set has all of it: no mesh within the tolerance does without these splits
abbrev pub IsNeeded : ℕ → ℕ → (ℕ → ℕ) → (ℕ → Bool) → Type 0
IsNeeded n tolerance error has =
    (other : ℕ → Bool) → IsFineEnough n tolerance error other → IsSubset has other

-- the least settled set
pub record IsLeastSettled (n tolerance : ℕ) (error : ℕ → ℕ) (has : ℕ → Bool) : Type 0 where
  pub settled : IsFineEnough n tolerance error has
  pub needed : IsNeeded n tolerance error has

-- The set that a list of reasons makes, the last reason in front. Each reason is a leaf of the set that those before it
-- make, with an error above the tolerance; it is split, with what that forces.
abbrev pub IsMadeBy : ℕ → ℕ → (ℕ → ℕ) → List ℕ → (ℕ → Bool) → Type 0
IsMadeBy n tolerance error [] has = (a : ℕ) → has a ≡ false
IsMadeBy n tolerance error (t ∷ reasons) has =
    (before : ℕ → Bool) × IsMadeBy n tolerance error reasons before
    × Contains (leaves_of n before) t × (tolerance < error t)
    × IsLeastClosed n (with_triangle before t) has
