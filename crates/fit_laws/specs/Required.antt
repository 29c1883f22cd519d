-- The least mesh among those that split some triangles, which a mesh for a tolerance would perhaps not split.
-- This project's own form. Words: is_wanted, IsTestFor, IsRaised, raise, IsLeastSettledWith, IsMeshWith,
-- IsLeastMeshWith.
use Rattle.std.specs.Prelude.{◌≡◌, ◌⊎◌, IsTrue, ℕ, ◌+◌, ◌*◌, ◌^◌, ◌<◌, ◌≤◌, Bool, true, false, ◌||◌, nat_eq, max, List}
use Rattle.std.specs.Prelude.{length}
use Rattle.std.specs.Prelude.{Contains}
use Rattle.std.specs.List.{list_any, filter, range_with_len}
use Rattle.mesh_defs.specs.Tiling.{IsConforming}
use Rattle.mesh_defs.specs.ClosedSet.{IsClosed, IsSubset}
use Rattle.mesh_defs.specs.Priority.{worst_of}
use Rattle.mesh_laws.specs.Ancestors.{is_above, ancestors_of}
use Rattle.mesh_laws.specs.Least.{IsLyingIn}
use Rattle.fit_laws.specs.Settled.{IsFineEnough}

-- a is required, or a triangle below it is
abbrev pub is_wanted : ℕ → (ℕ → Bool) → ℕ → Bool
is_wanted n required a =
    list_any (λ r. nat_eq r a || is_above a r) (filter required (range_with_len 0 (4 * 2 ^ (2 * n))))

-- A test for what is required: it tells each triangle that is required or lies above one that is, and none that a
-- closed set with all that is required could do without.
pub record IsTestFor (n : ℕ) (required wanted : ℕ → Bool) : Type 0 where
  pub told : (a r : ℕ) → 2 ≤ a → IsTrue (required r) → (r ≡ a) ⊎ IsTrue (is_above a r) → IsTrue (wanted a)
  pub forced : (a : ℕ) → IsTrue (wanted a) → (other : ℕ → Bool) → IsClosed n other → IsSubset required other →
      IsTrue (other a)

-- an error that is above the tolerance at all that is wanted, and the given error elsewhere
pub record IsRaised (tolerance : ℕ) (wanted : ℕ → Bool) (error raised : ℕ → ℕ) : Type 0 where
  pub above : (a : ℕ) → wanted a ≡ true → tolerance < raised a
  pub same : (a : ℕ) → wanted a ≡ false → raised a ≡ error a

-- such an error: one more than the tolerance where that is more
abbrev pub raise : ℕ → (ℕ → Bool) → (ℕ → ℕ) → ℕ → ℕ
raise tolerance wanted error a =
    elim (wanted a) as (λ _. ℕ) [ true ↦ max (error a) (tolerance + 1) | false ↦ error a ]

-- the least of the settled sets that have all that is required
pub record IsLeastSettledWith (n tolerance : ℕ) (error : ℕ → ℕ) (required has : ℕ → Bool) : Type 0 where
  pub settled : IsFineEnough n tolerance error has
  pub splits : IsSubset required has
  pub needed : (other : ℕ → Bool) → IsFineEnough n tolerance error other → IsSubset required other →
      IsSubset has other

-- a conforming list within the tolerance that splits all that is required
pub record IsMeshWith (n tolerance : ℕ) (error : ℕ → ℕ) (required : ℕ → Bool) (triangles : List ℕ) : Type 0 where
  pub conforming : IsConforming n triangles
  pub within : worst_of error triangles ≤ tolerance
  pub splits : IsSubset required (ancestors_of triangles)

-- the least of them, in the words of the least mesh
pub record IsLeastMeshWith (n tolerance : ℕ) (error : ℕ → ℕ) (required : ℕ → Bool) (triangles : List ℕ) : Type 0 where
  pub mesh : IsMeshWith n tolerance error required triangles
  pub inside : (others : List ℕ) → IsMeshWith n tolerance error required others →
      IsSubset (ancestors_of triangles) (ancestors_of others)
  pub fewest : (others : List ℕ) → IsMeshWith n tolerance error required others → length triangles ≤ length others
  pub refined : (others : List ℕ) → IsMeshWith n tolerance error required others →
      (a : ℕ) → Contains others a → IsLyingIn triangles a
