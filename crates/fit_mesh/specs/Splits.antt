-- A mesh by the triangles that are split in it. This project's own words.
-- Words: SplitMesh, IsSplitSet, IsLeastAbove, IsMeshListed, IsSettledIn, IsGrownFrom.
use Rattle.std.specs.Prelude.{◌≡◌, ℕ, ◌+◌, ◌*◌, ◌/◌, ◌^◌, ◌<◌, ◌≤◌, Bool, not, IsTrue, List, length, All}
use Rattle.mesh_defs.specs.Triangle.{IsAddress}
use Rattle.mesh_defs.specs.Tiling.{IsConforming}
use Rattle.mesh_defs.specs.ClosedSet.{IsClosed, IsSubset, leaves_of}
use Rattle.mesh_defs.specs.declared.level.TheConstants.{GREATEST_LEVEL}
use Rattle.mesh_laws.specs.Ancestors.{ancestors_of}
use Rattle.mesh_laws.specs.Sweep.{is_flagged}

-- a mesh of the grid of side 2 ^ n: its triangles, by address
pub record SplitMesh : Type 0 where
  pub n : ℕ
  pub leaves : List ℕ

-- a closed set, its leaves, and room for all of either
pub record IsSplitSet (n : ℕ) (flags : List Bool) (leaves : List ℕ) (log_room leaf_room : ℕ) : Type 0 where
  pub n_low : 1 ≤ n
  pub n_high : n ≤ GREATEST_LEVEL
  pub flagged : length flags ≡ 2 ^ (2 * n + 1)
  pub closed : IsClosed n (is_flagged flags)
  pub listed : leaves ≡ leaves_of n (is_flagged flags)
  pub log_roomy : 2 ^ (2 * n + 1) ≤ log_room
  pub leaf_roomy : 2 ^ (2 * n + 1) ≤ leaf_room

-- the least closed set that has the parent of each triangle of the list
pub record IsLeastAbove (n : ℕ) (triangles : List ℕ) (has : ℕ → Bool) : Type 0 where
  pub closed : IsClosed n has
  pub holds : All (λ a. 4 ≤ a → IsTrue (has (a / 2))) triangles
  pub least : (other : ℕ → Bool) → IsClosed n other → All (λ a. 4 ≤ a → IsTrue (other (a / 2))) triangles →
      IsSubset has other

-- the list is a mesh, and its triangles stand depth first
pub record IsMeshListed (n : ℕ) (triangles : List ℕ) : Type 0 where
  pub conforming : IsConforming n triangles
  pub order : leaves_of n (ancestors_of triangles) ≡ triangles

-- of the children of the members among these, each that is above the tolerance is a member
abbrev pub IsSettledIn : ℕ → (ℕ → ℕ) → ℕ → (ℕ → Bool) → (ℕ → Bool) → Type 0
IsSettledIn n error tolerance these has =
    (a : ℕ) → IsAddress n a → 4 ≤ a → IsTrue (these (a / 2)) → IsTrue (has (a / 2)) → tolerance < error a →
    IsTrue (has a)

-- The least closed set with all of another one and all that is required, in which of the children of the new members
-- each that is above the tolerance is a member.
pub record IsGrownFrom (n tolerance : ℕ) (error : ℕ → ℕ) (before required has : ℕ → Bool) : Type 0 where
  pub closed : IsClosed n has
  pub keeps : IsSubset before has
  pub splits : IsSubset required has
  pub settled : IsSettledIn n error tolerance (λ a. not (before a)) has
  pub least : (other : ℕ → Bool) → IsClosed n other → IsSubset before other → IsSubset required other →
      IsSettledIn n error tolerance (λ a. not (before a)) other → IsSubset has other
