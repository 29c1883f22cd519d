-- The mesh that is kept, in room for every mesh of its grid. This project's own words.
-- Words: FitMesh, IsKeptForFit.
use Rattle.std.specs.Prelude.{◌≡◌, ℕ, ◌+◌, ◌*◌, ◌^◌, ◌<◌, ◌≤◌, List, length}
use Rattle.mesh_defs.specs.HeightField.{side_of}
use Rattle.mesh_defs.specs.Tiling.{IsConforming}
use Rattle.mesh_defs.specs.declared.level.TheConstants.{GREATEST_LEVEL}
use Rattle.obj_write.specs.Numbers.{numbers_of}

-- a mesh of the grid of side 2 ^ n: its triangles, by address, and how many a frame may have at most
pub record FitMesh : Type 0 where
  pub n : ℕ
  pub budget : ℕ
  pub leaves : List ℕ

-- a mesh, the numbers of its vertices, and a heap with room for the leaves of a mesh of the budget, where that is no
-- bound
pub record IsKeptForFit (n budget : ℕ) (leaves numbers : List ℕ) (capacity : ℕ) : Type 0 where
  pub n_low : 1 ≤ n
  pub n_high : n ≤ GREATEST_LEVEL
  pub budget_low : 2 ≤ budget
  pub conforming : IsConforming n leaves
  pub places : length numbers ≡ side_of n * side_of n
  pub numbered : numbers ≡ numbers_of n leaves
  pub waiting : budget < 2 ^ (2 * n + 1) → 2 * budget ≤ capacity
