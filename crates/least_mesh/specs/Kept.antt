-- The mesh that is kept, in room for every mesh of its grid. This project's own words.
-- Words: GridMesh, IsKeptForLeast.
use Rattle.std.specs.Prelude.{◌≡◌, ℕ, ◌+◌, ◌*◌, ◌^◌, ◌≤◌, Bool, List, length, take}
use Rattle.mesh_defs.specs.HeightField.{side_of}
use Rattle.mesh_defs.specs.Tiling.{IsConforming}
use Rattle.mesh_defs.specs.declared.level.TheConstants.{GREATEST_LEVEL}
use Rattle.obj_write.specs.Numbers.{numbers_of}

-- a mesh of the grid of side 2 ^ n: its triangles, by address
pub record GridMesh : Type 0 where
  pub n : ℕ
  pub leaves : List ℕ

-- a flag for each address below the finest level, room for all finest triangles, of which the first are the mesh, and
-- the numbers of its vertices
pub record IsKeptForLeast (n : ℕ) (flags : List Bool) (room : List ℕ) (count : ℕ) (numbers : List ℕ) : Type 0 where
  pub n_low : 1 ≤ n
  pub n_high : n ≤ GREATEST_LEVEL
  pub flagged : length flags ≡ 2 ^ (2 * n + 1)
  pub roomy : length room ≡ 2 ^ (2 * n + 1)
  pub within : count ≤ length room
  pub conforming : IsConforming n (take count room)
  pub places : length numbers ≡ side_of n * side_of n
  pub numbered : numbers ≡ numbers_of n (take count room)
