-- A fitter as its callers see it. This project's own.
-- Words: FitterState, IsFitterKept.
use Rattle.std.specs.Prelude.{◌≡◌, ℕ, ◌*◌, ◌≤◌, List}
use Rattle.mesh_defs.specs.HeightField.{HeightField, side_of}

-- the heights, and the mesh: its triangles, by address
pub record FitterState : Type 0 where
  pub grid : HeightField
  pub leaves : List ℕ

-- the mesh is one of the grid, and there is room for a number of each grid point
pub record IsFitterKept (n m room : ℕ) : Type 0 where
  pub same : m ≡ n
  pub roomy : side_of n * side_of n ≤ room
