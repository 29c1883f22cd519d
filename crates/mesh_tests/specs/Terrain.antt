-- What the terrain of the tests tells of its tiles, which stand row by row. Words: grid_at, mesh_at.
use Rattle.std.specs.Prelude.{ℕ, ◌+◌, ◌*◌, List, [], get_or}
use Rattle.mesh_defs.specs.declared.point.Point.{Point}
use Rattle.mesh_defs.specs.HeightField.{HeightField}

-- the number of a tile in three columns
abbrev pub number_of : Point → ℕ
number_of t = t.y * 3 + t.x

-- the grid with this number
abbrev pub grid_at : List HeightField → ℕ → HeightField
grid_at grids k = get_or grids k (record { n = 0; maxval = 0; heights = [] })

-- the mesh of a tile
abbrev pub mesh_at : List (List ℕ) → Point → List ℕ
mesh_at meshes t = get_or meshes (number_of t) []
