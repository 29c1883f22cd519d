-- A grid of heights (a height field), the surface that is meshed. This project's own profile of the
-- square grids of Duchaineau et al., "ROAMing Terrain", IEEE Visualization 1997: side 2 ^ n + 1.
use Rattle.std.specs.Prelude.{◌≡◌, ℕ, ◌+◌, ◌-◌, ◌*◌, ◌^◌, ◌≤◌, List, length, All, slice_index}
use Rattle.mesh_defs.specs.declared.level.TheConstants.{GREATEST_LEVEL}

-- Heights in file order: rows from the top, each from left to right. Each is at most maxval, in units of height.
pub record HeightField : Type 0 where
  pub n : ℕ
  pub maxval : ℕ
  pub heights : List ℕ

-- the number of points of one side of a grid with this n
abbrev pub side_of : ℕ → ℕ
side_of n = 2 ^ n + 1

-- the place of point (x, y) in file order: column x of the row that is 2 ^ n - y from the top
abbrev pub place_of : ℕ → ℕ → ℕ → ℕ
place_of n x y = (2 ^ n - y) * side_of n + x

-- the height of the point (x, y) of the grid
abbrev pub height_at : ℕ → List ℕ → ℕ → ℕ → ℕ
height_at n heights x y = slice_index heights (place_of n x y)

-- n is 1 to 14, maxval 1 to 65535, and each point has a height of at most maxval
pub record IsHeightField (g : HeightField) : Type 0 where
  pub n_low : 1 ≤ g.n
  pub n_high : g.n ≤ GREATEST_LEVEL
  pub maxval_low : 1 ≤ g.maxval
  pub maxval_high : g.maxval ≤ 65535
  pub count : length g.heights ≡ side_of g.n * side_of g.n
  pub bounded : All (λ h. h ≤ g.maxval) g.heights
