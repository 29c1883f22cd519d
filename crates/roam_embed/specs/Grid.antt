-- Grids of a caller's heights. This project's own.
-- Words: IsPointCount, HasGrid, IsGridAnswer, IsGridOf, IsPointOf, IsAreaOf.
use Rattle.std.specs.Prelude.{◌≡◌, ◌⊎◌, ◌↔◌, ℕ, ◌*◌, ◌^◌, ◌≤◌, List, length}
use Rattle.mesh_defs.specs.HeightField.{HeightField, side_of}
use Rattle.mesh_defs.specs.declared.level.TheConstants.{GREATEST_LEVEL}
use Rattle.roam_embed.specs.declared.answer.Answer.{Answer}
use Rattle.roam_embed.specs.declared.answer.Answer.TheVariants.{Done, NoMemory, BadGrid}

-- a grid of level n has so many points
pub record IsPointCount (points n : ℕ) : Type 0 where
  pub low : 1 ≤ n
  pub high : n ≤ GREATEST_LEVEL
  pub count : points ≡ side_of n * side_of n

-- there is a grid of so many points
abbrev pub HasGrid : ℕ → Type 0
HasGrid points = (n : ℕ) × IsPointCount points n

-- of heights: whether they are refused, and whether the rest is up to memory
pub record IsGridAnswer (heights : List ℕ) (answer : Answer) : Type 0 where
  pub bad_grid : (answer ≡ BadGrid) ↔ (HasGrid (length heights) → ⊥)
  pub others : ((answer ≡ Done) ⊎ (answer ≡ NoMemory)) ↔ HasGrid (length heights)

-- the grid of these heights
pub record IsGridOf (heights : List ℕ) (grid : HeightField) : Type 0 where
  pub level : IsPointCount (length heights) grid.n
  pub field : grid ≡ record { n = grid.n; maxval = 65535; heights = heights }

-- the point (x, y) is one of the grid of level n
pub record IsPointOf (n x y : ℕ) : Type 0 where
  pub column : x ≤ 2 ^ n
  pub row : y ≤ 2 ^ n

-- the columns x0 to x1 and the rows y0 to y1 are some of the grid of level n, and none of both is empty
pub record IsAreaOf (n x0 y0 x1 y1 : ℕ) : Type 0 where
  pub columns : x0 ≤ x1
  pub last_column : x1 ≤ 2 ^ n
  pub rows : y0 ≤ y1
  pub last_row : y1 ≤ 2 ^ n
