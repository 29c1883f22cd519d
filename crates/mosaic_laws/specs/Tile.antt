-- Tiles. A grid of n + p is made of 2 ^ p columns and rows of squares of side 2 ^ n, and each of them is a grid of n.
-- The two diagonals of a square cut it into the same four quarters, whichever is cut first. The quarters are triangles
-- of level 2 p + 1 in the large grid and of level 1, with the addresses 4 to 7, in the small one; below them both grids
-- have the same triangles. So nothing is turned, where each square is cut by both diagonals.
-- This project's own form.
-- Words: IsTile, quarter_step, quarter, named_at, in_tile, is_part, placed, moved.
use Rattle.std.specs.Prelude.{ℕ, zero, suc, ◌+◌, ◌-◌, ◌*◌, ◌/◌, ◌%◌, ◌<◌, Bool, ◌&&◌, ◌||◌, nat_le, nat_lt}
use Rattle.mesh_defs.specs.declared.point.Point.{Point}
use Rattle.mesh_defs.specs.declared.point.Corners.{Corners}
use Rattle.mesh_defs.specs.Triangle.{level_of}

-- A tile is told by its column and its row, both from 0: one of so many columns and rows.
pub record IsTile (columns rows : ℕ) (t : Point) : Type 0 where
  pub column : t.x < columns
  pub row : t.y < rows

-- The lower (0), left (1), upper (2) and right (3) quarter of a quadrant, from the four quarters of the whole square;
-- the quadrant by its column and its row, 0 or 1.
abbrev pub quarter_step : (ℕ → ℕ) → ℕ → ℕ → ℕ → ℕ
quarter_step whole zero zero zero = 4 * whole 0 + 1
quarter_step whole zero zero (suc zero) = 4 * whole 1 + 2
quarter_step whole zero zero (suc (suc zero)) = 4 * whole 1 + 3
quarter_step whole zero zero (suc (suc (suc _))) = 4 * whole 0
quarter_step whole (suc _) zero zero = 4 * whole 0 + 2
quarter_step whole (suc _) zero (suc zero) = 4 * whole 0 + 3
quarter_step whole (suc _) zero (suc (suc zero)) = 4 * whole 3
quarter_step whole (suc _) zero (suc (suc (suc _))) = 4 * whole 3 + 1
quarter_step whole zero (suc _) zero = 4 * whole 1
quarter_step whole zero (suc _) (suc zero) = 4 * whole 1 + 1
quarter_step whole zero (suc _) (suc (suc zero)) = 4 * whole 2 + 2
quarter_step whole zero (suc _) (suc (suc (suc _))) = 4 * whole 2 + 3
quarter_step whole (suc _) (suc _) zero = 4 * whole 3 + 3
quarter_step whole (suc _) (suc _) (suc zero) = 4 * whole 2
quarter_step whole (suc _) (suc _) (suc (suc zero)) = 4 * whole 2 + 1
quarter_step whole (suc _) (suc _) (suc (suc (suc _))) = 4 * whole 3 + 2

-- the lower, left, upper and right quarter of the tile in this column and row of 2 ^ p, as triangles of the large grid
abbrev pub quarter : ℕ → ℕ → ℕ → ℕ → ℕ
quarter zero column row k = 4 + k
quarter (suc p) column row k =
    quarter_step (quarter p (column / 2) (row / 2)) (column % 2) (row % 2) k

-- the address a, so many levels below its quarter, with the tile's quarters in the place of 4 to 7
abbrev pub named_at : ℕ → ℕ → Point → ℕ → ℕ
named_at zero p t a = quarter p t.x t.y (a % 4)
named_at (suc levels) p t a = 2 * named_at levels p t (a / 2) + a % 2

-- Triangle a of the small grid, 4 or more, as a triangle of the large one.
unfoldable pub in_tile : ℕ → Point → ℕ → ℕ
in_tile p t a = named_at (level_of a - 1) p t a

-- What a set of the large grid has in a tile, as a set of the small grid; 2 and 3 count as members.
abbrev pub is_part : ℕ → Point → (ℕ → Bool) → ℕ → Bool
is_part p t has a = nat_le 2 a && (nat_lt a 4 || has (in_tile p t a))

-- a point of the small grid in the tile's square, of side m
abbrev pub placed : ℕ → Point → Point → Point
placed m t r = record { x = m * t.x + r.x; y = m * t.y + r.y }

-- a triangle, moved to the tile's square
abbrev pub moved : ℕ → Point → Corners → Corners
moved m t c = record { apex = placed m t c.apex; v0 = placed m t c.v0; v1 = placed m t c.v1 }
