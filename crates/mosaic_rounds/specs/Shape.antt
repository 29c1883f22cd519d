-- So many columns and rows of tiles of side 2 ^ n, and where the bits of a tile begin.
-- This project's own form. Words: IsShape, first_of.
use Rattle.std.specs.Prelude.{ℕ, ◌+◌, ◌*◌, ◌^◌, ◌≤◌}
use Rattle.mesh_defs.specs.declared.point.Point.{Point}
use Rattle.mesh_defs.specs.declared.level.TheConstants.{GREATEST_LEVEL}
use Rattle.mosaic_rounds.specs.declared.shape.Shape.{Shape}
use Rattle.mosaic_rounds.specs.declared.shape.TheConstants.{MOST_ACROSS}

-- of a grid, with a tile and no more than there may be
pub record IsShape (s : Shape) : Type 0 where
  pub n_low : 1 ≤ s.n
  pub n_high : s.n ≤ GREATEST_LEVEL
  pub columns_low : 1 ≤ s.columns
  pub columns_high : s.columns ≤ MOST_ACROSS
  pub rows_low : 1 ≤ s.rows
  pub rows_high : s.rows ≤ MOST_ACROSS

-- the first of a tile's bits, of which it has four for each point of a side
abbrev pub first_of : Shape → Point → ℕ
first_of s t = (t.y * s.columns + t.x) * 2 ^ (s.n + 2)
