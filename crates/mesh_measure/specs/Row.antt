-- What a triangle holds of a row, and its plane along that. Words: IsHeldRow.
use Rattle.std.specs.Prelude.{◌≡◌, ◌↔◌, ℕ, ◌+◌, ◌-◌, ◌<◌, ◌≤◌, true}
use Rattle.mesh_defs.specs.declared.point.Point.{Point}
use Rattle.mesh_defs.specs.declared.point.Corners.{Corners}
use Rattle.mesh_defs.specs.BoundingBox.{point, is_in_closed}
use Rattle.mesh_measure.specs.declared.shape.HeldRow.{HeldRow}
use Rattle.mesh_measure.specs.Columns.{IsColumn}
use Rattle.mesh_measure.specs.Line.{high_on, low_on, IsLineFrom}

-- the columns of row y, from column left to column right, whose points the triangle holds, at least one; and the line
-- of f along them, which stays small
pub record IsHeldRow (c : Corners) (f : Point → ℕ) (y left right : ℕ) (row : HeldRow) : Type 0 where
  pub ordered : row.columns.from < row.columns.end
  pub within : row.columns.end ≤ right + 1
  pub held : (x : ℕ) → IsColumn row.columns x ↔ (((left ≤ x) × (x < right + 1)) × (is_in_closed c (point x y) ≡ true))
  pub lined : IsLineFrom c f y row.columns.from row.line
  pub high : high_on row.line (row.columns.end - row.columns.from) ≤ 281474976710656
  pub low : low_on row.line (row.columns.end - row.columns.from) ≤ 281474976710656
