-- Columns of a row, and the greatest value along them.
-- Words: IsColumn, IsGreatestAlong.
use Rattle.std.specs.Prelude.{◌≡◌, ℕ, ◌<◌, ◌≤◌, ◌⊎◌}
use Rattle.mesh_measure.specs.declared.columns.Columns.{Columns}

-- x is one of the columns
abbrev pub IsColumn : Columns → ℕ → Type 0
IsColumn columns x = (columns.from ≤ x) × (x < columns.end)

-- most is the greatest value of f before count, or 0 where there is none
pub record IsGreatestAlong (count : ℕ) (f : ℕ → ℕ) (most : ℕ) : Type 0 where
  pub bound : (k : ℕ) → k < count → f k ≤ most
  pub reached : (most ≡ 0) ⊎ ((k : ℕ) × (k < count) × (f k ≡ most))
