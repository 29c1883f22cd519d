-- The greatest value over points, as a loop finds it.
-- Words: gap_of, gap_beyond, IsMost, IsMostUntil, IsInRow, IsInBounds, IsInRows.
use Rattle.std.specs.Prelude.{◌≡◌, ℕ, ◌-◌, ◌*◌, ◌<◌, ◌≤◌, ◌⊎◌, true}
use Rattle.mesh_defs.specs.declared.point.Point.{Point}
use Rattle.mesh_defs.specs.declared.point.Corners.{Corners}
use Rattle.mesh_defs.specs.Thickness.{apart}
use Rattle.mesh_defs.specs.BoundingBox.{is_in_closed}
use Rattle.mesh_measure.specs.declared.shape.Bounds.{Bounds}
use Rattle.fit_laws.specs.PlaneHeight.{area_of, weighted}

-- how far f at r is from the plane through its values at the corners, times twice the area
abbrev pub gap_of : Corners → (Point → ℕ) → Point → ℕ
gap_of c f r = apart (area_of c * f r) (weighted c f r)

-- that, times m, less twice the area times the point's tolerance
abbrev pub gap_beyond : ℕ → Corners → (Point → ℕ) → (Point → ℕ) → Point → ℕ
gap_beyond m c f tolerance r = m * gap_of c f r - area_of c * tolerance r

-- most is the greatest value of f over the points with P, or 0 where there are none
pub record IsMost (P : Point → Type 0) (f : Point → ℕ) (most : ℕ) : Type 0 where
  pub bound : (r : Point) → P r → f r ≤ most
  pub reached : (most ≡ 0) ⊎ ((r : Point) × P r × (f r ≡ most))

-- most is a value of f at a point with P, or 0; and the greatest one, unless it is above the limit
pub record IsMostUntil (P : Point → Type 0) (f : Point → ℕ) (limit most : ℕ) : Type 0 where
  pub bound : most ≤ limit → (r : Point) → P r → f r ≤ most
  pub reached : (most ≡ 0) ⊎ ((r : Point) × P r × (f r ≡ most))

-- the triangle holds r, which lies in row y, from column left on and before column end
pub record IsInRow (c : Corners) (y left end : ℕ) (r : Point) : Type 0 where
  pub held : is_in_closed c r ≡ true
  pub row : r.y ≡ y
  pub from : left ≤ r.x
  pub before : r.x < end

-- the triangle holds r, which lies within the bounds
pub record IsInBounds (c : Corners) (bounds : Bounds) (r : Point) : Type 0 where
  pub held : is_in_closed c r ≡ true
  pub left : bounds.left ≤ r.x
  pub right : r.x ≤ bounds.right
  pub low : bounds.low ≤ r.y
  pub high : r.y ≤ bounds.high

-- the same, before row end
pub record IsInRows (c : Corners) (bounds : Bounds) (end : ℕ) (r : Point) : Type 0 where
  pub held : is_in_closed c r ≡ true
  pub left : bounds.left ≤ r.x
  pub right : r.x ≤ bounds.right
  pub low : bounds.low ≤ r.y
  pub before : r.y < end
