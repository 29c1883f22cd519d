-- The plane of a triangle along a row.
-- Words: line_at, high_on, low_on, IsSmall, AreHeights, IsRowLineOf, IsPlaneOf, IsLineFrom, gap_on, excess_on, off_on.
use Rattle.std.specs.Prelude.{◌≡◌, ℕ, ◌+◌, ◌-◌, ◌*◌, ◌^◌, ◌%◌, ◌≤◌, List, slice_index, true}
use Rattle.mesh_defs.specs.declared.point.Point.{Point}
use Rattle.mesh_defs.specs.declared.point.Corners.{Corners}
use Rattle.mesh_defs.specs.Thickness.{apart}
use Rattle.mesh_defs.specs.BoundingBox.{point, is_in_closed}
use Rattle.fit_laws.specs.PlaneHeight.{weighted}
use Rattle.mesh_measure.specs.declared.shape.Facet.{Facet}
use Rattle.mesh_measure.specs.declared.line.Line.{Line}
use Rattle.mesh_measure.specs.declared.line.Plane.{Plane}

-- the line of a plane in row y, from column 0 on
abbrev pub line_at : Plane → ℕ → Line
line_at plane y = record {
  high = plane.high + y * plane.up;
  low = plane.low + y * plane.down;
  rise = plane.rise;
  fall = plane.fall;
}

-- both sums, so many columns on
abbrev pub high_on : Line → ℕ → ℕ
high_on line k = line.high + k * line.rise

abbrev pub low_on : Line → ℕ → ℕ
low_on line k = line.low + k * line.fall

-- no sum of the plane is greater than in the largest grid
pub record IsSmall (plane : Plane) : Type 0 where
  pub high : plane.high ≤ 52776558133248
  pub low : plane.low ≤ 52776558133248
  pub rise : plane.rise ≤ 3221225472
  pub fall : plane.fall ≤ 3221225472
  pub up : plane.up ≤ 3221225472
  pub down : plane.down ≤ 3221225472

-- the heights of the facet are the values of f at its corners
pub record AreHeights (f : Point → ℕ) (facet : Facet) : Type 0 where
  pub apex : facet.apex ≡ f facet.corners.apex
  pub v0 : facet.v0 ≡ f facet.corners.v0
  pub v1 : facet.v1 ≡ f facet.corners.v1

-- at each point of row y that the triangle holds the first sum less the second is the weighted value of f
abbrev pub IsRowLineOf : Corners → (Point → ℕ) → ℕ → Line → Type 0
IsRowLineOf c f y line =
    (x : ℕ) → is_in_closed c (point x y) ≡ true → weighted c f (point x y) + low_on line x ≡ high_on line x

-- the plane has that line in each row, and its sums are small
pub record IsPlaneOf (c : Corners) (f : Point → ℕ) (plane : Plane) : Type 0 where
  pub line : (y : ℕ) → IsRowLineOf c f y (line_at plane y)
  pub small : IsSmall plane

-- the same, counted from a column on
abbrev pub IsLineFrom : Corners → (Point → ℕ) → ℕ → ℕ → Line → Type 0
IsLineFrom c f y from line =
    (k : ℕ) → is_in_closed c (point (from + k) y) ≡ true →
    weighted c f (point (from + k) y) + low_on line k ≡ high_on line k

-- how far area times a height and the line are apart, so many columns on
abbrev pub gap_on : ℕ → Line → List ℕ → ℕ → ℕ
gap_on area line heights k = apart (area * slice_index heights k + low_on line k) (high_on line k)

-- that, times the side, less area times a tolerance
abbrev pub excess_on : ℕ → ℕ → Line → List ℕ → List ℕ → ℕ → ℕ
excess_on area side line heights tolerances k =
    side * gap_on area line heights k - area * slice_index tolerances k

-- how far 2 ^ n times a height is from a plane, so many columns on: the plane rises by a step a column, modulo 2 ^ 32
abbrev pub off_on : ℕ → ℕ → ℕ → List ℕ → ℕ → ℕ
off_on n at step heights k = apart (2 ^ n * slice_index heights k) ((at + k * step) % 2 ^ 32)
