-- The greatest deviation of a mesh from a surface, as a fraction: over all triangles and all grid points that each of them holds.
-- Words: area_in, gap_in, holds_in, IsDeviation, IsWithinError.
use Rattle.std.specs.Prelude.{◌≡◌, ℕ, ◌+◌, ◌*◌, ◌/◌, ◌<◌, ◌≤◌, ◌⊎◌, List, length}
use Rattle.mesh_defs.specs.declared.point.Point.{Point}
use Rattle.mesh_cover.specs.Cover.{IsHeld}
use Rattle.mesh_cover.specs.Conforming.{corner_in, height_in}
use Rattle.mesh_within.specs.declared.deviation.Deviation.{Deviation}
use Rattle.mesh_within.specs.Gap.{surface_at, area_across, gap_across}

-- twice the area of triangle t
abbrev pub area_in : List Point → List ℕ → ℕ → ℕ
area_in points corners t =
    area_across (corner_in points corners (t * 3)) (corner_in points corners (t * 3 + 1)) (corner_in points corners (t * 3 + 2))

-- how far the surface is from the plane of triangle t at o, times twice its area
abbrev pub gap_in : ℕ → ℕ → List ℕ → List Point → List ℕ → List ℕ → ℕ → Point → ℕ
gap_in right top surface points heights corners t o =
    gap_across (corner_in points corners (t * 3)) (corner_in points corners (t * 3 + 1)) (corner_in points corners (t * 3 + 2))
    (height_in heights corners (t * 3)) (height_in heights corners (t * 3 + 1)) (height_in heights corners (t * 3 + 2))
    (surface_at right top surface o) o

-- o is a grid point that the closed triangle t holds
pub record IsPointOf (right : ℕ) (points : List Point) (corners : List ℕ) (t : ℕ) (o : Point) : Type 0 where
  pub column : o.x ≤ right
  pub held : IsHeld (corner_in points corners (t * 3)) (corner_in points corners (t * 3 + 1)) (corner_in points corners (t * 3 + 2)) o

-- the deviation is that of its triangle at its point
pub record IsAttained (right top : ℕ) (surface : List ℕ) (points : List Point) (heights corners : List ℕ) (d : Deviation) : Type 0 where
  pub triangle : d.triangle < length corners / 3
  pub point : IsPointOf right points corners d.triangle (record { x = d.column; y = d.row })
  pub gap : d.gap ≡ gap_in right top surface points heights corners d.triangle (record { x = d.column; y = d.row })
  pub area : d.area ≡ area_in points corners d.triangle

-- The greatest deviation of the triangles before one: none is off by more at a grid point that it holds, and one is off by as much,
-- unless the deviation is 0.
pub record IsDeviationBefore (right top : ℕ) (surface : List ℕ) (points : List Point) (heights corners : List ℕ) (n : ℕ)
    (d : Deviation) : Type 0 where
  pub some : 0 < d.area
  pub bound : (t : ℕ) → t < n → (o : Point) → IsPointOf right points corners t o →
      gap_in right top surface points heights corners t o * d.area ≤ d.gap * area_in points corners t
  pub attained : (d.gap ≡ 0) ⊎ IsAttained right top surface points heights corners d

-- the greatest deviation of the mesh
abbrev pub IsDeviation : ℕ → ℕ → List ℕ → List Point → List ℕ → List ℕ → Deviation → Type 0
IsDeviation right top surface points heights corners d =
    IsDeviationBefore right top surface points heights corners (length corners / 3) d

-- no triangle is off by more than so many thousandths of a unit of height at a grid point that it holds
abbrev pub IsWithinError : ℕ → ℕ → List ℕ → List Point → List ℕ → List ℕ → ℕ → Type 0
IsWithinError right top surface points heights corners error =
    (t : ℕ) → t < length corners / 3 → (o : Point) → IsPointOf right points corners t o →
    1000 * gap_in right top surface points heights corners t o ≤ error * area_in points corners t
