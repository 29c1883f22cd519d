-- Tolerances of its own for each grid point: a list by grid point, in row order as heights are, in units of height,
-- times 2 ^ n. A point whose tolerance no distance exceeds does not count.
-- This project's own form. Words: excess_of, AreWithin, AreCommon.
use Rattle.std.specs.Prelude.{◌≡◌, ℕ, ◌^◌, ◌≤◌, List, Contains, true}
use Rattle.mesh_defs.specs.declared.point.Point.{Point}
use Rattle.mesh_defs.specs.Thickness.{height_of}
use Rattle.mesh_defs.specs.BoundingBox.{holds_point, greatest}
use Rattle.bintree_laws.specs.Corners.{IsInSquare}
use Rattle.fit_laws.specs.PlaneHeight.{off_plane, excesses_in}

-- The excess of triangle a: by how much the surface is farther from the triangle's plane than the point's tolerance,
-- at most, at a grid point that the triangle holds; 0 where it is nowhere farther.
unfoldable pub excess_of : ℕ → List ℕ → List ℕ → ℕ → ℕ
excess_of n heights tolerances a = greatest (excesses_in n heights tolerances a)

-- at each grid point that a triangle of the list holds, the surface is at most the point's tolerance from its plane
abbrev pub AreWithin : ℕ → List ℕ → List ℕ → List ℕ → Type 0
AreWithin n heights tolerances triangles =
    (a : ℕ) → Contains triangles a → (r : Point) → IsInSquare (2 ^ n) r → holds_point n a r ≡ true →
    off_plane n heights a r ≤ height_of n tolerances r

-- each grid point has this tolerance
abbrev pub AreCommon : ℕ → List ℕ → ℕ → Type 0
AreCommon n tolerances tolerance = (r : Point) → IsInSquare (2 ^ n) r → height_of n tolerances r ≡ tolerance
