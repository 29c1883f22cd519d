-- The corners of a triangle as places in the list of heights, and as vertex numbers.
use Rattle.std.specs.Prelude.{ℕ, ◌+◌, List, slice_index, sum_by}
use Rattle.mesh_defs.specs.declared.point.Point.{Point}
use Rattle.mesh_defs.specs.declared.point.Corners.{Corners}
use Rattle.mesh_defs.specs.HeightField.{place_of}
use Rattle.mesh_defs.specs.Triangle.{corners_of}
use Rattle.draw_buffer.specs.declared.indices.Indices.{Indices}
use Rattle.draw_buffer.specs.Times.{same}

-- the place of a grid point in file order
abbrev pub point_index : ℕ → Point → ℕ
point_index n p = place_of n p.x p.y

-- the places of three corners in file order
abbrev pub corner_indices : ℕ → Corners → Indices
corner_indices n c = record { apex = point_index n c.apex; v0 = point_index n c.v0; v1 = point_index n c.v1 }

-- the places of a triangle's corners in file order
unfoldable pub grid_indices : ℕ → ℕ → Indices
grid_indices n a = corner_indices n (corners_of n a)

-- the grid points of three numbers
unfoldable pub shown : List ℕ → Indices → Indices
shown points x =
    record { apex = slice_index points x.apex; v0 = slice_index points x.v0; v1 = slice_index points x.v1 }

-- how many of the three corners have the number
unfoldable pub corner_uses : Indices → ℕ → ℕ
corner_uses x v = same x.apex v + same x.v0 v + same x.v1 v

-- how many corners of these triangles have the number
unfoldable pub uses_in : List Indices → ℕ → ℕ
uses_in corners v = sum_by (λ x. corner_uses x v) corners
