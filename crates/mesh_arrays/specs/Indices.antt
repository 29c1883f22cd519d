-- Triangles as places of their corners in the list of heights.
-- All of it is this project's own.
-- Words: index_of, indices_at, indices_of, point_at, triangles_at, CoversOnce.
use Rattle.std.specs.Prelude.{◌≡◌, ℕ, ◌-◌, ◌/◌, ◌%◌, ◌^◌, List, [], ◌∷◌, count_by}
use Rattle.std.specs.List.{flat_map}
use Rattle.mesh_defs.specs.declared.point.Point.{Point}
use Rattle.mesh_defs.specs.declared.point.Corners.{Corners}
use Rattle.mesh_defs.specs.HeightField.{side_of, place_of}
use Rattle.mesh_defs.specs.BoundingBox.{point}
use Rattle.mesh_defs.specs.Tiling.{IsSample, is_within}
use Rattle.mesh_defs.specs.Triangle.{corners_of}

-- the place of a grid point in file order
abbrev pub index_of : ℕ → Point → ℕ
index_of n p = place_of n p.x p.y

-- the places of three corners: apex, v0 and v1
abbrev pub indices_at : ℕ → Corners → List ℕ
indices_at n c = index_of n c.apex ∷ (index_of n c.v0 ∷ (index_of n c.v1 ∷ []))

-- three for each triangle, in the order of the list
abbrev pub indices_of : ℕ → List ℕ → List ℕ
indices_of n triangles = flat_map (λ a. indices_at n (corners_of n a)) triangles

-- the grid point at a place in file order
abbrev pub point_at : ℕ → ℕ → Point
point_at n k = point (k % side_of n) (2 ^ n - k / side_of n)

-- the triangles of a list of indices, three at a time: apex, v0 and v1
abbrev pub triangles_at : ℕ → List ℕ → List Corners
triangles_at n (i ∷ (j ∷ (k ∷ indices))) =
    record { apex = point_at n i; v0 = point_at n j; v1 = point_at n k } ∷ triangles_at n indices
triangles_at n _ = []

-- each sample point of the square lies strictly inside exactly one of the triangles
abbrev pub CoversOnce : ℕ → List Corners → Type 0
CoversOnce n triangles = (x y : ℕ) → IsSample n x y → count_by (is_within x y) triangles ≡ 1
