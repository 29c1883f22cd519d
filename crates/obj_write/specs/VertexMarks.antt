-- Marks at the places of the vertices, and the numbers that are counted from them. This project's own words.
-- Words: grid_place, place_point, is_vertex, vertex_marks, numbered, marked.
use Rattle.std.specs.Prelude.{ℕ, zero, suc, ◌+◌, ◌*◌, ◌/◌, ◌%◌, Bool, if◌then◌else◌, List, [], ◌∷◌, map}
use Rattle.std.specs.List.{list_any}
use Rattle.mesh_defs.specs.declared.point.Point.{Point}
use Rattle.mesh_defs.specs.HeightField.{side_of}
use Rattle.mesh_defs.specs.Triangle.{corners_of}
use Rattle.mesh_defs.specs.BoundingBox.{point, points_of}
use Rattle.mesh_defs.specs.MeshText.{has_corner}

-- the place of a point among all points of the grid, by y and then by x
abbrev pub grid_place : ℕ → Point → ℕ
grid_place n p = p.y * side_of n + p.x

-- the point at a place
abbrev pub place_point : ℕ → ℕ → Point
place_point n k = point (k % side_of n) (k / side_of n)

-- the point is a corner of a triangle
abbrev pub is_vertex : ℕ → List ℕ → Point → Bool
is_vertex n triangles p = list_any (λ a. has_corner (corners_of n a) p) triangles

-- for each point of the grid 1 if it is a corner, else 0
unfoldable pub vertex_marks : ℕ → List ℕ → List ℕ
vertex_marks n triangles = map (λ p. if is_vertex n triangles p then 1 else 0) (points_of n)

-- in place of each mark the number of marks up to it, with so many before
abbrev pub numbered : ℕ → List ℕ → List ℕ
numbered before [] = []
numbered before (zero ∷ marks) = zero ∷ numbered before marks
numbered before (suc _ ∷ marks) = suc before ∷ numbered (suc before) marks

-- how many marks there are
abbrev pub marked : List ℕ → ℕ
marked [] = 0
marked (zero ∷ marks) = marked marks
marked (suc _ ∷ marks) = suc (marked marks)
