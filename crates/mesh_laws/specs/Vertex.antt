-- Vertices of a mesh: corners of the square, and centres of triangles that are split.
-- All of it is this project's own.
-- Words: is_mesh_vertex, centre_of, IsSquareCorner, IsCentre.
use Rattle.std.specs.Prelude.{◌≡◌, ◌⊎◌, ℕ, Bool, IsTrue, List}
use Rattle.std.specs.List.{list_any}
use Rattle.mesh_defs.specs.declared.point.Point.{Point}
use Rattle.mesh_defs.specs.Triangle.{corners_of, midpoint}
use Rattle.mesh_defs.specs.MeshText.{has_corner}

-- the point is a corner of a triangle of the list
abbrev pub is_mesh_vertex : ℕ → List ℕ → Point → Bool
is_mesh_vertex n triangles p = list_any (λ a. has_corner (corners_of n a) p) triangles

-- the point halfway along the base of a triangle, where its children have their apexes
abbrev pub centre_of : ℕ → ℕ → Point
centre_of n a = midpoint (corners_of n a).v0 (corners_of n a).v1

-- the point is a corner of the square of side m
abbrev pub IsSquareCorner : ℕ → Point → Type 0
IsSquareCorner m p = ((p.x ≡ 0) ⊎ (p.x ≡ m)) × ((p.y ≡ 0) ⊎ (p.y ≡ m))

-- the point is the centre of a member
abbrev pub IsCentre : ℕ → (ℕ → Bool) → Point → Type 0
IsCentre n has p = (a : ℕ) × IsTrue (has a) × (centre_of n a ≡ p)
