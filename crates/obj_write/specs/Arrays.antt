-- A mesh as plain numbers, its vertices numbered as in its text, but from 0. This project's own words.
-- Words: position_of, positions_of, vertex_place, places_at, places_of.
use Rattle.std.specs.Prelude.{ℕ, ◌-◌, ◌*◌, List, [], ◌∷◌}
use Rattle.std.specs.List.{flat_map}
use Rattle.mesh_defs.specs.declared.point.Point.{Point}
use Rattle.mesh_defs.specs.declared.point.Corners.{Corners}
use Rattle.mesh_defs.specs.Triangle.{corners_of}
use Rattle.mesh_defs.specs.Thickness.{height_of}
use Rattle.mesh_defs.specs.MeshText.{vertices_of, vertex_number}

-- x and y of a point times the spacing, and its height: the numbers of its line in the text
abbrev pub position_of : ℕ → List ℕ → ℕ → Point → List ℕ
position_of n heights spacing p = spacing * p.x ∷ (spacing * p.y ∷ (height_of n heights p ∷ []))

-- three for each vertex, in the order of their numbers
abbrev pub positions_of : ℕ → List ℕ → ℕ → List ℕ → List ℕ
positions_of n heights spacing triangles = flat_map (position_of n heights spacing) (vertices_of n triangles)

-- the number of a vertex, counted from 0
abbrev pub vertex_place : List Point → Point → ℕ
vertex_place vertices p = vertex_number vertices p - 1

-- those of three corners: apex, v0 and v1
abbrev pub places_at : List Point → Corners → List ℕ
places_at vertices c = vertex_place vertices c.apex ∷ (vertex_place vertices c.v0 ∷ (vertex_place vertices c.v1 ∷ []))

-- three for each triangle, in the order of the list
abbrev pub places_of : ℕ → List ℕ → List ℕ
places_of n triangles = flat_map (λ a. places_at (vertices_of n triangles) (corners_of n a)) triangles
