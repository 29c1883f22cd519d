-- The number of each grid point in the text of a mesh. This project's own words.
use Rattle.std.specs.Prelude.{ℕ, List, map, if◌then◌else◌}
use Rattle.std.specs.List.{list_any}
use Rattle.mesh_defs.specs.declared.point.Point.{Point}
use Rattle.mesh_defs.specs.BoundingBox.{points_of}
use Rattle.mesh_defs.specs.MeshText.{is_same_point, vertices_of, vertex_number}

-- the number of a point among the vertices, counted from 1, and 0 where it is none of them
abbrev pub number_at : List Point → Point → ℕ
number_at vertices p = if list_any (is_same_point p) vertices then vertex_number vertices p else 0

-- The numbers of all grid points, by y and then by x: 0 for a point that is no corner of the triangles.
unfoldable pub numbers_of : ℕ → List ℕ → List ℕ
numbers_of n triangles = map (number_at (vertices_of n triangles)) (points_of n)
