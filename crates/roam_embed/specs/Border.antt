-- The vertices of a mesh on the border. This project's own.
-- Words: is_on_side, is_corner, is_border_vertex, border_of.
use Rattle.std.specs.Prelude.{ℕ, ◌*◌, ◌^◌, Bool, ◌&&◌, ◌||◌, not, nat_eq, List, filter}
use Rattle.std.specs.List.{range_with_len}
use Rattle.mesh_defs.specs.declared.point.Point.{Point}
use Rattle.mesh_defs.specs.HeightField.{side_of}
use Rattle.mesh_laws.specs.Vertex.{is_mesh_vertex}
use Rattle.mesh_arrays.specs.Indices.{point_at}

-- the point lies on a side of the square of side m
abbrev pub is_on_side : ℕ → Point → Bool
is_on_side m p = (nat_eq p.x 0 || nat_eq p.x m) || (nat_eq p.y 0 || nat_eq p.y m)

-- it is a corner of it
abbrev pub is_corner : ℕ → Point → Bool
is_corner m p = (nat_eq p.x 0 || nat_eq p.x m) && (nat_eq p.y 0 || nat_eq p.y m)

-- the grid point at the place lies on the border, is no corner, and is a vertex of the mesh
abbrev pub is_border_vertex : ℕ → List ℕ → ℕ → Bool
is_border_vertex n leaves k = is_on_side (2 ^ n) (point_at n k)
    && (not (is_corner (2 ^ n) (point_at n k)) && is_mesh_vertex n leaves (point_at n k))

-- the places of these points, rising
abbrev pub border_of : ℕ → List ℕ → List ℕ
border_of n leaves = filter (is_border_vertex n leaves) (range_with_len 0 (side_of n * side_of n))
