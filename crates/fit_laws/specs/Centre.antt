-- Triangles by their centres. This project's own word. Words: has_centre.
use Rattle.std.specs.Prelude.{ℕ, ◌*◌, Bool, ◌&&◌, nat_le, nat_lt}
use Rattle.mesh_defs.specs.declared.point.Point.{Point}
use Rattle.mesh_defs.specs.Triangle.{level_of}
use Rattle.mesh_laws.specs.Vertex.{centre_of}

-- the triangle may be split, and its centre, the midpoint of its base, is one of these points
abbrev pub has_centre : ℕ → (Point → Bool) → ℕ → Bool
has_centre n points a = (nat_le 2 a && nat_lt (level_of a) (2 * n)) && points (centre_of n a)
