-- The directions of a triangle's edges. This project's own words.
-- Words: IsStraight, HasStraightEdges.
use Rattle.std.specs.Prelude.{◌≡◌, ◌⊎◌}
use Rattle.mesh_defs.specs.declared.point.Point.{Point}
use Rattle.mesh_defs.specs.declared.point.Corners.{Corners}
use Rattle.mesh_defs.specs.Thickness.{apart}

-- the edge from p to q is upright or level, or goes a column a row
abbrev pub IsStraight : Point → Point → Type 0
IsStraight p q = (p.x ≡ q.x) ⊎ ((p.y ≡ q.y) ⊎ (apart p.x q.x ≡ apart p.y q.y))

-- each edge of the triangle is straight
pub record HasStraightEdges (c : Corners) : Type 0 where
  pub left : IsStraight c.apex c.v0
  pub base : IsStraight c.v0 c.v1
  pub right : IsStraight c.v1 c.apex
