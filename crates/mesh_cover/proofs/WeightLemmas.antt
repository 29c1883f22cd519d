-- The areas between a point and the edges of a triangle, and their signs.
use Rattle.std.proofs.Common.{◌≡◌, ◌+◌, ◌*◌, arith}
use Rattle.mesh_defs.specs.declared.point.Point.{Point}
use Rattle.mesh_cover.specs.Cover.{high_across, low_across}

-- the three areas add up to the triangle's
pub areas-sum : (a b c o : Point) →
    high_across o b c + high_across o c a + high_across o a b + low_across a b c
    ≡ low_across o b c + low_across o c a + low_across o a b + high_across a b c
areas-sum a b c o = omega arith

-- they weigh the corners' rows as the triangle's area weighs that of o
pub balance : (a b c o : Point) →
    high_across o b c * a.y + high_across o c a * b.y + high_across o a b * c.y
    + (low_across o b c + low_across o c a + low_across o a b) * o.y
    ≡ low_across o b c * a.y + low_across o c a * b.y + low_across o a b * c.y
    + (high_across o b c + high_across o c a + high_across o a b) * o.y
balance a b c o = omega arith
