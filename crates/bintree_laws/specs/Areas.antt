-- Areas of grid points, and the triangles whose bounding rectangles they meet. This project's own words.
-- Words: IsInRectangle, SharesPoint, MeetsArea, overlaps.
use Rattle.std.specs.Prelude.{◌≡◌, ◌≤◌, true, Bool, ◌&&◌, nat_le}
use Rattle.mesh_defs.specs.declared.point.Point.{Point}
use Rattle.mesh_defs.specs.declared.point.Corners.{Corners}
use Rattle.mesh_defs.specs.BoundingBox.{least_of_3, greatest_of_3}
use Rattle.mesh_defs.specs.State.{Area, is_in_area}

-- the point lies in the bounding rectangle of these corners
pub record IsInRectangle (c : Corners) (p : Point) : Type 0 where
  pub left : least_of_3 c.apex.x c.v0.x c.v1.x ≤ p.x
  pub right : p.x ≤ greatest_of_3 c.apex.x c.v0.x c.v1.x
  pub bottom : least_of_3 c.apex.y c.v0.y c.v1.y ≤ p.y
  pub top : p.y ≤ greatest_of_3 c.apex.y c.v0.y c.v1.y

-- the bounding rectangle of these corners and the area have this grid point in common
pub record SharesPoint (c : Corners) (area : Area) (p : Point) : Type 0 where
  pub in_rectangle : IsInRectangle c p
  pub in_area : is_in_area area p.x p.y ≡ true

-- the bounding rectangle of these corners and the area share a grid point
abbrev pub MeetsArea : Corners → Area → Type 0
MeetsArea c area = (p : Point) × SharesPoint c area p

-- the columns of the two overlap, and so do the rows
abbrev pub overlaps : Corners → Area → Bool
overlaps c area =
    nat_le area.x0 (greatest_of_3 c.apex.x c.v0.x c.v1.x) && (nat_le (least_of_3 c.apex.x c.v0.x c.v1.x) area.x1
    && (nat_le area.y0 (greatest_of_3 c.apex.y c.v0.y c.v1.y) && nat_le (least_of_3 c.apex.y c.v0.y c.v1.y) area.y1))
