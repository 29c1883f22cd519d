-- The priority of what has a box and a thickness, and what it would be at another distance.
-- Words: box_over, box_priority_at, box_priority, viewed_from, priority_at.
use Rattle.std.specs.Prelude.{ℕ, ◌*◌, List, pos}
use Rattle.mesh_defs.specs.declared.point.Corners.{Corners}
use Rattle.mesh_defs.specs.Thickness.{thickness_of}
use Rattle.mesh_defs.specs.BoundingBox.{BoundingBox, CameraAt, box_of, distance_of, least_of_3, greatest_of_3}
use Rattle.mesh_defs.specs.View.{View, mark_of}
use Rattle.mesh_defs.specs.Priority.{above, seen_ratio}

-- the box over the bounding rectangle of these corners, from the low to the high height
abbrev pub box_over : ℕ → Corners → ℕ → ℕ → BoundingBox
box_over spacing c low high = record {
  x0 = pos (spacing * least_of_3 c.apex.x c.v0.x c.v1.x);
  x1 = pos (spacing * greatest_of_3 c.apex.x c.v0.x c.v1.x);
  y0 = pos (spacing * least_of_3 c.apex.y c.v0.y c.v1.y);
  y1 = pos (spacing * greatest_of_3 c.apex.y c.v0.y c.v1.y);
  z0 = pos low;
  z1 = pos high;
}

-- the priority of what has this box and thickness, if it were this far from the camera
abbrev pub box_priority_at : View → BoundingBox → ℕ → ℕ → ℕ
box_priority_at view box thickness distance =
    above view.threshold (seen_ratio (mark_of view.planes box) thickness distance)

-- and where it is
abbrev pub box_priority : View → BoundingBox → ℕ → ℕ
box_priority view box thickness = box_priority_at view box thickness (distance_of box view.camera)

-- the view from another place
abbrev pub viewed_from : CameraAt → View → View
viewed_from to view = record view { camera = to }

-- the priority of triangle a if its box were this far from the camera, all else being as it is
unfoldable pub priority_at : ℕ → List ℕ → View → ℕ → ℕ → ℕ
priority_at n heights view a distance =
    box_priority_at view (box_of n heights view.spacing a) (thickness_of n heights a) distance
