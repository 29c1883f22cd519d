-- Where cameras may be, and what is seen from one. How far a camera moves is `move_length` of mesh_defs.
-- Words: IsCamera, view_above, view_from.
use Rattle.std.specs.Prelude.{ℕ, ◌≤◌, ◌^◌, List, unsigned_abs}
use Rattle.mesh_defs.specs.BoundingBox.{CameraAt}
use Rattle.mesh_defs.specs.View.{View, ViewPlane}

-- a camera of this program: each coordinate is at most 2 ^ 30 in size
pub record IsCamera (c : CameraAt) : Type 0 where
  pub x_small : unsigned_abs c.x ≤ 2 ^ 30
  pub y_small : unsigned_abs c.y ≤ 2 ^ 30
  pub z_small : unsigned_abs c.z ≤ 2 ^ 30

-- the view from a camera, with this spacing, these planes and this threshold
abbrev pub view_above : ℕ → CameraAt → ℕ → List ViewPlane → View
view_above threshold camera spacing planes = record {
  camera = camera;
  spacing = spacing;
  planes = planes;
  threshold = threshold;
}

-- the same with threshold 0
abbrev pub view_from : CameraAt → ℕ → List ViewPlane → View
view_from camera spacing planes = view_above 0 camera spacing planes
