-- Boxes that lie in one another.
use Rattle.std.specs.Prelude.{◌≤ℤ◌}
use Rattle.mesh_defs.specs.BoundingBox.{BoundingBox}

-- the lower ends of the box are at most the upper ones
pub record IsOrdered (box : BoundingBox) : Type 0 where
  pub x : box.x0 ≤ℤ box.x1
  pub y : box.y0 ≤ℤ box.y1
  pub z : box.z0 ≤ℤ box.z1

-- the inner box, whose ends are in order, lies in the outer one
pub record IsInside (inner outer : BoundingBox) : Type 0 where
  pub x_low : outer.x0 ≤ℤ inner.x0
  pub x_order : inner.x0 ≤ℤ inner.x1
  pub x_high : inner.x1 ≤ℤ outer.x1
  pub y_low : outer.y0 ≤ℤ inner.y0
  pub y_order : inner.y0 ≤ℤ inner.y1
  pub y_high : inner.y1 ≤ℤ outer.y1
  pub z_low : outer.z0 ≤ℤ inner.z0
  pub z_order : inner.z0 ≤ℤ inner.z1
  pub z_high : inner.z1 ≤ℤ outer.z1
