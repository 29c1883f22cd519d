-- A cuboid of the program as a box of the definitions, and how far its ends may lie from 0.
use Rattle.std.specs.Prelude.{ℕ, ◌≤◌, unsigned_abs}
use Rattle.mesh_defs.specs.BoundingBox.{BoundingBox}
use Rattle.bintree_addr.specs.declared.cuboid.Cuboid.{Cuboid}

-- the box with the ends of the cuboid
abbrev pub as_box : Cuboid → BoundingBox
as_box c = record { x0 = c.x0; x1 = c.x1; y0 = c.y0; y1 = c.y1; z0 = c.z0; z1 = c.z1 }

-- every end of the box is at most this far from 0
pub record IsWithinReach (reach : ℕ) (box : BoundingBox) : Type 0 where
  pub x_low : unsigned_abs box.x0 ≤ reach
  pub x_high : unsigned_abs box.x1 ≤ reach
  pub y_low : unsigned_abs box.y0 ≤ reach
  pub y_high : unsigned_abs box.y1 ≤ reach
  pub z_low : unsigned_abs box.z0 ≤ reach
  pub z_high : unsigned_abs box.z1 ≤ reach
