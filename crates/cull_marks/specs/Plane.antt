-- How large the numbers of a plane are, and which corner of a box lies farthest on the inside of a plane.
-- Words: IsPlane, plane_value, far_end, far_value, near_value.
use Rattle.std.specs.Prelude.{◌≤◌, ◌^◌, if◌then◌else◌, ℤ, pos, ◌+ℤ◌, ◌*ℤ◌, int_lt, unsigned_abs}
use Rattle.mesh_defs.specs.BoundingBox.{BoundingBox}
use Rattle.mesh_defs.specs.View.{ViewPlane}

-- a plane of this program: its slopes are at most 2 ^ 20 in size, its offset at most 2 ^ 50
pub record IsPlane (p : ViewPlane) : Type 0 where
  pub a_small : unsigned_abs p.a ≤ 2 ^ 20
  pub b_small : unsigned_abs p.b ≤ 2 ^ 20
  pub c_small : unsigned_abs p.c ≤ 2 ^ 20
  pub d_small : unsigned_abs p.d ≤ 2 ^ 50

-- a x + b y + c z + d, which is below 0 outside the plane
abbrev pub plane_value : ViewPlane → ℤ → ℤ → ℤ → ℤ
plane_value p x y z = (p.a *ℤ x) +ℤ ((p.b *ℤ y) +ℤ ((p.c *ℤ z) +ℤ p.d))

-- the end of a range at which the product with the slope is greatest
abbrev pub far_end : ℤ → ℤ → ℤ → ℤ
far_end slope low high = if int_lt slope (pos 0) then low else high

-- the value at the corner that lies farthest inside
abbrev pub far_value : ViewPlane → BoundingBox → ℤ
far_value p box =
    plane_value p (far_end p.a box.x0 box.x1) (far_end p.b box.y0 box.y1) (far_end p.c box.z0 box.z1)

-- the value at the corner that lies farthest outside
abbrev pub near_value : ViewPlane → BoundingBox → ℤ
near_value p box =
    plane_value p (far_end p.a box.x1 box.x0) (far_end p.b box.y1 box.y0) (far_end p.c box.z1 box.z0)
