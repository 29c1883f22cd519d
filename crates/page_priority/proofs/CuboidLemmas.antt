-- A cuboid around a triangle's part of the surface, as a box.
use Rattle.std.proofs.Common.{◌≡◌, ℕ, ◌*◌, ◌^◌, ◌≤◌, pos, refl, sym, subst, arith}
use Rattle.std.proofs.Math.Nat.{mul-le-mul_left}
use Rattle.std.proofs.lemmas.Int.{ints}
use Rattle.mesh_defs.specs.declared.point.Corners.{Corners}
use Rattle.mesh_defs.specs.BoundingBox.{least_of_3, greatest_of_3}
use Rattle.cull_marks.specs.Cuboid.{as_box, IsWithinReach}
use Rattle.bintree_addr.specs.declared.cuboid.Cuboid.{Cuboid}
use Rattle.view_priority.specs.Bounds.{box_over}

-- the ends of the box over these corners
pub record HasEnds (cuboid : Cuboid) (spacing : ℕ) (c : Corners) (low high : ℕ) : Type 0 where
  pub x0 : cuboid.x0 ≡ pos (spacing * least_of_3 c.apex.x c.v0.x c.v1.x)
  pub x1 : cuboid.x1 ≡ pos (spacing * greatest_of_3 c.apex.x c.v0.x c.v1.x)
  pub y0 : cuboid.y0 ≡ pos (spacing * least_of_3 c.apex.y c.v0.y c.v1.y)
  pub y1 : cuboid.y1 ≡ pos (spacing * greatest_of_3 c.apex.y c.v0.y c.v1.y)
  pub z0 : cuboid.z0 ≡ pos low
  pub z1 : cuboid.z1 ≡ pos high

pub as_box-over : (cuboid : Cuboid) (spacing : ℕ) (c : Corners) (low high : ℕ) →
    HasEnds cuboid spacing c low high → as_box cuboid ≡ box_over spacing c low high
as_box-over cuboid spacing c low high h = rw (h.x0, h.x1, h.y0, h.y1, h.z0, h.z1) refl

least-within : (s i j k : ℕ) → s * least_of_3 i j k ≤ s * greatest_of_3 i j k
least-within s i j k = mul-le-mul_left s (let e : least_of_3 i j k ≤ greatest_of_3 i j k = omega arith in e)

-- heights of the code, and corners as box_around tells them, lie within reach
pub cuboid-within : (cuboid : Cuboid) (spacing : ℕ) (c : Corners) (low high : ℕ) →
    HasEnds cuboid spacing c low high → spacing * greatest_of_3 c.apex.x c.v0.x c.v1.x ≤ 2 ^ 24 →
    spacing * greatest_of_3 c.apex.y c.v0.y c.v1.y ≤ 2 ^ 24 → low ≤ high → high ≤ 2 ^ 24 →
    IsWithinReach (2 ^ 24) (as_box cuboid)
cuboid-within cuboid spacing c low high ends x y order small =
    let x_less = least-within spacing c.apex.x c.v0.x c.v1.x in
    let y_less = least-within spacing c.apex.y c.v0.y c.v1.y in
    subst (IsWithinReach (2 ^ 24)) (sym (as_box-over cuboid spacing c low high ends)) record {
      x_low = omega (arith, ints);
      x_high = omega (arith, ints);
      y_low = omega (arith, ints);
      y_high = omega (arith, ints);
      z_low = omega (arith, ints);
      z_high = omega (arith, ints);
    }
