-- How far a distance can change while the camera moves.
use Rattle.std.proofs.Common.{◌≡◌, ℕ, ◌+◌, ◌*◌, ◌<◌, ◌≤◌, arith, ℤ, ◌-ℤ◌, unsigned_abs, ◌≤ℤ◌}
use Rattle.std.proofs.Math.Nat.{mul-le-mul}
use Rattle.std.proofs.lemmas.Int.{ints}
use Rattle.mesh_defs.specs.State.{move_length}
use Rattle.mesh_defs.specs.BoundingBox.{BoundingBox, CameraAt, IsRoot, gap, squared_distance, root_of, distance_of}
use Rattle.cull_marks.specs.Nesting.{IsOrdered}
use Rattle.view_priority.proofs.RootLemmas.{root-at_most}

-- a gap changes by no more than the coordinate
gap-moved : (v w low high : ℤ) → low ≤ℤ high → gap w low high ≤ gap v low high + unsigned_abs (w -ℤ v)
gap-moved v w low high order = grind (arith, ints)

-- a part of a sum of squares is no greater than the root of the sum
part-of_root : (a b c r : ℕ) → a * a + b * b + c * c < (r + 1) * (r + 1) → a ≤ r
part-of_root a b c r above = root-at_most (a * a) a r (omega arith) (omega arith)

-- longer sides by i, j and k make the root longer by no more than their sum
root-moved : (a b c i j k r : ℕ) → a * a + b * b + c * c < (r + 1) * (r + 1) →
    (a + i) * (a + i) + (b + j) * (b + j) + (c + k) * (c + k) < (r + (i + j + k) + 1) * (r + (i + j + k) + 1)
root-moved a b c i j k r above =
    let a_le : a ≤ r = part-of_root a b c r above in
    let b_le : b ≤ r = part-of_root b a c r (omega arith) in
    let c_le : c ≤ r = part-of_root c b a r (omega arith) in
    let i_le : i ≤ i = omega arith in
    let j_le : j ≤ j = omega arith in
    let k_le : k ≤ k = omega arith in
    omega (arith, mul-le-mul a_le i_le, mul-le-mul b_le j_le, mul-le-mul c_le k_le)

-- longer sides have greater squares
pub squares : (x y z u v w : ℕ) → x ≤ u → y ≤ v → z ≤ w → x * x + y * y + z * z ≤ u * u + v * v + w * w
squares x y z u v w x_le y_le z_le =
    omega (arith, mul-le-mul x_le x_le, mul-le-mul y_le y_le, mul-le-mul z_le z_le)

-- a camera that moves is at most so much farther away
pub distance_of-moved : ((s : ℕ) → IsRoot s (root_of s)) → (box : BoundingBox) (from to : CameraAt) → IsOrdered box →
    distance_of box to ≤ distance_of box from + move_length from to
unfolding distance_of
distance_of-moved roots box from to order =
    let root_to = roots (squared_distance box to) in
    let root_from = roots (squared_distance box from) in
    let i = unsigned_abs (to.x -ℤ from.x) in
    let j = unsigned_abs (to.y -ℤ from.y) in
    let k = unsigned_abs (to.z -ℤ from.z) in
    let longer =
    squares _ _ _ _ _ _ (gap-moved from.x to.x box.x0 box.x1 order.x) (gap-moved from.y to.y box.y0 box.y1 order.y)
    (gap-moved from.z to.z box.z0 box.z1 order.z) in
    let limit = root-moved _ _ _ i j k (root_of (squared_distance box from)) root_from.next_square_above in
    root-at_most (squared_distance box to) (root_of (squared_distance box to))
    (root_of (squared_distance box from) + move_length from to) root_to.square_within (omega arith)

-- no move has no length
pub move_length-none : (c : CameraAt) → move_length c c ≡ 0
move_length-none c = grind (arith, ints)

-- on one axis, a way over a third place is no shorter
axis-moved : (v w u : ℤ) → unsigned_abs (w -ℤ v) ≤ unsigned_abs (u -ℤ v) + unsigned_abs (w -ℤ u)
axis-moved v w u = grind (arith, ints)

-- a way over a third camera is no shorter
pub move_length-two : (from between to : CameraAt) →
    move_length from to ≤ move_length from between + move_length between to
move_length-two from between to =
    omega (arith, axis-moved from.x to.x between.x, axis-moved from.y to.y between.y, axis-moved from.z to.z between.z)
