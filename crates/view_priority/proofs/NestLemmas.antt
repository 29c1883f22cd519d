-- A child's box lies in its parent's, and what lies in a box is no nearer.
use Rattle.std.proofs.Common.{◌≡◌, ℕ, zero, suc, ◌*◌, ◌≤◌, List, [], ◌∷◌, arith, ℤ, pos, ◌≤ℤ◌}
use Rattle.std.proofs.Math.Nat.{mul-le-mul}
use Rattle.std.proofs.lemmas.Int.{ints}
use Rattle.mesh_defs.specs.declared.point.Corners.{Corners}
use Rattle.mesh_defs.specs.Triangle.{corners_of, child}
use Rattle.mesh_defs.specs.BoundingBox.{BoundingBox, CameraAt, IsRoot, gap, squared_distance, root_of, distance_of}
use Rattle.mesh_defs.specs.BoundingBox.{box_of, least, greatest, low_of, high_of, least_of_3, greatest_of_3}
use Rattle.cull_marks.specs.Nesting.{IsInside, IsOrdered}
use Rattle.view_priority.specs.Bounds.{box_over}
use Rattle.view_priority.proofs.RootLemmas.{root-order}
use Rattle.view_priority.proofs.MoveLemmas.{squares}

-- ---- distances

gap-inside : (v low high lower higher : ℤ) → lower ≤ℤ low → low ≤ℤ high → high ≤ℤ higher →
    gap v lower higher ≤ gap v low high
gap-inside v low high lower higher below order above = grind (arith, ints)

-- the outer box is no farther than the inner one
pub distance_of-inside : ((s : ℕ) → IsRoot s (root_of s)) → (inner outer : BoundingBox) (camera : CameraAt) →
    IsInside inner outer → distance_of outer camera ≤ distance_of inner camera
unfolding distance_of
distance_of-inside roots inner outer camera i =
    let nearer =
    squares _ _ _ _ _ _ (gap-inside camera.x inner.x0 inner.x1 outer.x0 outer.x1 i.x_low i.x_order i.x_high)
    (gap-inside camera.y inner.y0 inner.y1 outer.y0 outer.y1 i.y_low i.y_order i.y_high)
    (gap-inside camera.z inner.z0 inner.z1 outer.z0 outer.z1 i.z_low i.z_order i.z_high) in
    root-order (squared_distance outer camera) (squared_distance inner camera)
    (root_of (squared_distance outer camera)) (root_of (squared_distance inner camera))
    (roots (squared_distance outer camera)) (roots (squared_distance inner camera)) nearer

-- ---- heights

least-greatest : (xs : List ℕ) → least xs ≤ greatest xs
least-greatest [] = omega arith
least-greatest (x ∷ []) = omega arith
least-greatest (x ∷ (y ∷ ys)) = let rest = least-greatest (y ∷ ys) in omega arith

low_of-high_of : (n : ℕ) (heights : List ℕ) (a : ℕ) → low_of n heights a ≤ high_of n heights a
unfolding low_of high_of
low_of-high_of n heights a = least-greatest _

-- ---- ranges

range-order : (s i j k : ℕ) → pos (s * least_of_3 i j k) ≤ℤ pos (s * greatest_of_3 i j k)
range-order s i j k =
    let same : s ≤ s = omega arith in
    let order : least_of_3 i j k ≤ greatest_of_3 i j k = omega arith in
    omega (arith, ints, mul-le-mul same order)

scaled : (s i j : ℕ) → i ≤ j → pos (s * i) ≤ℤ pos (s * j)
scaled s i j le = let same : s ≤ s = omega arith in omega (arith, ints, mul-le-mul same le)

-- the bounding rectangle of d lies in that of c
record IsNarrower (c d : Corners) : Type 0 where
  left : least_of_3 c.apex.x c.v0.x c.v1.x ≤ least_of_3 d.apex.x d.v0.x d.v1.x
  right : greatest_of_3 d.apex.x d.v0.x d.v1.x ≤ greatest_of_3 c.apex.x c.v0.x c.v1.x
  bottom : least_of_3 c.apex.y c.v0.y c.v1.y ≤ least_of_3 d.apex.y d.v0.y d.v1.y
  top : greatest_of_3 d.apex.y d.v0.y d.v1.y ≤ greatest_of_3 c.apex.y c.v0.y c.v1.y

IsNarrower-child : (side : ℕ) (c : Corners) → IsNarrower c (child side c)
IsNarrower-child zero c = record { left = omega arith; right = omega arith; bottom = omega arith; top = omega arith }
IsNarrower-child (suc _) c = record { left = omega arith; right = omega arith; bottom = omega arith; top = omega arith }

-- ---- boxes

pub box_over-ordered : (s : ℕ) (c : Corners) (low high : ℕ) → low ≤ high → IsOrdered (box_over s c low high)
box_over-ordered s c low high order = record {
  x = range-order s c.apex.x c.v0.x c.v1.x;
  y = range-order s c.apex.y c.v0.y c.v1.y;
  z = omega (arith, ints);
}

-- the box over a narrower triangle, whose heights lie between those of the other
box_over-narrower : (s : ℕ) (c d : Corners) (low high inner_low inner_high : ℕ) → IsNarrower c d → low ≤ inner_low →
    inner_low ≤ inner_high → inner_high ≤ high →
    IsInside (box_over s d inner_low inner_high) (box_over s c low high)
box_over-narrower s c d low high inner_low inner_high within from order to =
    let ordered = box_over-ordered s d inner_low inner_high order in record {
      x_low = scaled s _ _ within.left;
      x_order = ordered.x;
      x_high = scaled s _ _ within.right;
      y_low = scaled s _ _ within.bottom;
      y_order = ordered.y;
      y_high = scaled s _ _ within.top;
      z_low = omega (arith, ints);
      z_order = ordered.z;
      z_high = omega (arith, ints);
    }

-- that over a child
pub box_over-child : (s side : ℕ) (c : Corners) (low high inner_low inner_high : ℕ) → low ≤ inner_low →
    inner_low ≤ inner_high → inner_high ≤ high →
    IsInside (box_over s (child side c) inner_low inner_high) (box_over s c low high)
box_over-child s side c low high inner_low inner_high from order to =
    box_over-narrower s c (child side c) low high inner_low inner_high (IsNarrower-child side c) from order to

pub box_of-ordered : (n : ℕ) (heights : List ℕ) (s a : ℕ) → IsOrdered (box_of n heights s a)
unfolding box_of
box_of-ordered n heights s a =
    box_over-ordered s (corners_of n a) (low_of n heights a) (high_of n heights a) (low_of-high_of n heights a)

-- the box of a child
pub box_of-child : (n : ℕ) (heights : List ℕ) (s a b side : ℕ) → low_of n heights a ≤ low_of n heights b →
    high_of n heights b ≤ high_of n heights a → corners_of n b ≡ child side (corners_of n a) →
    IsInside (box_of n heights s b) (box_of n heights s a)
unfolding box_of
box_of-child n heights s a b side low high corners =
    rw corners (box_over-child s side (corners_of n a) _ _ (low_of n heights b) (high_of n heights b) low
    (low_of-high_of n heights b) high)
