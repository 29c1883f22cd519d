-- The least and the greatest height in a triangle: by its children, and of a finest one by its corners.
use Rattle.std.proofs.Common.{◌≡◌, ℕ, ◌+◌, ◌-◌, ◌*◌, ◌^◌, ◌<◌, ◌≤◌, true, ◌||◌, min, max, List, map, sym, arith, ⊎_elim}
use Rattle.std.proofs.Common.{subst}
use Rattle.std.specs.List.{filter}
use Rattle.mesh_defs.specs.declared.point.Point.{Point}
use Rattle.mesh_defs.specs.declared.point.Corners.{Corners}
use Rattle.mesh_defs.specs.Triangle.{level_of, corners_of, IsCorner, IsSplittable}
use Rattle.mesh_defs.specs.Thickness.{height_of}
use Rattle.mesh_defs.specs.BoundingBox.{points_of, holds_point, low_of, high_of, least_of_3, greatest_of_3}
use Rattle.bintree_laws.specs.Corners.{IsWithin}
use Rattle.wedgie_tree.proofs.ExtremeLemmas.{under, under-split, le-under, under-le, greatest-split, least-bounded}
use Rattle.mesh_defs.proofs.PointLemmas.{IsPointIn, IsPointIn-points_of, greatest-le, le-greatest}
use Rattle.wedgie_tree.proofs.AreaLemmas.{AddressLaws, is_in_closed-children, apex-held, v0-held, v1-held}
use Rattle.wedgie_tree.proofs.AreaLemmas.{finest-corner}
use Rattle.bintree_laws.proofs.WeightLemmas.{HasArea, HasArea-corners_of}

-- the apex is a grid point that the triangle holds
apex-in : AddressLaws → (n a : ℕ) → IsPointIn (corners_of n a).apex (points_of n)
apex-in laws n a = let w : IsWithin (2 ^ n) (corners_of n a) = laws.within n a in
    IsPointIn-points_of n (corners_of n a).apex w.apex_x w.apex_y

-- a triangle of the grid holds its own apex
pub apex-passes : AddressLaws → (n a : ℕ) → 2 ≤ a → level_of a ≤ 2 * n → holds_point n a (corners_of n a).apex ≡ true
apex-passes laws n a low fits = apex-held (corners_of n a) (2 ^ (2 * n - level_of a))
    (HasArea-corners_of n a fits)

-- the least height with any bound above it
low_of-bounded : AddressLaws → (n : ℕ) (heights : List ℕ) (a b : ℕ) → 2 ≤ a → level_of a ≤ 2 * n →
    low_of n heights a ≤ b →
    low_of n heights a ≡ under b (map (height_of n heights) (filter (holds_point n a) (points_of n)))
unfolding low_of
low_of-bounded laws n heights a b low fits le = least-bounded b (height_of n heights) (holds_point n a)
    (corners_of n a).apex (apex-passes laws n a low fits) (points_of n) (apex-in laws n a) le

-- a point is held exactly where a child holds it
pub holds_point-children : AddressLaws → (n a : ℕ) → IsSplittable n a → (r : Point) →
    holds_point n a r ≡ (holds_point n (2 * a) r || holds_point n (2 * a + 1) r)
holds_point-children laws n a split r = rw (laws.left_corners n a split.low, laws.right_corners n a split.low)
    (is_in_closed-children (corners_of n a) r (laws.even n a split.coarse))

-- the least height in a splittable triangle is the lesser of the least heights in its children
pub low_of-children : AddressLaws → (n : ℕ) (heights : List ℕ) (a : ℕ) → IsSplittable n a →
    low_of n heights a ≡ min (low_of n heights (2 * a)) (low_of n heights (2 * a + 1))
low_of-children laws n heights a split =
    let some : 2 ≤ a = split.low in
    let coarse : level_of a < 2 * n = split.coarse in
    let left : level_of (2 * a) ≤ 2 * n = omega (arith, laws.left a some) in
    let right : level_of (2 * a + 1) ≤ 2 * n = omega (arith, laws.right a some) in
    let b : ℕ = low_of n heights a + low_of n heights (2 * a) + low_of n heights (2 * a + 1) in
    cc (
      low_of-bounded laws n heights a b some (omega arith) (omega arith),
      low_of-bounded laws n heights (2 * a) b (omega arith) left (omega arith),
      low_of-bounded laws n heights (2 * a + 1) b (omega arith) right (omega arith),
      under-split b (height_of n heights) (holds_point n a) (holds_point n (2 * a)) (holds_point n (2 * a + 1))
          (holds_point-children laws n a split) (points_of n),
    )

-- the greatest height is the greater of the greatest heights in its children
pub high_of-children : AddressLaws → (n : ℕ) (heights : List ℕ) (a : ℕ) → IsSplittable n a →
    high_of n heights a ≡ max (high_of n heights (2 * a)) (high_of n heights (2 * a + 1))
unfolding high_of
high_of-children laws n heights a split =
    greatest-split (height_of n heights) (holds_point n a) (holds_point n (2 * a)) (holds_point n (2 * a + 1))
    (holds_point-children laws n a split) (points_of n)

-- the least height is at most the greatest: the apex has a height between them
pub low_of-le : AddressLaws → (n : ℕ) (heights : List ℕ) (a : ℕ) → 2 ≤ a → level_of a ≤ 2 * n →
    low_of n heights a ≤ high_of n heights a
unfolding high_of
low_of-le laws n heights a some fits = omega (
  arith,
  low_of-bounded laws n heights a (low_of n heights a) some fits (omega arith),
  under-le (low_of n heights a) (height_of n heights) (holds_point n a) (corners_of n a).apex
      (apex-passes laws n a some fits) (points_of n) (apex-in laws n a),
  le-greatest (height_of n heights) (holds_point n a) (corners_of n a).apex (apex-passes laws n a some fits)
      (points_of n) (apex-in laws n a),
)

-- a number that is at least the height at each held point
high_of-le : (n : ℕ) (heights : List ℕ) (a m : ℕ) →
    ((r : Point) → holds_point n a r ≡ true → height_of n heights r ≤ m) → high_of n heights a ≤ m
unfolding high_of
high_of-le n heights a m held = greatest-le m (height_of n heights) (holds_point n a) held (points_of n)

-- ---- finest triangles

-- the heights at the three corners
record IsBetween (n : ℕ) (heights : List ℕ) (c : Corners) (low high : ℕ) : Type 0 where
  apex_low : low ≤ height_of n heights c.apex
  apex_high : height_of n heights c.apex ≤ high
  v0_low : low ≤ height_of n heights c.v0
  v0_high : height_of n heights c.v0 ≤ high
  v1_low : low ≤ height_of n heights c.v1
  v1_high : height_of n heights c.v1 ≤ high

-- the area of a finest triangle
unit-area : (n a : ℕ) → level_of a ≡ 2 * n → HasArea (corners_of n a) 1
unit-area n a finest =
    let none : 2 * n - level_of a ≡ 0 = omega arith in
    let P : ℕ → Type 0 = λ k. HasArea (corners_of n a) (2 ^ k) in subst P none (HasArea-corners_of n a (omega arith))

-- each corner's height lies between the least and the greatest height
corners-between : AddressLaws → (n : ℕ) (heights : List ℕ) (a : ℕ) → 2 ≤ a → level_of a ≡ 2 * n →
    IsBetween n heights (corners_of n a) (low_of n heights a) (high_of n heights a)
unfolding high_of
corners-between laws n heights a some finest =
    let c : Corners = corners_of n a in
    let area : HasArea c 1 = unit-area n a finest in
    let w : IsWithin (2 ^ n) c = laws.within n a in
    let f : Point → ℕ = height_of n heights in
    let is : low_of n heights a ≡ under (low_of n heights a) (map f (filter (holds_point n a) (points_of n))) =
    low_of-bounded laws n heights a (low_of n heights a) some (omega arith) (omega arith) in
    let apex : IsPointIn c.apex (points_of n) = IsPointIn-points_of n c.apex w.apex_x w.apex_y in
    let v0 : IsPointIn c.v0 (points_of n) = IsPointIn-points_of n c.v0 w.v0_x w.v0_y in
    let v1 : IsPointIn c.v1 (points_of n) = IsPointIn-points_of n c.v1 w.v1_x w.v1_y in
    record {
      apex_low = omega (
        arith,
        is,
        under-le (low_of n heights a) f (holds_point n a) c.apex (apex-held c 1 area) (points_of n) apex,
      );
      apex_high = le-greatest f (holds_point n a) c.apex (apex-held c 1 area) (points_of n) apex;
      v0_low =
          omega (arith, is, under-le (low_of n heights a) f (holds_point n a) c.v0 (v0-held c 1 area) (points_of n) v0);
      v0_high = le-greatest f (holds_point n a) c.v0 (v0-held c 1 area) (points_of n) v0;
      v1_low =
          omega (arith, is, under-le (low_of n heights a) f (holds_point n a) c.v1 (v1-held c 1 area) (points_of n) v1);
      v1_high = le-greatest f (holds_point n a) c.v1 (v1-held c 1 area) (points_of n) v1;
    }

-- what holds of the heights at the corners holds of that at each held point
at-corner : (P : ℕ → Type 0) (f : Point → ℕ) (c : Corners) (r : Point) → P (f c.apex) → P (f c.v0) → P (f c.v1) →
    IsCorner c r → P (f r)
at-corner P f c r apex v0 v1 is = let Q : Point → Type 0 = λ p. P (f p) in ⊎_elim {C = P (f r)}
    (λ e. subst Q (sym e) apex)
    (λ rest. ⊎_elim {C = P (f r)} (λ e. subst Q (sym e) v0) (λ e. subst Q (sym e) v1) rest)
    is

-- the least height in a finest triangle is the least of those at its corners
pub low_of-finest : AddressLaws → (n : ℕ) (heights : List ℕ) (a : ℕ) → 2 ≤ a → level_of a ≡ 2 * n →
    low_of n heights a ≡ least_of_3 (height_of n heights (corners_of n a).apex)
    (height_of n heights (corners_of n a).v0) (height_of n heights (corners_of n a).v1)
low_of-finest laws n heights a some finest =
    let c : Corners = corners_of n a in
    let f : Point → ℕ = height_of n heights in
    let m : ℕ = least_of_3 (f c.apex) (f c.v0) (f c.v1) in
    let b : ℕ = low_of n heights a + m in
    let between : IsBetween n heights c (low_of n heights a) (high_of n heights a) = corners-between laws n heights a
    some finest in
    let is : low_of n heights a ≡ under b (map f (filter (holds_point n a) (points_of n))) =
    low_of-bounded laws n heights a b some (omega arith) (omega arith) in
    let area : HasArea c 1 = unit-area n a finest in
    let P : ℕ → Type 0 = λ h. m ≤ h in
    let held : (r : Point) → holds_point n a r ≡ true → m ≤ f r = λ r h. at-corner P f c r (omega arith) (omega arith)
    (omega arith) (finest-corner c r area h) in
    omega (arith, is, le-under m b f (holds_point n a) (omega arith) held (points_of n), between)

-- the greatest height in a finest triangle is the greatest of those at its corners
pub high_of-finest : AddressLaws → (n : ℕ) (heights : List ℕ) (a : ℕ) → 2 ≤ a → level_of a ≡ 2 * n →
    high_of n heights a ≡ greatest_of_3 (height_of n heights (corners_of n a).apex)
    (height_of n heights (corners_of n a).v0) (height_of n heights (corners_of n a).v1)
high_of-finest laws n heights a some finest =
    let c : Corners = corners_of n a in
    let f : Point → ℕ = height_of n heights in
    let m : ℕ = greatest_of_3 (f c.apex) (f c.v0) (f c.v1) in
    let between : IsBetween n heights c (low_of n heights a) (high_of n heights a) = corners-between laws n heights a
    some finest in
    let area : HasArea c 1 = unit-area n a finest in
    let P : ℕ → Type 0 = λ h. h ≤ m in
    let held : (r : Point) → holds_point n a r ≡ true → f r ≤ m = λ r h. at-corner P f c r (omega arith) (omega arith)
    (omega arith) (finest-corner c r area h) in
    omega (arith, high_of-le n heights a m held, between)
