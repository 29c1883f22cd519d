-- Two of the eight corners decide whether all of them, or some of them, are outside a plane.
use Rattle.std.proofs.Common.{◌≡◌, ℕ, zero, suc, Bool, true, false, List, [], ◌∷◌, get_or, refl, sym, ◌∙◌, arith}
use Rattle.std.proofs.Common.{if◌then◌else◌, ℤ, pos, ◌≤ℤ◌, int_lt}
use Rattle.std.specs.List.{list_any, list_all}
use Rattle.std.proofs.lemmas.Int.{ints}
use Rattle.text_laws.proofs.TestLemmas.{by_bool}
use Rattle.mesh_defs.specs.BoundingBox.{BoundingBox}
use Rattle.mesh_defs.specs.View.{ViewPlane, is_outside, outside_corners, is_all_outside, is_some_outside}
use Rattle.cull_marks.specs.Plane.{plane_value, far_end, far_value, near_value}
use Rattle.cull_marks.specs.Nesting.{IsOrdered}
use Rattle.cull_marks.proofs.SlopeLemmas.{below_far, above_near}

-- ---- lists of answers

-- one answer no: not all are yes
pub all-false : (xs : List Bool) (k : ℕ) → get_or xs k true ≡ false → list_all (λ outside. outside) xs ≡ false
all-false [] k e = e
all-false (x ∷ xs) zero e = rw e refl
all-false (true ∷ xs) (suc k) e = all-false xs k e
all-false (false ∷ xs) (suc k) e = refl

-- one answer yes: some is yes
any-true : (xs : List Bool) (k : ℕ) → get_or xs k false ≡ true → list_any (λ outside. outside) xs ≡ true
any-true [] k e = e
any-true (x ∷ xs) zero e = rw e refl
any-true (true ∷ xs) (suc k) e = refl
any-true (false ∷ xs) (suc k) e = any-true xs k e

-- ---- values in a box

-- the ends of the box are in order, and the point lies in it
pub record IsPointIn (box : BoundingBox) (x y z : ℤ) : Type 0 where
  pub x_low : box.x0 ≤ℤ x
  pub x_high : x ≤ℤ box.x1
  pub y_low : box.y0 ≤ℤ y
  pub y_high : y ≤ℤ box.y1
  pub z_low : box.z0 ≤ℤ z
  pub z_high : z ≤ℤ box.z1

-- no point of the box has a greater value than the far corner
pub value_of-below_far : (p : ViewPlane) (box : BoundingBox) (x y z : ℤ) → IsPointIn box x y z →
    plane_value p x y z ≤ℤ far_value p box
value_of-below_far p box x y z within =
    omega (
      arith,
      ints,
      below_far p.a x box.x0 box.x1 within.x_low within.x_high,
      below_far p.b y box.y0 box.y1 within.y_low within.y_high,
      below_far p.c z box.z0 box.z1 within.z_low within.z_high,
    )

-- no point of the box has a lower value than the near corner
pub value_of-above_near : (p : ViewPlane) (box : BoundingBox) (x y z : ℤ) → IsPointIn box x y z →
    near_value p box ≤ℤ plane_value p x y z
value_of-above_near p box x y z within =
    omega (
      arith,
      ints,
      above_near p.a x box.x0 box.x1 within.x_low within.x_high,
      above_near p.b y box.y0 box.y1 within.y_low within.y_high,
      above_near p.c z box.z0 box.z1 within.z_low within.z_high,
    )

-- a value that is at most one below 0 is below 0 too
pub lower_is_outside : (v w : ℤ) → v ≤ℤ w → int_lt w (pos 0) ≡ true → int_lt v (pos 0) ≡ true
lower_is_outside v w le e = grind (arith, ints)

-- a value that is at least one not below 0 is not below 0 either
pub higher_is_not : (v w : ℤ) → v ≤ℤ w → int_lt v (pos 0) ≡ false → int_lt w (pos 0) ≡ false
higher_is_not v w le e = grind (arith, ints)

-- ---- the eight corners

-- the end that the far or the near corner has, by a test
abbrev end_by : Bool → ℤ → ℤ → ℤ
end_by test i j = if test then i else j

all-at_corner : (p : ViewPlane) (box : BoundingBox) (s t u : Bool) →
    is_outside p (end_by s box.x0 box.x1) (end_by t box.y0 box.y1) (end_by u box.z0 box.z1) ≡ false →
    is_all_outside box p ≡ false
all-at_corner p box true true true e = all-false (outside_corners box p) 0 e
all-at_corner p box false true true e = all-false (outside_corners box p) 1 e
all-at_corner p box true false true e = all-false (outside_corners box p) 2 e
all-at_corner p box false false true e = all-false (outside_corners box p) 3 e
all-at_corner p box true true false e = all-false (outside_corners box p) 4 e
all-at_corner p box false true false e = all-false (outside_corners box p) 5 e
all-at_corner p box true false false e = all-false (outside_corners box p) 6 e
all-at_corner p box false false false e = all-false (outside_corners box p) 7 e

any-at_corner : (p : ViewPlane) (box : BoundingBox) (s t u : Bool) →
    is_outside p (end_by s box.x1 box.x0) (end_by t box.y1 box.y0) (end_by u box.z1 box.z0) ≡ true →
    is_some_outside box p ≡ true
any-at_corner p box true true true e = any-true (outside_corners box p) 7 e
any-at_corner p box false true true e = any-true (outside_corners box p) 6 e
any-at_corner p box true false true e = any-true (outside_corners box p) 5 e
any-at_corner p box false false true e = any-true (outside_corners box p) 4 e
any-at_corner p box true true false e = any-true (outside_corners box p) 3 e
any-at_corner p box false true false e = any-true (outside_corners box p) 2 e
any-at_corner p box true false false e = any-true (outside_corners box p) 1 e
any-at_corner p box false false false e = any-true (outside_corners box p) 0 e

corner_in : (box : BoundingBox) (s t u : Bool) → IsOrdered box →
    IsPointIn box (end_by s box.x0 box.x1) (end_by t box.y0 box.y1) (end_by u box.z0 box.z1)
corner_in box s t u o = record {
  x_low = end_low s box.x0 box.x1 o.x;
  x_high = end_high s box.x0 box.x1 o.x;
  y_low = end_low t box.y0 box.y1 o.y;
  y_high = end_high t box.y0 box.y1 o.y;
  z_low = end_low u box.z0 box.z1 o.z;
  z_high = end_high u box.z0 box.z1 o.z;
}
  where
    end_low : (s : Bool) (low high : ℤ) → low ≤ℤ high → low ≤ℤ end_by s low high
    end_low true low high le = omega (arith, ints)
    end_low false low high le = le

    end_high : (s : Bool) (low high : ℤ) → low ≤ℤ high → end_by s low high ≤ℤ high
    end_high true low high le = le
    end_high false low high le = omega (arith, ints)

-- all corners are outside where the far one is
pub all_outside-far : (p : ViewPlane) (box : BoundingBox) → IsOrdered box →
    is_all_outside box p ≡ int_lt (far_value p box) (pos 0)
all_outside-far p box o =
    by_bool (int_lt (far_value p box) (pos 0))
    (λ yes.
    let out : (s t u : Bool) →
    is_outside p (end_by s box.x0 box.x1) (end_by t box.y0 box.y1) (end_by u box.z0 box.z1) ≡ true =
    λ s t u. lower_is_outside _ (far_value p box)
    (value_of-below_far p box _ _ _ (corner_in box s t u o)) yes in
    rw (
      out true true true,
      out false true true,
      out true false true,
      out false false true,
      out true true false,
      out false true false,
      out true false false,
      out false false false,
      yes,
    ) refl)
    (λ no.
    all-at_corner p box (int_lt p.a (pos 0)) (int_lt p.b (pos 0)) (int_lt p.c (pos 0)) no ∙ sym no)

-- some corner is outside where the near one is
pub some_outside-near : (p : ViewPlane) (box : BoundingBox) → IsOrdered box →
    is_some_outside box p ≡ int_lt (near_value p box) (pos 0)
some_outside-near p box o =
    by_bool (int_lt (near_value p box) (pos 0))
    (λ yes.
    any-at_corner p box (int_lt p.a (pos 0)) (int_lt p.b (pos 0)) (int_lt p.c (pos 0)) yes ∙ sym yes)
    (λ no.
    let out : (s t u : Bool) →
    is_outside p (end_by s box.x0 box.x1) (end_by t box.y0 box.y1) (end_by u box.z0 box.z1) ≡ false =
    λ s t u. higher_is_not (near_value p box) _
    (value_of-above_near p box _ _ _ (corner_in box s t u o)) no in
    rw (
      out true true true,
      out false true true,
      out true false true,
      out false false true,
      out true true false,
      out false true false,
      out true false false,
      out false false false,
      no,
    ) refl)

-- ---- for the code

-- the far value from the ends that the code finds, where q is p
pub far_value-by_ends : (q p : ViewPlane) (box : BoundingBox) (x y z v : ℤ) → q ≡ p →
    x ≡ far_end q.a box.x0 box.x1 → y ≡ far_end q.b box.y0 box.y1 → z ≡ far_end q.c box.z0 box.z1 →
    v ≡ plane_value p x y z → v ≡ far_value p box
far_value-by_ends q p box x y z v same x_is y_is z_is value_is = value_is ∙ rw (x_is, y_is, z_is, same) refl

-- the near value likewise
pub near_value-by_ends : (q p : ViewPlane) (box : BoundingBox) (x y z v : ℤ) → q ≡ p →
    x ≡ far_end q.a box.x1 box.x0 → y ≡ far_end q.b box.y1 box.y0 → z ≡ far_end q.c box.z1 box.z0 →
    v ≡ plane_value p x y z → v ≡ near_value p box
near_value-by_ends q p box x y z v same x_is y_is z_is value_is = value_is ∙ rw (x_is, y_is, z_is, same) refl
