-- The eighths of the full turn around a point: a triangle has as many as its two children, one at least where it
-- holds the point and none elsewhere; the two halves of the square have at most eight.
use Rattle.std.proofs.Common.{◌≡◌, ℕ, zero, suc, ◌+◌, ◌*◌, ◌/◌, ◌<◌, ◌≤◌, true, false, refl, ap, ◌∙◌, arith, ⊎_elim}
use Rattle.std.proofs.lemmas.Bool.{cases_lt, leb-true, le-leb, and_parts}
use Rattle.std.specs.Cmp.Derive.{both_true}
use Rattle.mesh_defs.specs.declared.point.Point.{Point}
use Rattle.mesh_defs.specs.declared.point.Corners.{Corners}
use Rattle.mesh_defs.specs.Triangle.{child, midpoint, base_triangle}
use Rattle.mesh_defs.specs.BoundingBox.{is_in_closed}
use Rattle.bintree_laws.specs.Corners.{HasEvenBase, IsCounterclockwise}
use Rattle.height_edit.specs.Weights.{side_by, side_at, eighths, weight_in}

-- ---- eighths by sides

eighths-outside : (left base : ℕ) → eighths left base 0 ≡ 0
eighths-outside zero base = refl
eighths-outside (suc left) zero = refl
eighths-outside (suc left) (suc base) = refl

eighths-no_base : (left right : ℕ) → eighths left 0 right ≡ 0
eighths-no_base zero right = refl
eighths-no_base (suc left) right = refl

-- at most half a turn on the base
eighths-on_base : (left right : ℕ) → eighths left 1 right ≤ 4
eighths-on_base zero right = omega arith
eighths-on_base (suc left) zero = omega arith
eighths-on_base (suc zero) (suc right) = omega arith
eighths-on_base (suc (suc left)) (suc zero) = omega arith
eighths-on_base (suc (suc left)) (suc (suc right)) = omega arith

eighths-high : (left base right : ℕ) → eighths left base right ≤ 8
eighths-high zero base right = omega arith
eighths-high (suc left) zero right = omega arith
eighths-high (suc left) (suc base) zero = omega arith
eighths-high (suc zero) (suc zero) (suc right) = omega arith
eighths-high (suc zero) (suc (suc base)) (suc zero) = omega arith
eighths-high (suc zero) (suc (suc base)) (suc (suc right)) = omega arith
eighths-high (suc (suc left)) (suc zero) (suc zero) = omega arith
eighths-high (suc (suc left)) (suc zero) (suc (suc right)) = omega arith
eighths-high (suc (suc left)) (suc (suc base)) (suc zero) = omega arith
eighths-high (suc (suc left)) (suc (suc base)) (suc (suc right)) = omega arith

-- the right leg is the farther line: the point is in the left child
in-left : (left base right : ℕ) → left < right → right ≤ 2 → eighths left base right ≡ eighths 2 left base
in-left zero base right lt high = refl
in-left (suc zero) base zero lt high = absurd (omega arith)
in-left (suc zero) base (suc zero) lt high = absurd (omega arith)
in-left (suc zero) zero (suc (suc right)) lt high = refl
in-left (suc zero) (suc zero) (suc (suc right)) lt high = refl
in-left (suc zero) (suc (suc base)) (suc (suc right)) lt high = refl
in-left (suc (suc left)) base right lt high = absurd (omega arith)

-- the left leg is the farther line: the point is in the right child
in-right : (left base right : ℕ) → right < left → left ≤ 2 → eighths left base right ≡ eighths base right 2
in-right zero base right lt high = absurd (omega arith)
in-right (suc left) zero zero lt high = refl
in-right (suc left) (suc base) zero lt high = refl
in-right (suc zero) base (suc right) lt high = absurd (omega arith)
in-right (suc (suc left)) zero (suc zero) lt high = refl
in-right (suc (suc left)) (suc zero) (suc zero) lt high = refl
in-right (suc (suc left)) (suc (suc base)) (suc zero) lt high = refl
in-right (suc (suc left)) base (suc (suc right)) lt high = absurd (omega arith)

-- both legs alike
in-both : (leg base cut back : ℕ) → cut + back ≡ 2 → (leg ≡ 1 → (cut ≡ 1) × (base ≡ 2)) →
    eighths leg base leg ≡ eighths cut leg base + eighths base leg back
in-both zero zero zero back turn apex = refl
in-both zero zero (suc cut) back turn apex = refl
in-both zero (suc base) zero back turn apex = refl
in-both zero (suc base) (suc cut) back turn apex = refl
in-both (suc zero) base cut back turn apex =
    let at : (cut ≡ 1) × (base ≡ 2) = apex refl in
    let other : back ≡ 1 = omega (arith, at) in
    rw (at.0, at.1, other) refl
in-both (suc (suc leg)) zero zero back turn apex = refl
in-both (suc (suc leg)) zero (suc cut) back turn apex = refl
in-both (suc (suc leg)) (suc zero) zero back turn apex = let two : back ≡ 2 = omega arith in rw two refl
in-both (suc (suc leg)) (suc (suc base)) zero back turn apex = let two : back ≡ 2 = omega arith in rw two refl
in-both (suc (suc leg)) (suc zero) (suc zero) back turn apex = let one : back ≡ 1 = omega arith in rw one refl
in-both (suc (suc leg)) (suc (suc base)) (suc zero) back turn apex = let one : back ≡ 1 = omega arith in rw one refl
in-both (suc (suc leg)) (suc zero) (suc (suc cut)) back turn apex = let none : back ≡ 0 = omega arith in rw none refl
in-both (suc (suc leg)) (suc (suc base)) (suc (suc cut)) back turn apex =
    let none : back ≡ 0 = omega arith in
    rw none refl

-- a triangle has the eighths of its two children, by the sides of its lines and of the line that cuts it
eighths-children : (left base right cut back : ℕ) → left ≤ 2 → right ≤ 2 → cut + back ≡ 2 → (left < right → cut ≡ 2) →
    (right < left → cut ≡ 0) → (left ≡ 1 → right ≡ 1 → (cut ≡ 1) × (base ≡ 2)) →
    eighths left base right ≡ eighths cut left base + eighths base right back
eighths-children left base right cut back left_high right_high turn less more apex =
    ⊎_elim {C = eighths left base right ≡ eighths cut left base + eighths base right back}
    (λ lt. let two : cut ≡ 2 = less lt in let none : back ≡ 0 = omega arith in
    rw (two, none, eighths-outside base right) (in-left left base right lt right_high ∙ omega arith))
    (λ ge. ⊎_elim {C = eighths left base right ≡ eighths cut left base + eighths base right back}
    (λ gt. let none : cut ≡ 0 = more gt in let two : back ≡ 2 = omega arith in
    rw (none, two) (in-right left base right gt left_high ∙ omega arith))
    (λ le. let same : right ≡ left = omega arith in
    rw same (in-both left base cut back turn (λ one. apex one (omega arith))))
    (cases_lt right left))
    (cases_lt left right)

-- ---- the lines of the children

side-high : (i j : ℕ) → side_by i j ≤ 2
side-high i j = omega arith

-- the sides by the three lines, the line from the midpoint to the apex, and the halves of the base
pub record SideFacts (left base right cut back near far : ℕ) : Type 0 where
  pub turn : cut + back ≡ 2
  pub less : left < right → cut ≡ 2
  pub more : right < left → cut ≡ 0
  pub apex : left ≡ 1 → right ≡ 1 → (cut ≡ 1) × (base ≡ 2)
  pub near_half : near ≡ base
  pub far_half : far ≡ base

sides-by : (l1 l2 b1 b2 r1 r2 m1 m2 k1 k2 n1 n2 f1 f2 : ℕ) → 2 * m2 + r1 + l2 ≡ 2 * m1 + r2 + l1 → k1 ≡ m2 → k2 ≡ m1 →
    2 * n2 + b1 ≡ 2 * n1 + b2 → 2 * f2 + b1 ≡ 2 * f1 + b2 → l1 + b1 + r1 < l2 + b2 + r2 →
    SideFacts (side_by l1 l2) (side_by b1 b2) (side_by r1 r2) (side_by m1 m2) (side_by k1 k2)
    (side_by n1 n2) (side_by f1 f2)
sides-by l1 l2 b1 b2 r1 r2 m1 m2 k1 k2 n1 n2 f1 f2 cut back_1 back_2 near far area = record {
  turn = rw (back_1, back_2) (omega arith);
  less = λ lt. omega arith;
  more = λ gt. omega arith;
  apex = λ one two. (omega arith, omega arith);
  near_half = omega arith;
  far_half = omega arith;
}

cut-line : (ax ay px py qx qy rx ry mx my : ℕ) → 2 * mx ≡ px + qx → 2 * my ≡ py + qy →
    2 * (mx * ay + ax * ry + rx * my) + (qy * ax + ay * rx + ry * qx) + (ax * py + px * ry + rx * ay)
    ≡ 2 * (my * ax + ay * rx + ry * mx) + (qx * ay + ax * ry + rx * qy) + (ay * px + py * rx + ry * ax)
cut-line ax ay px py qx qy rx ry mx my hx hy =
    omega (arith, ap (λ t. t * ay) hx, ap (λ t. t * ry) hx, ap (λ t. t * ax) hy, ap (λ t. t * rx) hy)

near-line : (px py qx qy rx ry mx my : ℕ) → 2 * mx ≡ px + qx → 2 * my ≡ py + qy →
    2 * (px * my + mx * ry + rx * py) + (py * qx + qy * rx + ry * px)
    ≡ 2 * (py * mx + my * rx + ry * px) + (px * qy + qx * ry + rx * py)
near-line px py qx qy rx ry mx my hx hy =
    omega (arith, ap (λ t. t * py) hx, ap (λ t. t * ry) hx, ap (λ t. t * px) hy, ap (λ t. t * rx) hy)

far-line : (px py qx qy rx ry mx my : ℕ) → 2 * mx ≡ px + qx → 2 * my ≡ py + qy →
    2 * (mx * qy + qx * ry + rx * my) + (py * qx + qy * rx + ry * px)
    ≡ 2 * (my * qx + qy * rx + ry * mx) + (px * qy + qx * ry + rx * py)
far-line px py qx qy rx ry mx my hx hy =
    omega (arith, ap (λ t. t * qy) hx, ap (λ t. t * ry) hx, ap (λ t. t * qx) hy, ap (λ t. t * rx) hy)

back-right : (ax ay rx ry mx my : ℕ) → ay * mx + my * rx + ry * ax ≡ mx * ay + ax * ry + rx * my
back-right ax ay rx ry mx my = omega arith

back-left : (ax ay rx ry mx my : ℕ) → ax * my + mx * ry + rx * ay ≡ my * ax + ay * rx + ry * mx
back-left ax ay rx ry mx my = omega arith

all-lines : (ax ay px py qx qy rx ry : ℕ) → ay * px + py * qx + qy * ax < ax * py + px * qy + qx * ay →
    (ay * px + py * rx + ry * ax) + (py * qx + qy * rx + ry * px) + (qy * ax + ay * rx + ry * qx)
    < (ax * py + px * ry + rx * ay) + (px * qy + qx * ry + rx * py) + (qx * ay + ax * ry + rx * qy)
all-lines ax ay px py qx qy rx ry area = omega arith

sides : (ax ay px py qx qy rx ry mx my : ℕ) → 2 * mx ≡ px + qx → 2 * my ≡ py + qy →
    ay * px + py * qx + qy * ax < ax * py + px * qy + qx * ay →
    SideFacts
    (side_by (ay * px + py * rx + ry * ax) (ax * py + px * ry + rx * ay))
    (side_by (py * qx + qy * rx + ry * px) (px * qy + qx * ry + rx * py))
    (side_by (qy * ax + ay * rx + ry * qx) (qx * ay + ax * ry + rx * qy))
    (side_by (my * ax + ay * rx + ry * mx) (mx * ay + ax * ry + rx * my))
    (side_by (ay * mx + my * rx + ry * ax) (ax * my + mx * ry + rx * ay))
    (side_by (py * mx + my * rx + ry * px) (px * my + mx * ry + rx * py))
    (side_by (my * qx + qy * rx + ry * mx) (mx * qy + qx * ry + rx * my))
sides ax ay px py qx qy rx ry mx my hx hy area =
    sides-by _ _ _ _ _ _ _ _ _ _ _ _ _ _ (cut-line ax ay px py qx qy rx ry mx my hx hy) (back-right ax ay rx ry mx my)
    (back-left ax ay rx ry mx my) (near-line px py qx qy rx ry mx my hx hy) (far-line px py qx qy rx ry mx my hx hy)
    (all-lines ax ay px py qx qy rx ry area)

-- a triangle has the eighths of its two children
pub weight-children : (c : Corners) (r : Point) → HasEvenBase c → IsCounterclockwise c →
    weight_in c r ≡ weight_in (child 0 c) r + weight_in (child 1 c) r
weight-children c r even area =
    let m : Point = midpoint c.v0 c.v1 in
    let f : SideFacts (side_at r c.apex c.v0) (side_at r c.v0 c.v1) (side_at r c.v1 c.apex) (side_at r m c.apex)
    (side_at r c.apex m) (side_at r c.v0 m) (side_at r m c.v1) =
    sides c.apex.x c.apex.y c.v0.x c.v0.y c.v1.x c.v1.y r.x r.y ((c.v0.x + c.v1.x) / 2) ((c.v0.y + c.v1.y) / 2)
    (omega (arith, even.x)) (omega (arith, even.y)) area in
    rw (f.near_half, f.far_half) (eighths-children (side_at r c.apex c.v0) (side_at r c.v0 c.v1) (side_at r c.v1 c.apex)
    (side_at r m c.apex) (side_at r c.apex m) (side-high _ _) (side-high _ _) f.turn f.less f.more f.apex)

-- ---- triangles that hold the point

some-eighths : (left base right : ℕ) → 1 ≤ left → 1 ≤ base → 1 ≤ right → 1 ≤ eighths left base right
some-eighths zero base right l b r = absurd (omega arith)
some-eighths (suc left) zero right l b r = absurd (omega arith)
some-eighths (suc left) (suc base) zero l b r = absurd (omega arith)
some-eighths (suc zero) (suc zero) (suc right) l b r = omega arith
some-eighths (suc zero) (suc (suc base)) (suc zero) l b r = omega arith
some-eighths (suc zero) (suc (suc base)) (suc (suc right)) l b r = omega arith
some-eighths (suc (suc left)) (suc zero) (suc zero) l b r = omega arith
some-eighths (suc (suc left)) (suc zero) (suc (suc right)) l b r = omega arith
some-eighths (suc (suc left)) (suc (suc base)) (suc zero) l b r = omega arith
some-eighths (suc (suc left)) (suc (suc base)) (suc (suc right)) l b r = omega arith

on-or-left : (i j : ℕ) → i ≤ j → 1 ≤ side_by i j
on-or-left i j le = omega arith

-- one eighth at least where it holds the point
pub weight-held : (c : Corners) (r : Point) → is_in_closed c r ≡ true → 1 ≤ weight_in c r
weight-held c r held =
    let one : _ = and_parts _ _ held in
    let two : _ = and_parts _ _ one.1 in
    some-eighths (side_at r c.apex c.v0) (side_at r c.v0 c.v1) (side_at r c.v1 c.apex)
    (on-or-left _ _ (leb-true _ _ one.0)) (on-or-left _ _ (leb-true _ _ two.0)) (on-or-left _ _ (leb-true _ _ two.1))

right-side : (i j : ℕ) → j < i → side_by i j ≡ 0
right-side i j lt = omega arith

-- none where it does not
pub weight-not-held : (c : Corners) (r : Point) → is_in_closed c r ≡ false → weight_in c r ≡ 0
weight-not-held c r out =
    ⊎_elim {C = weight_in c r ≡ 0}
    (λ l. ap (λ s. eighths s (side_at r c.v0 c.v1) (side_at r c.v1 c.apex)) (right-side _ _ l))
    (λ left. ⊎_elim {C = weight_in c r ≡ 0}
    (λ l. ap (λ s. eighths (side_at r c.apex c.v0) s (side_at r c.v1 c.apex)) (right-side _ _ l)
    ∙ eighths-no_base (side_at r c.apex c.v0) (side_at r c.v1 c.apex))
    (λ base. ⊎_elim {C = weight_in c r ≡ 0}
    (λ l. ap (λ s. eighths (side_at r c.apex c.v0) (side_at r c.v0 c.v1) s) (right-side _ _ l)
    ∙ eighths-outside (side_at r c.apex c.v0) (side_at r c.v0 c.v1))
    (λ right. let held : is_in_closed c r ≡ true =
    both_true (le-leb _ _ left) (both_true (le-leb _ _ base) (le-leb _ _ right)) in
    absurd (cc (held, out)))
    (cases_lt (c.v1.x * c.apex.y + c.apex.x * r.y + r.x * c.v1.y) (c.v1.y * c.apex.x + c.apex.y * r.x + r.y * c.v1.x)))
    (cases_lt (c.v0.x * c.v1.y + c.v1.x * r.y + r.x * c.v0.y) (c.v0.y * c.v1.x + c.v1.y * r.x + r.y * c.v0.x)))
    (cases_lt (c.apex.x * c.v0.y + c.v0.x * r.y + r.x * c.apex.y) (c.apex.y * c.v0.x + c.v0.y * r.x + r.y * c.apex.x))

-- ---- the halves of the square

-- between two opposite lines: inside of one half and outside of the other, or on the base of both
halves-by : (left base right other_left other_base other_right : ℕ) → base + other_base ≡ 2 → left ≤ 2 → right ≤ 2 →
    other_left ≤ 2 → other_right ≤ 2 →
    eighths left base right + eighths other_left other_base other_right ≤ 8
halves-by left zero right other_left other_base other_right turn l r ol or =
    omega (arith, eighths-no_base left right, eighths-high other_left other_base other_right)
halves-by left (suc zero) right other_left other_base other_right turn l r ol or =
    let one : other_base ≡ 1 = omega arith in
    rw one (omega (arith, eighths-on_base left right, eighths-on_base other_left other_right))
halves-by left (suc (suc base)) right other_left other_base other_right turn l r ol or =
    let none : other_base ≡ 0 = omega arith in
    rw none (omega (arith, eighths-no_base other_left other_right, eighths-high left (suc (suc base)) right))

opposite : (i j k l : ℕ) → i ≡ l → j ≡ k → side_by i j + side_by k l ≡ 2
opposite i j k l e f = omega arith

-- the two halves of the square have at most the full turn
pub weight-halves : (m : ℕ) (r : Point) → weight_in (base_triangle m 0) r + weight_in (base_triangle m 1) r ≤ 8
weight-halves m r =
    let c : Corners = base_triangle m 0 in
    let d : Corners = base_triangle m 1 in
    halves-by (side_at r c.apex c.v0) (side_at r c.v0 c.v1) (side_at r c.v1 c.apex)
    (side_at r d.apex d.v0) (side_at r d.v0 d.v1) (side_at r d.v1 d.apex)
    (opposite _ _ _ _ (omega arith) (omega arith)) (side-high _ _) (side-high _ _) (side-high _ _) (side-high _ _)
