-- Which points a triangle holds: those of its children, and of a finest one its corners alone.
use Rattle.std.proofs.Common.{◌≡◌, ℕ, suc, ◌+◌, ◌-◌, ◌*◌, ◌/◌, ◌^◌, ◌<◌, ◌≤◌, ◌⊎◌, ◌↔◌, Bool, true, false, ◌&&◌, ◌||◌}
use Rattle.std.proofs.Common.{refl, ap, ◌∙◌, arith, ⊎_elim, inl, inr}
use Rattle.std.proofs.lemmas.Bool.{cases_lt, leb-true, le-leb, and_parts}
use Rattle.std.specs.Cmp.Derive.{both_true}
use Rattle.mesh_defs.specs.declared.point.Point.{Point}
use Rattle.mesh_defs.specs.declared.point.Corners.{Corners}
use Rattle.mesh_defs.specs.Triangle.{child, midpoint, IsCorner, level_of, corners_of}
use Rattle.mesh_defs.specs.BoundingBox.{is_left_or_on, is_in_closed}
use Rattle.bintree_laws.specs.Corners.{IsWithin, HasEvenBase}
use Rattle.bintree_laws.proofs.LevelLemmas.{level_of-below, level_of-left, level_of-right, level_of-parent}
use Rattle.bintree_laws.proofs.CornerLemmas.{corners_of-left, corners_of-right, IsWithin-corners_of}
use Rattle.bintree_laws.proofs.LatticeLemmas.{same_point, HasEvenBase-corners_of}
use Rattle.bintree_laws.proofs.WeightLemmas.{HasArea, IsMean, IsLeftBy, IsMean-across}

-- ---- what is known of addresses

-- the laws of levels and of corners
pub record AddressLaws : Type 0 where
  pub below : (a k : ℕ) → 2 ≤ a → ((level_of a < k) ↔ (a < 2 ^ (k + 1)))
  pub left : (a : ℕ) → 2 ≤ a → level_of (2 * a) ≡ level_of a + 1
  pub right : (a : ℕ) → 2 ≤ a → level_of (2 * a + 1) ≡ level_of a + 1
  pub parent : (a : ℕ) → 4 ≤ a → level_of a ≡ level_of (a / 2) + 1
  pub left_corners : (n a : ℕ) → 2 ≤ a → corners_of n (2 * a) ≡ child 0 (corners_of n a)
  pub right_corners : (n a : ℕ) → 2 ≤ a → corners_of n (2 * a + 1) ≡ child 1 (corners_of n a)
  pub within : (n a : ℕ) → IsWithin (2 ^ n) (corners_of n a)
  pub even : (n a : ℕ) → level_of a < 2 * n → HasEvenBase (corners_of n a)

-- which are those of bintree_laws
pub address_laws : AddressLaws
address_laws = record {
  below = level_of-below;
  left = level_of-left;
  right = level_of-right;
  parent = level_of-parent;
  left_corners = corners_of-left;
  right_corners = corners_of-right;
  within = IsWithin-corners_of;
  even = HasEvenBase-corners_of;
}

-- the first level: below 4, and the deeper ones from 4 on
pub coarsest : AddressLaws → (a : ℕ) → 2 ≤ a → level_of a ≡ 0 → a < 4
coarsest laws a low level = (laws.below a 1 low).0 (omega arith)

-- a triangle below level 0 has an address of at least 4
pub deeper : AddressLaws → (a level : ℕ) → 2 ≤ a → level_of a ≡ suc level → 4 ≤ a
deeper laws a level low is = ⊎_elim {C = 4 ≤ a}
    (λ lt. let first : level_of a < 1 = (laws.below a 1 low).1 lt in absurd (omega arith))
    (λ ge. ge) (cases_lt a 4)

-- ---- held points

-- r lies left of the line from p to q or on it
abbrev pub IsLeft : Point → Point → Point → Type 0
IsLeft r p q = p.y * q.x + q.y * r.x + r.y * p.x ≤ p.x * q.y + q.x * r.y + r.x * p.y

-- the point r lies left of each of the three edges of the triangle with the corners c, or on it
pub record IsHeld (c : Corners) (r : Point) : Type 0 where
  pub left_leg : IsLeft r c.apex c.v0
  pub base : IsLeft r c.v0 c.v1
  pub right_leg : IsLeft r c.v1 c.apex

-- a point of the closed triangle lies left of each of its edges or on it
pub read : (c : Corners) (r : Point) → is_in_closed c r ≡ true → IsHeld c r
read c r h =
    let legs : (is_left_or_on r c.apex c.v0 ≡ true)
    × ((is_left_or_on r c.v0 c.v1 && is_left_or_on r c.v1 c.apex) ≡ true) =
    and_parts (is_left_or_on r c.apex c.v0) (is_left_or_on r c.v0 c.v1 && is_left_or_on r c.v1 c.apex) h in
    let rest : (is_left_or_on r c.v0 c.v1 ≡ true) × (is_left_or_on r c.v1 c.apex ≡ true) =
    and_parts (is_left_or_on r c.v0 c.v1) (is_left_or_on r c.v1 c.apex) legs.1 in
    record {
      left_leg = leb-true _ _ legs.0;
      base = leb-true _ _ rest.0;
      right_leg = leb-true _ _ rest.1;
    }

made : (c : Corners) (r : Point) → IsHeld c r → is_in_closed c r ≡ true
made c r h = both_true (le-leb _ _ h.left_leg) (both_true (le-leb _ _ h.base) (le-leb _ _ h.right_leg))

or-by : (b c d : Bool) → (b ≡ true → (c ≡ true) ⊎ (d ≡ true)) → (c ≡ true → b ≡ true) → (d ≡ true → b ≡ true) →
    b ≡ (c || d)
or-by true true d h f g = refl
or-by true false true h f g = refl
or-by true false false h f g = ⊎_elim {C = true ≡ false} (λ e. absurd (cc)) (λ e. absurd (cc)) (h refl)
or-by false true d h f g = f refl
or-by false false true h f g = g refl
or-by false false false h f g = refl

-- ---- a triangle holds the points of its children

-- The six lines of the children, from those of the triangle and back. The midpoint (mx, my) is halfway from
-- (px, py) to (qx, qy).
pub record Halves (ax ay px py qx qy rx ry mx my : ℕ) : Type 0 where
  pub x_by_ay : 2 * mx * ay ≡ (px + qx) * ay
  pub x_by_py : 2 * mx * py ≡ (px + qx) * py
  pub x_by_qy : 2 * mx * qy ≡ (px + qx) * qy
  pub x_by_ry : 2 * mx * ry ≡ (px + qx) * ry
  pub y_by_ax : 2 * my * ax ≡ (py + qy) * ax
  pub y_by_px : 2 * my * px ≡ (py + qy) * px
  pub y_by_qx : 2 * my * qx ≡ (py + qy) * qx
  pub y_by_rx : 2 * my * rx ≡ (py + qy) * rx

halves : (ax ay px py qx qy rx ry mx my : ℕ) → 2 * mx ≡ px + qx → 2 * my ≡ py + qy →
    Halves ax ay px py qx qy rx ry mx my
halves ax ay px py qx qy rx ry mx my hx hy = record {
  x_by_ay = ap (λ t. t * ay) hx;
  x_by_py = ap (λ t. t * py) hx;
  x_by_qy = ap (λ t. t * qy) hx;
  x_by_ry = ap (λ t. t * ry) hx;
  y_by_ax = ap (λ t. t * ax) hy;
  y_by_px = ap (λ t. t * px) hy;
  y_by_qx = ap (λ t. t * qx) hy;
  y_by_rx = ap (λ t. t * rx) hy;
}

halves-of : (c : Corners) (r : Point) → HasEvenBase c → Halves c.apex.x c.apex.y c.v0.x c.v0.y c.v1.x c.v1.y r.x r.y
    ((c.v0.x + c.v1.x) / 2) ((c.v0.y + c.v1.y) / 2)
halves-of c r even = halves c.apex.x c.apex.y c.v0.x c.v0.y c.v1.x c.v1.y r.x r.y ((c.v0.x + c.v1.x) / 2)
    ((c.v0.y + c.v1.y) / 2) (omega (arith, even.x)) (omega (arith, even.y))

down : (c : Corners) (r : Point) → HasEvenBase c → IsHeld c r → IsHeld (child 0 c) r ⊎ IsHeld (child 1 c) r
down c r even h =
    let m : Point = midpoint c.v0 c.v1 in
    let k : Halves c.apex.x c.apex.y c.v0.x c.v0.y c.v1.x c.v1.y r.x r.y m.x m.y = halves-of c r even in
    ⊎_elim {C = IsHeld (child 0 c) r ⊎ IsHeld (child 1 c) r}
    (λ lt. inr (record { left_leg = omega arith; base = h.right_leg; right_leg = omega arith }))
    (λ ge. inl (record { left_leg = ge; base = h.left_leg; right_leg = omega arith }))
    (cases_lt (m.x * c.apex.y + c.apex.x * r.y + r.x * m.y) (m.y * c.apex.x + c.apex.y * r.x + r.y * m.x))

up-left : (c : Corners) (r : Point) → HasEvenBase c → IsHeld (child 0 c) r → IsHeld c r
up-left c r even h =
    let m : Point = midpoint c.v0 c.v1 in
    let k : Halves c.apex.x c.apex.y c.v0.x c.v0.y c.v1.x c.v1.y r.x r.y m.x m.y = halves-of c r even in
    record { left_leg = h.base; base = omega arith; right_leg = omega arith }

up-right : (c : Corners) (r : Point) → HasEvenBase c → IsHeld (child 1 c) r → IsHeld c r
up-right c r even h =
    let m : Point = midpoint c.v0 c.v1 in
    let k : Halves c.apex.x c.apex.y c.v0.x c.v0.y c.v1.x c.v1.y r.x r.y m.x m.y = halves-of c r even in
    record { left_leg = omega arith; base = omega arith; right_leg = h.base }

-- a triangle holds exactly the points that one of its children holds
pub is_in_closed-children : (c : Corners) (r : Point) → HasEvenBase c →
    is_in_closed c r ≡ (is_in_closed (child 0 c) r || is_in_closed (child 1 c) r)
is_in_closed-children c r even = or-by (is_in_closed c r) (is_in_closed (child 0 c) r) (is_in_closed (child 1 c) r)
    (λ h. ⊎_elim {C = (is_in_closed (child 0 c) r ≡ true) ⊎ (is_in_closed (child 1 c) r ≡ true)}
    (λ left. inl (made (child 0 c) r left)) (λ right. inr (made (child 1 c) r right)) (down c r even (read c r h)))
    (λ h. made c r (up-left c r even (read (child 0 c) r h)))
    (λ h. made c r (up-right c r even (read (child 1 c) r h)))

-- ---- a triangle holds its corners, and a finest one no other points

-- a triangle of doubled area d holds its apex
pub apex-held : (c : Corners) (d : ℕ) → HasArea c d → is_in_closed c c.apex ≡ true
apex-held c d h = let area : HasArea c d = h in
    made c c.apex (record { left_leg = omega arith; base = omega (arith, h.area); right_leg = omega arith })

-- it holds the first end of its base
pub v0-held : (c : Corners) (d : ℕ) → HasArea c d → is_in_closed c c.v0 ≡ true
v0-held c d h = made c c.v0 (record { left_leg = omega arith; base = omega arith; right_leg = omega (arith, h.area) })

-- it holds the second end of its base
pub v1-held : (c : Corners) (d : ℕ) → HasArea c d → is_in_closed c c.v1 ≡ true
v1-held c d h = made c c.v1 (record { left_leg = omega (arith, h.area); base = omega arith; right_leg = omega arith })

-- a held point is the mean of the corners
pub mean-held : (c : Corners) (r : Point) (d : ℕ) → HasArea c d → is_in_closed c r ≡ true →
    (u : ℕ) × (v : ℕ) × (w : ℕ) × IsMean d c r u v w
mean-held c r d h held =
    let lines : IsHeld c r = read c r held in
    let u = left-by r c.v0 c.v1 lines.base in
    let v = left-by r c.v1 c.apex lines.right_leg in
    let w = left-by r c.apex c.v0 lines.left_leg in
    (u.0, v.0, w.0, IsMean-across c r d u.0 v.0 w.0 h u.1 v.1 w.1)
  where
    left-by : (r p q : Point) → IsLeft r p q → (k : ℕ) × IsLeftBy k r p q
    left-by r p q le = ((p.x * q.y + q.x * r.y + r.x * p.y) - (p.y * q.x + q.y * r.x + r.y * p.x), omega arith)

-- all weight at one corner
only : (u v w a p q r : ℕ) → u ≡ 1 → v ≡ 0 → w ≡ 0 → r ≡ u * a + v * p + w * q → r ≡ a
only u v w a p q r hu hv hw h = h ∙ rw (hu, hv, hw) (omega arith)

by-weights : (c : Corners) (r : Point) (u v w : ℕ) → IsMean 1 c r u v w → IsCorner c r
by-weights c r u v w h = ⊎_elim {C = IsCorner c r}
    (λ u_some. inl (same_point r.x r.y c.apex.x c.apex.y
    (only u v w c.apex.x c.v0.x c.v1.x r.x (omega arith) (omega arith) (omega arith) (omega arith))
    (only u v w c.apex.y c.v0.y c.v1.y r.y (omega arith) (omega arith) (omega arith) (omega arith))))
    (λ u_none. ⊎_elim {C = IsCorner c r}
    (λ v_some. inr (inl (same_point r.x r.y c.v0.x c.v0.y
    (only v u w c.v0.x c.apex.x c.v1.x r.x (omega arith) (omega arith) (omega arith) (omega arith))
    (only v u w c.v0.y c.apex.y c.v1.y r.y (omega arith) (omega arith) (omega arith) (omega arith)))))
    (λ v_none. inr (inr (same_point r.x r.y c.v1.x c.v1.y
    (only w u v c.v1.x c.apex.x c.v0.x r.x (omega arith) (omega arith) (omega arith) (omega arith))
    (only w u v c.v1.y c.apex.y c.v0.y r.y (omega arith) (omega arith) (omega arith) (omega arith)))))
    (cases_lt 0 v))
    (cases_lt 0 u)

-- a triangle of doubled area 1 holds no points but its corners
pub finest-corner : (c : Corners) (r : Point) → HasArea c 1 → is_in_closed c r ≡ true → IsCorner c r
finest-corner c r h held = let m = mean-held c r 1 h held in by-weights c r m.0 m.1 m.2 m.3
