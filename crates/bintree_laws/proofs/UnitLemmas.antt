-- Every triangle of a level as half of a unit square. At even levels the unit squares are those of the
-- lattice; at odd levels they are turned by an eighth of a turn, so that one argument serves both.
use Rattle.std.proofs.Common.{◌≡◌, ◌⊎◌, ℕ, zero, suc, ◌+◌, ◌*◌, ◌/◌, ◌%◌, ◌≤◌, arith}
use Rattle.mesh_defs.specs.declared.point.Point.{Point}
use Rattle.mesh_defs.specs.declared.point.Corners.{Corners}
use Rattle.mesh_defs.specs.Triangle.{base_triangle}
use Rattle.bintree_laws.proofs.LatticeLemmas.{at, three, grandchild}

-- the four triangles of level 1
abbrev pub quarter : ℕ → Corners
quarter zero = three (at 1 1) (at 0 1) (at 1 2)
quarter (suc zero) = three (at 1 1) (at 1 0) (at 0 1)
quarter (suc (suc zero)) = three (at 1 1) (at 2 1) (at 1 0)
quarter (suc (suc (suc _))) = three (at 1 1) (at 1 2) (at 2 1)

-- the corners of the triangle with this level and address, in the frame of its level
abbrev pub frame : ℕ → ℕ → Corners
frame zero a = base_triangle 1 (a % 2)
frame (suc zero) a = quarter (a % 4)
frame (suc (suc level)) a = grandchild (a % 4) (frame level (a / 4))

-- ---- halves of unit squares

-- on one axis, the apex and the base's ends lie at i or i + 1, and the ends apart
pub record IsApart (i apex v0 v1 : ℕ) : Type 0 where
  pub apex_low : i ≤ apex
  pub apex_high : apex ≤ i + 1
  pub v0_low : i ≤ v0
  pub v0_high : v0 ≤ i + 1
  pub sum : v0 + v1 ≡ 2 * i + 1

-- half of the unit square at (i, j): the base is a diagonal, and the apex another corner
pub record IsHalf (i j : ℕ) (c : Corners) : Type 0 where
  pub x : IsApart i c.apex.x c.v0.x c.v1.x
  pub y : IsApart j c.apex.y c.v0.y c.v1.y
  pub right : ((c.apex.x ≡ c.v0.x) × (c.apex.y ≡ c.v1.y)) ⊎ ((c.apex.x ≡ c.v1.x) × (c.apex.y ≡ c.v0.y))

-- c is half of some unit square
abbrev pub IsSomeHalf : Corners → Type 0
IsSomeHalf c = (i : ℕ) × (j : ℕ) × IsHalf i j c

-- a grandchild of a half is a half, of a square of half the side
IsHalf-grandchild : (which i j : ℕ) (c : Corners) → IsHalf i j c → IsSomeHalf (grandchild which c)
IsHalf-grandchild zero i j c h = (i + c.apex.x, j + c.apex.y, grind arith)
IsHalf-grandchild (suc zero) i j c h = (i + c.v0.x, j + c.v0.y, grind arith)
IsHalf-grandchild (suc (suc zero)) i j c h = (i + c.v1.x, j + c.v1.y, grind arith)
IsHalf-grandchild (suc (suc (suc _))) i j c h = (i + c.apex.x, j + c.apex.y, grind arith)

IsHalf-base : (half : ℕ) → IsSomeHalf (base_triangle 1 half)
IsHalf-base zero = (0, 0, grind arith)
IsHalf-base (suc _) = (0, 0, grind arith)

IsHalf-quarter : (which : ℕ) → IsSomeHalf (quarter which)
IsHalf-quarter zero = (0, 1, grind arith)
IsHalf-quarter (suc zero) = (0, 0, grind arith)
IsHalf-quarter (suc (suc zero)) = (1, 0, grind arith)
IsHalf-quarter (suc (suc (suc _))) = (1, 1, grind arith)

-- every triangle is half of a unit square of its frame
pub IsHalf-frame : (level a : ℕ) → IsSomeHalf (frame level a)
IsHalf-frame zero a = IsHalf-base (a % 2)
IsHalf-frame (suc zero) a = IsHalf-quarter (a % 4)
IsHalf-frame (suc (suc level)) a =
    let above : IsSomeHalf (frame level (a / 4)) = IsHalf-frame level (a / 4) in
    IsHalf-grandchild (a % 4) above.0 above.1 (frame level (a / 4)) above.2

-- ---- triangles with one base

-- the ends of the two bases add up to the same
pub record SameSum (c d : Corners) : Type 0 where
  pub x : c.v0.x + c.v1.x ≡ d.v0.x + d.v1.x
  pub y : c.v0.y + c.v1.y ≡ d.v0.y + d.v1.y

-- the two are the halves of one square, or of one diamond
pub record AreHalves (c d : Corners) : Type 0 where
  pub v0_x : d.v0.x ≡ c.v1.x
  pub v0_y : d.v0.y ≡ c.v1.y
  pub v1_x : d.v1.x ≡ c.v0.x
  pub v1_y : d.v1.y ≡ c.v0.y
  pub apex_x : c.apex.x + d.apex.x ≡ c.v0.x + c.v1.x
  pub apex_y : c.apex.y + d.apex.y ≡ c.v0.y + c.v1.y

-- the corner of a triangle about which a grandchild lies: its base goes from there to the middle
abbrev pub pivot : ℕ → Corners → Point
pivot zero c = c.apex
pivot (suc zero) c = c.v0
pivot (suc (suc zero)) c = c.v1
pivot (suc (suc (suc _))) c = c.apex

pivot_sum : (which : ℕ) (c : Corners) → ((grandchild which c).v0.x + (grandchild which c).v1.x ≡ 2 *
    (pivot which c).x + (c.v0.x + c.v1.x)) × ((grandchild which c).v0.y + (grandchild which c).v1.y ≡ 2 *
    (pivot which c).y + (c.v0.y + c.v1.y))
pivot_sum zero c = (omega arith, omega arith)
pivot_sum (suc zero) c = (omega arith, omega arith)
pivot_sum (suc (suc zero)) c = (omega arith, omega arith)
pivot_sum (suc (suc (suc _))) c = (omega arith, omega arith)

pivot_within : (which i j : ℕ) (c : Corners) → IsHalf i j c → (i ≤ (pivot which c).x) × ((pivot which c).x ≤ i + 1) ×
    (j ≤ (pivot which c).y) × ((pivot which c).y ≤ j + 1)
pivot_within zero i j c h = (h.x.apex_low, h.x.apex_high, h.y.apex_low, h.y.apex_high)
pivot_within (suc zero) i j c h = (h.x.v0_low, h.x.v0_high, h.y.v0_low, h.y.v0_high)
pivot_within (suc (suc zero)) i j c h =
    let x = h.x.sum in let y = h.y.sum in let a = h.x.v0_low in let b = h.x.v0_high in let d = h.y.v0_low in
    let e = h.y.v0_high in (omega arith, omega arith, omega arith, omega arith)
pivot_within (suc (suc (suc _))) i j c h = (h.x.apex_low, h.x.apex_high, h.y.apex_low, h.y.apex_high)

one_axis : (i j p q s t : ℕ) → i ≤ p → p ≤ i + 1 → j ≤ q → q ≤ j + 1 → s ≡ 2 * i + 1 → t ≡ 2 * j + 1 →
    2 * p + s ≡ 2 * q + t → (s ≡ t) × (p ≡ q)
one_axis i j p q s t a b c d e f g = (omega arith, omega arith)

-- two grandchildren with one base sum have grandparents with one base sum, and one pivot
pub record SamePivot (which other : ℕ) (c d : Corners) : Type 0 where
  pub above : SameSum c d
  pub x : (pivot which c).x ≡ (pivot other d).x
  pub y : (pivot which c).y ≡ (pivot other d).y

-- of two grandchildren with one sum of base ends the grandparents have one too, and the pivots are one point
pub SamePivot-above : (which other : ℕ) (c d : Corners) → IsSomeHalf c → IsSomeHalf d → SameSum (grandchild which c)
    (grandchild other d) → SamePivot which other c d
SamePivot-above which other c d h k same =
    let p = pivot_within which h.0 h.1 c h.2 in
    let q = pivot_within other k.0 k.1 d k.2 in
    let s = pivot_sum which c in
    let t = pivot_sum other d in
    let x : ((c.v0.x + c.v1.x) ≡ (d.v0.x + d.v1.x)) × ((pivot which c).x ≡ (pivot other d).x) = one_axis h.0 k.0
    (pivot which c).x (pivot other d).x (c.v0.x + c.v1.x) (d.v0.x + d.v1.x) p.0 p.1 q.0 q.1 h.2.x.sum k.2.x.sum
    (let e = same.x in omega arith) in
    let y : ((c.v0.y + c.v1.y) ≡ (d.v0.y + d.v1.y)) × ((pivot which c).y ≡ (pivot other d).y) = one_axis h.1 k.1
    (pivot which c).y (pivot other d).y (c.v0.y + c.v1.y) (d.v0.y + d.v1.y) p.2 p.3 q.2 q.3 h.2.y.sum k.2.y.sum
    (let e = same.y in omega arith) in
    record { above = record { x = x.0; y = y.0 }; x = x.1; y = y.1 }
