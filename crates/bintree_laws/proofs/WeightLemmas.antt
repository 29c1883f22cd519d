-- The doubled area of a triangle, which each level halves, and a point of a triangle as the mean of the corners,
-- by weights.
use Rattle.std.proofs.Common.{◌≡◌, ℕ, zero, suc, ◌+◌, ◌-◌, ◌*◌, ◌^◌, ◌/◌, ◌%◌, ◌<◌, ◌≤◌, sym, ◌∙◌, ap, arith}
use Rattle.std.proofs.Common.{mul-le-mul_left}
use Rattle.std.proofs.Math.Nat.{pow-succ', le_of_mul-le-mul_left}
use Rattle.std.proofs.lemmas.Nat.{pow-add}
use Rattle.mesh_defs.specs.declared.point.Point.{Point}
use Rattle.mesh_defs.specs.declared.point.Corners.{Corners}
use Rattle.mesh_defs.specs.Triangle.{level_of, base_triangle, child, corners_at, corners_of}
use Rattle.mesh_defs.specs.BoundingBox.{least_of_3, greatest_of_3}
use Rattle.bintree_laws.specs.Areas.{IsInRectangle}
use Rattle.bintree_laws.specs.Corners.{HasEvenBase}
use Rattle.bintree_laws.proofs.LatticeLemmas.{HasEvenBase-corners_at}

-- ---- doubled areas

-- the doubled area is d, by the products of the corners' coordinates
pub record HasArea (c : Corners) (d : ℕ) : Type 0 where
  pub area : c.apex.x * c.v0.y + c.v0.x * c.v1.y + c.v1.x * c.apex.y
      ≡ c.apex.y * c.v0.x + c.v0.y * c.v1.x + c.v1.y * c.apex.x + d

area-left : (ax ay px py qx qy mx my d : ℕ) → 2 * mx ≡ px + qx → 2 * my ≡ py + qy →
    ax * py + px * qy + qx * ay ≡ ay * px + py * qx + qy * ax + 2 * d →
    mx * ay + ax * py + px * my ≡ my * ax + ay * px + py * mx + d
area-left ax ay px py qx qy mx my d hx hy h = omega (
  arith,
  ap (λ t. t * ay) hx,
  ap (λ t. t * py) hx,
  ap (λ t. t * ax) hy,
  ap (λ t. t * px) hy,
)

-- the right child is the left one with the axes exchanged, and the ends of the base
HasArea-child : (side : ℕ) (c : Corners) (d : ℕ) → HasEvenBase c → HasArea c (2 * d) → HasArea (child side c) d
HasArea-child zero c d even h = record {
  area = area-left c.apex.x c.apex.y c.v0.x c.v0.y c.v1.x c.v1.y ((c.v0.x + c.v1.x) / 2) ((c.v0.y + c.v1.y) / 2) d
      (omega (arith, even.x)) (omega (arith, even.y)) h.area;
}
HasArea-child (suc _) c d even h = record {
  area = omega (
    arith,
    area-left c.apex.y c.apex.x c.v1.y c.v1.x c.v0.y c.v0.x ((c.v0.y + c.v1.y) / 2) ((c.v0.x + c.v1.x) / 2) d
        (omega (arith, even.y)) (omega (arith, even.x)) (omega (arith, h.area)),
  );
}

HasArea-base : (m half : ℕ) → HasArea (base_triangle m half) (m * m)
HasArea-base m zero = record { area = omega arith }
HasArea-base m (suc _) = record { area = omega arith }

-- each level halves the area
HasArea-corners_at : (level n a : ℕ) → level ≤ 2 * n → HasArea (corners_at level (2 ^ n) a) (2 ^ (2 * n - level))
HasArea-corners_at zero n a fits =
    let twice : 2 * n - 0 ≡ n + n = omega arith in
    rw (twice, pow-add 2 n n) (HasArea-base (2 ^ n) (a % 2))
HasArea-corners_at (suc level) n a fits =
    let left : 2 * n - level ≡ suc (2 * n - suc level) = omega arith in
    let twice : 2 ^ (2 * n - level) ≡ 2 * 2 ^ (2 * n - suc level) = rw left (pow-succ' 2 (2 * n - suc level)) in
    HasArea-child (a % 2) (corners_at level (2 ^ n) (a / 2)) (2 ^ (2 * n - suc level))
    (HasEvenBase-corners_at level n (a / 2) fits) (rw (← twice) (HasArea-corners_at level n (a / 2) (omega arith)))

-- so the area of a triangle is a power of 2
pub HasArea-corners_of : (n a : ℕ) → level_of a ≤ 2 * n → HasArea (corners_of n a) (2 ^ (2 * n - level_of a))
unfolding corners_of
HasArea-corners_of n a fits = HasArea-corners_at (level_of a) n a fits

-- ---- weights

-- r is the mean of the corners by the weights u, v and w of the apex, v0 and v1
pub record IsMean (total : ℕ) (c : Corners) (r : Point) (u v w : ℕ) : Type 0 where
  pub sum : u + v + w ≡ total
  pub x : total * r.x ≡ u * c.apex.x + v * c.v0.x + w * c.v1.x
  pub y : total * r.y ≡ u * c.apex.y + v * c.v0.y + w * c.v1.y

-- the doubled area of r, p and q is d: r lies left of the line from p to q by so much, or on it
abbrev pub IsLeftBy : ℕ → Point → Point → Point → Type 0
IsLeftBy d r p q = p.y * q.x + q.y * r.x + r.y * p.x + d ≡ p.x * q.y + q.x * r.y + r.x * p.y

-- in one coordinate
weighted : (ax ay px py qx qy rx ry u v w d : ℕ) →
    ax * py + px * qy + qx * ay ≡ ay * px + py * qx + qy * ax + d →
    py * qx + qy * rx + ry * px + u ≡ px * qy + qx * ry + rx * py →
    qy * ax + ay * rx + ry * qx + v ≡ qx * ay + ax * ry + rx * qy →
    ay * px + py * rx + ry * ax + w ≡ ax * py + px * ry + rx * ay → d * rx ≡ u * ax + v * px + w * qx
weighted ax ay px py qx qy rx ry u v w d area hu hv hw = omega (
  arith,
  ap (λ t. t * rx) area,
  ap (λ t. t * ax) hu,
  ap (λ t. t * px) hv,
  ap (λ t. t * qx) hw,
)

-- a point is the mean of the corners by the doubled areas across from them
pub IsMean-across : (c : Corners) (r : Point) (d u v w : ℕ) → HasArea c d → IsLeftBy u r c.v0 c.v1 →
    IsLeftBy v r c.v1 c.apex →
    IsLeftBy w r c.apex c.v0 → IsMean d c r u v w
IsMean-across c r d u v w h hu hv hw = record {
  sum = omega (arith, h.area);
  x = weighted c.apex.x c.apex.y c.v0.x c.v0.y c.v1.x c.v1.y r.x r.y u v w d h.area hu hv hw;
  y = omega (
    arith,
    weighted c.apex.y c.apex.x c.v1.y c.v1.x c.v0.y c.v0.x r.y r.x u w v d (omega (arith, h.area))
        (omega (arith, hu)) (omega (arith, hw)) (omega (arith, hv)),
  );
}

-- a mean lies between the least and the greatest
mean-between : (total u v w a p q r : ℕ) → 0 < total → u + v + w ≡ total → total * r ≡ u * a + v * p + w * q →
    (least_of_3 a p q ≤ r) × (r ≤ greatest_of_3 a p q)
mean-between total u v w a p q r some sum e =
    let low : ℕ = least_of_3 a p q in
    let high : ℕ = greatest_of_3 a p q in
    let low_a : u * low ≤ u * a = mul-le-mul_left u (omega arith) in
    let low_p : v * low ≤ v * p = mul-le-mul_left v (omega arith) in
    let low_q : w * low ≤ w * q = mul-le-mul_left w (omega arith) in
    let high_a : u * a ≤ u * high = mul-le-mul_left u (omega arith) in
    let high_p : v * p ≤ v * high = mul-le-mul_left v (omega arith) in
    let high_q : w * q ≤ w * high = mul-le-mul_left w (omega arith) in
    let all_low : total * low ≡ u * low + v * low + w * low = ap (λ k. k * low) (sym sum) ∙ omega arith in
    let all_high : total * high ≡ u * high + v * high + w * high = ap (λ k. k * high) (sym sum) ∙ omega arith in (
      le_of_mul-le-mul_left {m = low} {n = r} {k = total} (omega arith) some,
      le_of_mul-le-mul_left {m = r} {n = high} {k = total} (omega arith) some,
    )

-- so a mean of the corners lies in their bounding rectangle
pub IsInRectangle-mean : (total : ℕ) (c : Corners) (r : Point) (u v w : ℕ) → 0 < total →
    IsMean total c r u v w → IsInRectangle c r
IsInRectangle-mean total c r u v w some h =
    let x = mean-between total u v w c.apex.x c.v0.x c.v1.x r.x some h.sum h.x in
    let y = mean-between total u v w c.apex.y c.v0.y c.v1.y r.y some h.sum h.y in
    record { left = x.0; right = x.1; bottom = y.0; top = y.1 }
