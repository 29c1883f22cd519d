-- The bound by going down the tree. A point with weights at the corners of a triangle has weights of the same
-- total at the corners of a child: the lesser weight of the base's ends, twice, goes to the midpoint. The mean
-- of the corners' heights changes by at most half the total times the deviation at the midpoint. At the finest
-- level all weight is at one corner, and the point is that corner.
use Rattle.std.proofs.Common.{◌≡◌, ℕ, zero, suc, ◌+◌, ◌-◌, ◌*◌, ◌/◌, ◌<◌, ◌≤◌, ◌⊎◌, inl, inr, max, List, sym, ap, subst}
use Rattle.std.proofs.Common.{arith, ⊎_elim, mul-le-mul_left}
use Rattle.std.proofs.lemmas.Bool.{cases_lt}
use Rattle.mesh_defs.specs.declared.point.Point.{Point}
use Rattle.mesh_defs.specs.declared.point.Corners.{Corners}
use Rattle.mesh_defs.specs.Triangle.{corners_of, child, midpoint}
use Rattle.mesh_defs.specs.Thickness.{height_of, apart, deviation, thickness_under}
use Rattle.bintree_laws.specs.Corners.{HasEvenBase}
use Rattle.bintree_laws.proofs.LatticeLemmas.{HasEvenBase-corners_of, same_point}
use Rattle.bintree_laws.proofs.CornerLemmas.{corners_of-left, corners_of-right}
use Rattle.bintree_laws.proofs.WeightLemmas.{IsMean}
use Rattle.mesh_laws.proofs.WayLemmas.{Way, east, north, west, south}
use Rattle.mesh_laws.proofs.TurnLemmas.{IsTurned, IsAxis}
use Rattle.mesh_laws.proofs.DescentLemmas.{IsDown, IsDown-left, IsDown-right, IsSplittable-down, finest_of}

-- the mean of the heights at the corners, times the total of the weights
abbrev pub mean : (Point → ℕ) → Corners → ℕ → ℕ → ℕ → ℕ
mean f c u v w = u * f c.apex + v * f c.v0 + w * f c.v1

-- ---- from a triangle to a child

-- in one coordinate: the lesser weight w of the ends p and q goes twice to their midpoint m
to_child : (t u v w d a p q m : ℕ) → v ≡ w + d → p + q ≡ 2 * m → t ≡ u * a + v * p + w * q →
    t ≡ 2 * w * m + u * a + d * p
to_child t u v w d a p q m e f h = omega (arith, ap (λ z. z * p) e, ap (λ z. w * z) f)

-- where v0 has the greater weight the point is a mean of the left child's corners
pub IsMean-left : (total : ℕ) (c : Corners) (r : Point) (u v w d : ℕ) → HasEvenBase c → v ≡ w + d → IsMean total c r u v w →
    IsMean total (child 0 c) r (2 * w) u d
IsMean-left total c r u v w d even e h = record {
  sum = omega (arith, h.sum);
  x = to_child (total * r.x) u v w d c.apex.x c.v0.x c.v1.x ((c.v0.x + c.v1.x) / 2) e (omega (arith, even.x)) h.x;
  y = to_child (total * r.y) u v w d c.apex.y c.v0.y c.v1.y ((c.v0.y + c.v1.y) / 2) e (omega (arith, even.y)) h.y;
}

-- and else of the right child's
pub IsMean-right : (total : ℕ) (c : Corners) (r : Point) (u v w d : ℕ) → HasEvenBase c → w ≡ v + d →
    IsMean total c r u v w →
    IsMean total (child 1 c) r (2 * v) d u
IsMean-right total c r u v w d even e h = record {
  sum = omega (arith, h.sum);
  x = let f : total * r.x ≡ 2 * v * ((c.v0.x + c.v1.x) / 2) + u * c.apex.x + d * c.v1.x =
      to_child (total * r.x) u w v d c.apex.x c.v1.x c.v0.x ((c.v0.x + c.v1.x) / 2) e
      (omega (arith, even.x)) (omega (arith, h.x)) in
      omega arith;
  y = let f : total * r.y ≡ 2 * v * ((c.v0.y + c.v1.y) / 2) + u * c.apex.y + d * c.v1.y =
      to_child (total * r.y) u w v d c.apex.y c.v1.y c.v0.y ((c.v0.y + c.v1.y) / 2) e
      (omega (arith, even.y)) (omega (arith, h.y)) in
      omega arith;
}

-- ---- one step of the bound

-- two means that differ by w times d
abbrev DifferBy : ℕ → ℕ → ℕ → ℕ → Type 0
DifferBy w d i j = (i ≡ j + w * d) ⊎ (j ≡ i + w * d)

-- the mean at the child's corners differs from that at the triangle's by w times the deviation
differ : (w i j k rest : ℕ) → DifferBy w (apart (2 * i) (j + k)) (2 * w * i + rest) (w * j + w * k + rest)
differ w i j k rest = ⊎_elim
    (λ less.
    let e : 2 * i + apart (2 * i) (j + k) ≡ j + k = omega arith in
    inr (omega (arith, ap (λ t. w * t) e)))
    (λ least.
    let e : j + k + apart (2 * i) (j + k) ≡ 2 * i = omega arith in
    inl (omega (arith, ap (λ t. w * t) e)))
    (cases_lt (2 * i) (j + k))

-- as means of the corners' heights
differ-left : (f : Point → ℕ) (c : Corners) (u v w d : ℕ) → v ≡ w + d →
    DifferBy w (apart (2 * f (midpoint c.v0 c.v1)) (f c.v0 + f c.v1)) (mean f (child 0 c) (2 * w) u d) (mean f c u v w)
differ-left f c u v w d e =
    let z = differ w (f (midpoint c.v0 c.v1)) (f c.v0) (f c.v1) (u * f c.apex + d * f c.v0) in
    let g : v * f c.v0 ≡ w * f c.v0 + d * f c.v0 = omega (arith, ap (λ k. k * f c.v0) e) in
    ⊎_elim (λ h. inl (omega arith)) (λ h. inr (omega arith)) z

differ-right : (f : Point → ℕ) (c : Corners) (u v w d : ℕ) → w ≡ v + d →
    DifferBy v (apart (2 * f (midpoint c.v0 c.v1)) (f c.v0 + f c.v1)) (mean f (child 1 c) (2 * v) d u) (mean f c u v w)
differ-right f c u v w d e =
    let z = differ v (f (midpoint c.v0 c.v1)) (f c.v0) (f c.v1) (u * f c.apex + d * f c.v1) in
    let g : w * f c.v1 ≡ v * f c.v1 + d * f c.v1 = omega (arith, ap (λ k. k * f c.v1) e) in
    ⊎_elim (λ h. inl (omega arith)) (λ h. inr (omega arith)) z

-- so a bound by the child's thickness gives one by the triangle's
bound_step : (total w surface near far d thick other : ℕ) → 2 * w ≤ total → DifferBy w d near far → thick ≤ other →
    2 * apart surface near ≤ total * thick → 2 * apart surface far ≤ total * (other + d)
bound_step total w surface near far d thick other half differs thin bound =
    let more : total * thick ≤ total * other = mul-le-mul_left total thin in
    let own : d * (2 * w) ≤ d * total = mul-le-mul_left d half in
    let whole : 2 * (w * d) ≤ total * d = omega arith in
    let goal : 2 * apart surface far ≤ total * other + total * d =
    ⊎_elim (λ e. omega arith) (λ e. omega arith) differs in
    omega arith

-- ---- finest triangles

-- a mean of i and i + 1 is one of them, and has all weight there
one_end : (total v i j : ℕ) → 0 < total → v ≤ total → total * j ≡ total * i + v →
    ((j ≡ i) × (v ≡ 0)) ⊎ ((j ≡ i + 1) × (v ≡ total))
one_end total v i j some most e = ⊎_elim
    (λ less. let h : total * suc j ≤ total * i = mul-le-mul_left total less in absurd (omega arith))
    (λ least. ⊎_elim
    (λ more. let h : total * suc (i + 1) ≤ total * j = mul-le-mul_left total more in absurd (omega arith))
    (λ upto. ⊎_elim
    (λ (same : j < i + 1).
    let z : j ≡ i = omega arith in
    let f : total * j ≡ total * i = ap (λ t. total * t) z in
    inl (z, omega arith))
    (λ next.
    let z : j ≡ i + 1 = omega arith in
    let f : total * j ≡ total * (i + 1) = ap (λ t. total * t) z in
    inr (z, omega arith))
    (cases_lt j (i + 1)))
    (cases_lt (i + 1) j))
    (cases_lt j i)

-- r is a corner, with all weight there
abbrev pub IsOneCorner : Corners → Point → ℕ → ℕ → ℕ → Type 0
IsOneCorner c r u v w =
    ((r ≡ c.apex) × (v ≡ 0) × (w ≡ 0)) ⊎ (((r ≡ c.v0) × (u ≡ 0) × (w ≡ 0)) ⊎ ((r ≡ c.v1) × (u ≡ 0) × (v ≡ 0)))

-- where r is, by the weights of v0 and of v1, of which each is none or all
record IsPlacedBy (total : ℕ) (c : Corners) (r : Point) (v w : ℕ) : Type 0 where
  at_apex : v ≡ 0 → w ≡ 0 → (r.x ≡ c.apex.x) × (r.y ≡ c.apex.y)
  at_v0 : v ≡ total → w ≡ 0 → (r.x ≡ c.v0.x) × (r.y ≡ c.v0.y)
  at_v1 : v ≡ 0 → w ≡ total → (r.x ≡ c.v1.x) × (r.y ≡ c.v1.y)
  first : (v ≡ 0) ⊎ (v ≡ total)
  second : (w ≡ 0) ⊎ (w ≡ total)

-- then it is a corner
IsOneCorner-placed : (total : ℕ) (c : Corners) (r : Point) (u v w : ℕ) → 0 < total → u + v + w ≡ total →
    IsPlacedBy total c r v w → IsOneCorner c r u v w
IsOneCorner-placed total c r u v w some sum p = ⊎_elim
    (λ e. ⊎_elim
    (λ f. let h = p.at_apex e f in inl (same_point r.x r.y c.apex.x c.apex.y h.0 h.1, e, f))
    (λ f. let h = p.at_v1 e f in inr (inr (same_point r.x r.y c.v1.x c.v1.y h.0 h.1, omega arith, e)))
    p.second)
    (λ e. ⊎_elim
    (λ f. let h = p.at_v0 e f in inr (inl (same_point r.x r.y c.v0.x c.v0.y h.0 h.1, omega arith, f)))
    (λ f. absurd (omega arith))
    p.second)
    p.first

-- a coordinate in which one end of the base is a step above the other two corners, or below them
one_above : (total u v w a p q r : ℕ) → 0 < total → u + v + w ≡ total → p ≡ a + 1 → q ≡ a →
    total * r ≡ u * a + v * p + w * q → ((r ≡ a) × (v ≡ 0)) ⊎ ((r ≡ a + 1) × (v ≡ total))
one_above total u v w a p q r some sum e f h =
    one_end total v a r some (omega arith) (omega (arith, ap (λ z. v * z) e, ap (λ z. w * z) f, ap (λ z. z * a) sum))

one_below : (total u v w a p q r : ℕ) → 0 < total → u + v + w ≡ total → a ≡ p + 1 → q ≡ a →
    total * r ≡ u * a + v * p + w * q → ((a ≡ r) × (v ≡ 0)) ⊎ ((a ≡ r + 1) × (v ≡ total))
one_below total u v w a p q r some sum e f h =
    one_end total v r a some (omega arith) (omega (arith, ap (λ z. v * z) e, ap (λ z. w * z) f, ap (λ z. z * a) sum))

-- the weights of a point of a finest triangle
IsPlacedBy-finest : (way : Way) (total : ℕ) (c : Corners) (r : Point) (u v w : ℕ) → IsAxis way →
    IsTurned way 1 c → 0 < total →
    IsMean total c r u v w → IsPlacedBy total c r v w
IsPlacedBy-finest east total c r u v w a t some h =
    let x = one_above total u v w c.apex.x c.v0.x c.v1.x r.x some h.sum t.0.0 t.1.0 h.x in
    let y =
    one_above total u w v c.apex.y c.v1.y c.v0.y r.y some (omega (arith, h.sum)) t.1.1 t.0.1 (omega (arith, h.y)) in
    grind arith
IsPlacedBy-finest north total c r u v w a t some h =
    let x =
    one_below total u w v c.apex.x c.v1.x c.v0.x r.x some (omega (arith, h.sum)) t.1.0 t.0.0 (omega (arith, h.x)) in
    let y = one_above total u v w c.apex.y c.v0.y c.v1.y r.y some h.sum t.0.1 t.1.1 h.y in
    grind arith
IsPlacedBy-finest west total c r u v w a t some h =
    let x = one_below total u v w c.apex.x c.v0.x c.v1.x r.x some h.sum t.0.0 t.1.0 h.x in
    let y =
    one_below total u w v c.apex.y c.v1.y c.v0.y r.y some (omega (arith, h.sum)) t.1.1 t.0.1 (omega (arith, h.y)) in
    grind arith
IsPlacedBy-finest south total c r u v w a t some h =
    let x =
    one_above total u w v c.apex.x c.v1.x c.v0.x r.x some (omega (arith, h.sum)) t.1.0 t.0.0 (omega (arith, h.x)) in
    let y = one_below total u v w c.apex.y c.v0.y c.v1.y r.y some h.sum t.0.1 t.1.1 h.y in
    grind arith
IsPlacedBy-finest _ total c r u v w a t some h = absurd a

-- so a point of a finest triangle is a corner, with all weight there
pub finest-corner : (n a total : ℕ) (r : Point) (u v w : ℕ) → 0 < total → IsDown n zero a →
    IsMean total (corners_of n a) r u v w → IsOneCorner (corners_of n a) r u v w
finest-corner n a total r u v w some d h =
    let f = finest_of n a d in
    IsOneCorner-placed total (corners_of n a) r u v w some h.sum
    (IsPlacedBy-finest f.0 total (corners_of n a) r u v w f.1 f.2 some h)

-- with all weight at one corner the mean is that corner's height
mean-corner : (f : Point → ℕ) (total : ℕ) (c : Corners) (r : Point) (u v w : ℕ) →
    u + v + w ≡ total → IsOneCorner c r u v w →
    total * f r ≡ mean f c u v w
mean-corner f total c r u v w sum (inl (e, v0, w0)) = rw (← sum, e, v0, w0) (omega arith)
mean-corner f total c r u v w sum (inr (inl (e, u0, w0))) = rw (← sum, e, u0, w0) (omega arith)
mean-corner f total c r u v w sum (inr (inr (e, u0, v0))) = rw (← sum, e, u0, v0) (omega arith)

-- ---- down the tree

-- at a point of the triangle twice the difference from the mean is at most the thickness, times the total
pub mean-le : (n : ℕ) (heights : List ℕ) (levels a total : ℕ) (r : Point) (u v w : ℕ) → 0 < total → IsDown n levels a →
    IsMean total (corners_of n a) r u v w →
    2 * apart (total * height_of n heights r) (mean (height_of n heights) (corners_of n a) u v w)
    ≤ total * thickness_under levels n heights a
mean-le n heights zero a total r u v w some d h =
    let same : total * height_of n heights r ≡ mean (height_of n heights) (corners_of n a) u v w =
    mean-corner (height_of n heights) total (corners_of n a) r u v w h.sum
    (finest-corner n a total r u v w some d h) in
    omega arith
mean-le n heights (suc levels) a total r u v w some d h =
    let c : Corners = corners_of n a in
    let even : HasEvenBase c = HasEvenBase-corners_of n a (IsSplittable-down n levels a d).coarse in
    let sum : u + v + w ≡ total = h.sum in
    let f : Point → ℕ = height_of n heights in
    let left : ℕ = thickness_under levels n heights (2 * a) in
    let right : ℕ = thickness_under levels n heights (2 * a + 1) in
    ⊎_elim
    (λ less.
    let e : w ≡ v + (w - v) = omega arith in
    bound_step total v (total * f r) (mean f (child 1 c) (2 * v) (w - v) u) (mean f c u v w) (deviation n heights c)
    right (max left right) (omega arith) (differ-right f c u v w (w - v) e) (omega arith)
    (subst (λ z. 2 * apart (total * f r) (mean f z (2 * v) (w - v) u) ≤ total * right) (corners_of-right n a d.low)
    (mean-le n heights levels (2 * a + 1) total r (2 * v) (w - v) u some (IsDown-right n levels a d)
    (subst (λ z. IsMean total z r (2 * v) (w - v) u) (sym (corners_of-right n a d.low))
    (IsMean-right total c r u v w (w - v) even e h)))))
    (λ least.
    let e : v ≡ w + (v - w) = omega arith in
    bound_step total w (total * f r) (mean f (child 0 c) (2 * w) u (v - w)) (mean f c u v w) (deviation n heights c)
    left (max left right) (omega arith) (differ-left f c u v w (v - w) e) (omega arith)
    (subst (λ z. 2 * apart (total * f r) (mean f z (2 * w) u (v - w)) ≤ total * left) (corners_of-left n a d.low)
    (mean-le n heights levels (2 * a) total r (2 * w) u (v - w) some (IsDown-left n levels a d)
    (subst (λ z. IsMean total z r (2 * w) u (v - w)) (sym (corners_of-left n a d.low))
    (IsMean-left total c r u v w (v - w) even e h)))))
    (cases_lt v w)
