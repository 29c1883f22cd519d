-- Plane heights are exact, and the areas across from its corners make a held point the mean of the corners.
use Rattle.std.proofs.Common.{◌≡◌, ℕ, ◌+◌, ◌-◌, ◌*◌, ◌/◌, ◌^◌, ◌<◌, ◌≤◌, true, ◌&&◌, List, refl, sym, ◌∙◌, ap, arith}
use Rattle.std.proofs.Common.{inl, inr, All, map, length, get_or, ⊎_elim, mul-le-mul_left, pow_pos, pow-add}
use Rattle.std.specs.List.{filter}
use Rattle.std.proofs.Math.Nat.{mul-sub, le_of_mul-le-mul_left}
use Rattle.std.proofs.lemmas.Bool.{and_parts, cases_lt, leb-true}
use Rattle.std.proofs.lemmas.List.{get_or_past}
use Rattle.std.proofs.lemmas.Nat.{div-mul-add}
use Rattle.mesh_defs.specs.declared.point.Point.{Point}
use Rattle.mesh_defs.specs.declared.point.Corners.{Corners}
use Rattle.mesh_defs.specs.HeightField.{place_of}
use Rattle.mesh_defs.specs.Triangle.{level_of, IsAddress, corners_of, IsCorner}
use Rattle.mesh_defs.specs.Thickness.{height_of, apart, thickness_under, thickness_of}
use Rattle.mesh_defs.specs.BoundingBox.{point, points_of, is_left_or_on, is_in_closed, holds_point, greatest}
use Rattle.mesh_defs.proofs.PointLemmas.{IsPointIn-points_of, le-greatest}
use Rattle.bintree_laws.specs.Areas.{IsInRectangle}
use Rattle.bintree_laws.specs.Corners.{IsWithin}
use Rattle.bintree_laws.proofs.CornerLemmas.{IsWithin-corners_of}
use Rattle.bintree_laws.proofs.LevelLemmas.{level-le}
use Rattle.bintree_laws.proofs.LatticeLemmas.{multiple, scaled, lattice, halved, halved-half, step_of, step_of-power}
use Rattle.bintree_laws.proofs.LatticeLemmas.{corners_of-lattice}
use Rattle.bintree_laws.proofs.MateLemmas.{cancel}
use Rattle.mesh_laws.proofs.DescentLemmas.{IsDown-address}
use Rattle.fit_laws.specs.PlaneHeight.{doubled_area, area_of, weighted, plane_height, off_plane}
use Rattle.bintree_laws.proofs.WeightLemmas.{HasArea, HasArea-corners_of, IsLeftBy, IsMean, IsMean-across}
use Rattle.bintree_laws.proofs.WeightLemmas.{IsInRectangle-mean}
use Rattle.fit_laws.proofs.DescentLemmas.{mean-le}

-- ---- areas

-- twice the area is a power of 2
area_of-power : (n a : ℕ) → IsAddress n a → area_of (corners_of n a) ≡ 2 ^ (2 * n - level_of a)
area_of-power n a address =
    let h = HasArea-corners_of n a (level-le n a address) in omega (arith, h.area)

-- and so it is positive
pub area_of-some : (n a : ℕ) → IsAddress n a → 0 < area_of (corners_of n a)
area_of-some n a address =
    let e = area_of-power n a address in
    let p : 0 < 2 ^ (2 * n - level_of a) = pow_pos (2 * n - level_of a) in
    omega arith

-- ---- exact quotients

-- an area between two points of the lattice is a multiple of its step
doubled_area-multiple : (s : ℕ) (r p q : Point) → (k : ℕ) × (doubled_area r (multiple s p) (multiple s q) ≡ s * k)
doubled_area-multiple s r p q =
    let high : ℕ = s * p.x * q.y + q.x * r.y + r.x * p.y in
    let low : ℕ = s * p.y * q.x + q.y * r.x + r.y * p.x in
    let e : s * (high - low) ≡ s * high - s * low = mul-sub s high low in
    (high - low, omega arith)

-- so the sum of weighted heights is one, too
weighted-multiple : (s : ℕ) (c : Corners) (f : Point → ℕ) (r : Point) → (k : ℕ) × (weighted (scaled s c) f r ≡ s * k)
weighted-multiple s c f r =
    let u = doubled_area-multiple s r c.v0 c.v1 in
    let v = doubled_area-multiple s r c.v1 c.apex in
    let w = doubled_area-multiple s r c.apex c.v0 in
    let fu : ℕ = f (multiple s c.apex) in let fv : ℕ = f (multiple s c.v0) in let fw : ℕ = f (multiple s c.v1) in (
      u.0 * fu + v.0 * fv + w.0 * fw,
      omega (arith, ap (λ z. z * fu) u.1, ap (λ z. z * fv) v.1, ap (λ z. z * fw) w.1),
    )

-- where an area s * t divides m * (s * k), since t divides m
exact_quotient : (area m weight s t q k : ℕ) → 0 < area → area ≡ s * t → m ≡ t * q → weight ≡ s * k →
    area * (m * weight / area) ≡ m * weight
exact_quotient area m weight s t q k some e f g =
    let whole : m * weight ≡ q * k * area + 0 = rw (e, f, g) (omega arith) in
    let quotient : m * weight / area ≡ q * k = rw whole (div-mul-add (q * k) area 0 some) in
    rw quotient (omega arith)

-- the quotient of a plane height is exact
pub plane_height-exact : (n : ℕ) (heights : List ℕ) (a : ℕ) (r : Point) → IsAddress n a →
    area_of (corners_of n a) * plane_height n heights a r ≡ 2 ^ n * weighted (corners_of n a) (height_of n heights) r
unfolding plane_height
plane_height-exact n heights a r address =
    let fits : level_of a ≤ 2 * n = level-le n a address in
    let half : halved (level_of a) ≡ (level_of a + 1) / 2 = halved-half (level_of a) in
    let step : step_of n (level_of a) ≡ 2 ^ (n - halved (level_of a)) =
    step_of-power n (level_of a) (n - halved (level_of a)) refl in
    let t : ℕ = n + halved (level_of a) - level_of a in
    let q : ℕ = level_of a - halved (level_of a) in
    let k = weighted-multiple (step_of n (level_of a)) (lattice (level_of a) a) (height_of n heights) r in
    let parts : 2 * n - level_of a ≡ (n - halved (level_of a)) + t = omega arith in
    let whole : n ≡ t + q = omega arith in
    exact_quotient (area_of (corners_of n a)) (2 ^ n) (weighted (corners_of n a) (height_of n heights) r)
    (step_of n (level_of a)) (2 ^ t) (2 ^ q) k.0 (area_of-some n a address)
    (area_of-power n a address ∙ ap (λ z. 2 ^ z) parts ∙ pow-add 2 (n - halved (level_of a)) t
    ∙ ap (λ z. z * 2 ^ t) (sym step))
    (ap (λ z. 2 ^ z) whole ∙ pow-add 2 t q)
    (ap (λ c. weighted c (height_of n heights) r) (corners_of-lattice n a fits) ∙ k.1)

-- ---- weights

-- where r lies left of a line or on it, the area is the difference of the two sides
pub difference : (r p q : Point) → is_left_or_on r p q ≡ true → IsLeftBy (doubled_area r p q) r p q
difference r p q h =
    let le : p.y * q.x + q.y * r.x + r.y * p.x ≤ p.x * q.y + q.x * r.y + r.x * p.y = leb-true _ _ h in omega arith

-- a held point is the mean of the corners by these areas
pub IsMean-held : (n a : ℕ) (r : Point) → IsAddress n a → holds_point n a r ≡ true →
    IsMean (area_of (corners_of n a)) (corners_of n a) r (doubled_area r (corners_of n a).v0 (corners_of n a).v1)
    (doubled_area r (corners_of n a).v1 (corners_of n a).apex)
    (doubled_area r (corners_of n a).apex (corners_of n a).v0)
IsMean-held n a r address held =
    let c : Corners = corners_of n a in
    let legs =
    and_parts (is_left_or_on r c.apex c.v0) (is_left_or_on r c.v0 c.v1 && is_left_or_on r c.v1 c.apex) held in
    let rest = and_parts (is_left_or_on r c.v0 c.v1) (is_left_or_on r c.v1 c.apex) legs.1 in
    let area : HasArea c (area_of c) = rw (area_of-power n a address) (HasArea-corners_of n a (level-le n a address)) in
    IsMean-across c r (area_of c) (doubled_area r c.v0 c.v1) (doubled_area r c.v1 c.apex)
    (doubled_area r c.apex c.v0) area
    (difference r c.v0 c.v1 rest.0) (difference r c.v1 c.apex rest.1) (difference r c.apex c.v0 legs.0)

-- so it lies in the bounding rectangle
pub IsInRectangle-held : (n a : ℕ) (r : Point) → IsAddress n a → holds_point n a r ≡ true →
    IsInRectangle (corners_of n a) r
IsInRectangle-held n a r address held =
    IsInRectangle-mean (area_of (corners_of n a)) (corners_of n a) r _ _ _ (area_of-some n a address)
    (IsMean-held n a r address held)

-- and in the grid
pub in_grid-held : (n a : ℕ) (r : Point) → IsAddress n a → holds_point n a r ≡ true → (r.x ≤ 2 ^ n) × (r.y ≤ 2 ^ n)
in_grid-held n a r address held =
    let w : IsWithin (2 ^ n) (corners_of n a) = IsWithin-corners_of n a in
    let box = IsInRectangle-held n a r address held in
    (let k = box.right in omega arith, let k = box.top in omega arith)

-- the value at a held point is among those of the triangle
pub held-le : (f : Point → ℕ) (n a : ℕ) (r : Point) → IsAddress n a → holds_point n a r ≡ true →
    f r ≤ greatest (map f (filter (holds_point n a) (points_of n)))
held-le f n a r address held =
    let inside = in_grid-held n a r address held in
    le-greatest f (holds_point n a) r held (points_of n) (IsPointIn-points_of n r inside.0 inside.1)

-- ---- the bound

-- a difference times k
pub apart-scaled : (k i j : ℕ) → k * apart i j ≡ apart (k * i) (k * j)
apart-scaled k i j = omega (arith, mul-sub k i j, mul-sub k j i)

-- from the mean, times the area, to the plane height, times m
scaled_bound : (area m surface weight z thick : ℕ) → 0 < area → area * z ≡ m * weight →
    2 * apart (area * surface) weight ≤ area * thick → 2 * apart (m * surface) z ≤ m * thick
scaled_bound area m surface weight z thick some exact bound =
    let more : m * (2 * apart (area * surface) weight) ≤ m * (area * thick) = mul-le-mul_left m bound in
    let near : m * apart (area * surface) weight ≡ apart (m * (area * surface)) (m * weight) =
    apart-scaled m (area * surface) weight in
    let far : area * apart (m * surface) z ≡ apart (area * (m * surface)) (area * z) =
    apart-scaled area (m * surface) z in
    let same : apart (area * (m * surface)) (area * z) ≡ apart (m * (area * surface)) (m * weight) = omega arith in
    le_of_mul-le-mul_left {k = area} (omega arith) some

-- at each held point twice the way off the plane is at most the thickness, times 2 ^ n
pub off_plane-le : (n : ℕ) (heights : List ℕ) (a : ℕ) (r : Point) → IsAddress n a → holds_point n a r ≡ true →
    2 * off_plane n heights a r ≤ 2 ^ n * thickness_of n heights a
unfolding thickness_of
off_plane-le n heights a r address held =
    let c : Corners = corners_of n a in
    scaled_bound (area_of c) (2 ^ n) (height_of n heights r) (weighted c (height_of n heights) r)
    (plane_height n heights a r)
    (thickness_under (2 * n - level_of a) n heights a) (area_of-some n a address)
    (plane_height-exact n heights a r address)
    (mean-le n heights (2 * n - level_of a) a (area_of c) r (doubled_area r c.v0 c.v1) (doubled_area r c.v1 c.apex)
    (doubled_area r c.apex c.v0) (area_of-some n a address) (IsDown-address n a address)
    (IsMean-held n a r address held))

-- ---- how high it is

-- a height is at most the bound of all heights, and 0 where there is none
height-le : (heights : List ℕ) (top k : ℕ) → All (λ h. h ≤ top) heights → get_or heights k 0 ≤ top
height-le heights top k bounded = ⊎_elim {C = get_or heights k 0 ≤ top}
    (λ lt. bounded k 0 lt) (λ ge. omega (arith, get_or_past heights k 0 ge)) (cases_lt k (length heights))

-- the plane of a triangle is nowhere above the greatest height, at a point that the triangle holds
plane_height-le : (n : ℕ) (heights : List ℕ) (top a : ℕ) (r : Point) → IsAddress n a → All (λ h. h ≤ top) heights →
    holds_point n a r ≡ true →
    plane_height n heights a r ≤ 2 ^ n * top
plane_height-le n heights top a r address bounded held =
    let c : Corners = corners_of n a in
    let u : ℕ = doubled_area r c.v0 c.v1 in
    let v : ℕ = doubled_area r c.v1 c.apex in
    let w : ℕ = doubled_area r c.apex c.v0 in
    let height : (p : Point) → height_of n heights p ≤ top = λ p. height-le heights top (place_of n p.x p.y) bounded in
    let sum : u + v + w ≡ area_of c = (IsMean-held n a r address held).sum in
    let one : u * height_of n heights c.apex ≤ u * top = mul-le-mul_left u (height c.apex) in
    let two : v * height_of n heights c.v0 ≤ v * top = mul-le-mul_left v (height c.v0) in
    let three : w * height_of n heights c.v1 ≤ w * top = mul-le-mul_left w (height c.v1) in
    let all : (u + v + w) * top ≡ area_of c * top = ap (λ k. k * top) sum in
    let weights : weighted c (height_of n heights) r ≤ area_of c * top = omega arith in
    let scaled : 2 ^ n * weighted c (height_of n heights) r ≤ 2 ^ n * (area_of c * top) =
    mul-le-mul_left (2 ^ n) weights in
    let exact = plane_height-exact n heights a r address in
    let swap : 2 ^ n * (area_of c * top) ≡ area_of c * (2 ^ n * top) = omega arith in
    le_of_mul-le-mul_left {k = area_of c} (omega arith) (area_of-some n a address)

-- so at a held point the surface is off the plane by no more than the greatest height, times 2 ^ n
pub off_plane-most : (n : ℕ) (heights : List ℕ) (top a : ℕ) (r : Point) → IsAddress n a → All (λ h. h ≤ top) heights →
    holds_point n a r ≡ true →
    off_plane n heights a r ≤ 2 ^ n * top
off_plane-most n heights top a r address bounded held =
    let plane = plane_height-le n heights top a r address bounded held in
    let surface : 2 ^ n * height_of n heights r ≤ 2 ^ n * top =
    mul-le-mul_left (2 ^ n) (height-le heights top (place_of n r.x r.y) bounded) in
    omega arith

-- ---- running differences

-- three areas in a row of points
area-row : (x y : ℕ) (p q : Point) → is_left_or_on (point x y) p q ≡ true → is_left_or_on (point (x + 1) y) p q ≡ true →
    is_left_or_on (point (x + 2) y) p q ≡ true →
    doubled_area (point x y) p q + doubled_area (point (x + 2) y) p q ≡ 2 * doubled_area (point (x + 1) y) p q
area-row x y p q h0 h1 h2 =
    let e0 = difference (point x y) p q h0 in
    let e1 = difference (point (x + 1) y) p q h1 in
    let e2 = difference (point (x + 2) y) p q h2 in
    omega arith

-- the tests of a held point
pub left_or_on-held : (c : Corners) (r : Point) → is_in_closed c r ≡ true →
    (is_left_or_on r c.apex c.v0 ≡ true) × (is_left_or_on r c.v0 c.v1 ≡ true) × (is_left_or_on r c.v1 c.apex ≡ true)
left_or_on-held c r held =
    let legs =
    and_parts (is_left_or_on r c.apex c.v0) (is_left_or_on r c.v0 c.v1 && is_left_or_on r c.v1 c.apex) held in
    let rest = and_parts (is_left_or_on r c.v0 c.v1) (is_left_or_on r c.v1 c.apex) legs.1 in
    (legs.0, rest.0, rest.1)

-- so along a row each plane height differs from the one before by the same number
pub plane_height-row : (n : ℕ) (heights : List ℕ) (a x y : ℕ) → IsAddress n a → holds_point n a (point x y) ≡ true →
    holds_point n a (point (x + 1) y) ≡ true → holds_point n a (point (x + 2) y) ≡ true →
    plane_height n heights a (point x y) + plane_height n heights a (point (x + 2) y)
    ≡ 2 * plane_height n heights a (point (x + 1) y)
plane_height-row n heights a x y address h0 h1 h2 =
    let c : Corners = corners_of n a in
    let f : Point → ℕ = height_of n heights in
    let t0 = left_or_on-held c (point x y) h0 in
    let t1 = left_or_on-held c (point (x + 1) y) h1 in
    let t2 = left_or_on-held c (point (x + 2) y) h2 in
    let u = area-row x y c.v0 c.v1 t0.1 t1.1 t2.1 in
    let v = area-row x y c.v1 c.apex t0.2 t1.2 t2.2 in
    let w = area-row x y c.apex c.v0 t0.0 t1.0 t2.0 in
    let sum : weighted c f (point x y) + weighted c f (point (x + 2) y) ≡ 2 * weighted c f (point (x + 1) y) =
    omega (arith, ap (λ z. z * f c.apex) u, ap (λ z. z * f c.v0) v, ap (λ z. z * f c.v1) w) in
    let z0 = plane_height-exact n heights a (point x y) address in
    let z1 = plane_height-exact n heights a (point (x + 1) y) address in
    let z2 = plane_height-exact n heights a (point (x + 2) y) address in
    cancel (area_of c) (plane_height n heights a (point x y) + plane_height n heights a (point (x + 2) y))
    (2 * plane_height n heights a (point (x + 1) y)) (area_of-some n a address) (omega (arith, ap (λ z. 2 ^ n * z) sum))

-- ---- at the corners

-- all weight is there
weighted-apex : (c : Corners) (f : Point → ℕ) → weighted c f c.apex ≡ area_of c * f c.apex
weighted-apex c f =
    let v : doubled_area c.apex c.v1 c.apex ≡ 0 = omega arith in
    let w : doubled_area c.apex c.apex c.v0 ≡ 0 = omega arith in
    rw (v, w) (omega arith)

weighted-v0 : (c : Corners) (f : Point → ℕ) → weighted c f c.v0 ≡ area_of c * f c.v0
weighted-v0 c f =
    let u : doubled_area c.v0 c.v0 c.v1 ≡ 0 = omega arith in
    let v : doubled_area c.v0 c.v1 c.apex ≡ area_of c = omega arith in
    let w : doubled_area c.v0 c.apex c.v0 ≡ 0 = omega arith in
    rw (u, w, v) (omega arith)

weighted-v1 : (c : Corners) (f : Point → ℕ) → weighted c f c.v1 ≡ area_of c * f c.v1
weighted-v1 c f =
    let u : doubled_area c.v1 c.v0 c.v1 ≡ 0 = omega arith in
    let v : doubled_area c.v1 c.v1 c.apex ≡ 0 = omega arith in
    let w : doubled_area c.v1 c.apex c.v0 ≡ area_of c = omega arith in
    rw (u, v, w) (omega arith)

weighted-corner : (c : Corners) (f : Point → ℕ) (r : Point) → IsCorner c r → weighted c f r ≡ area_of c * f r
weighted-corner c f r (inl e) = rw e (weighted-apex c f)
weighted-corner c f r (inr (inl e)) = rw e (weighted-v0 c f)
weighted-corner c f r (inr (inr e)) = rw e (weighted-v1 c f)

-- the plane passes through the corners
pub plane_height-corner : (n : ℕ) (heights : List ℕ) (a : ℕ) (r : Point) → IsAddress n a → IsCorner (corners_of n a) r →
    plane_height n heights a r ≡ 2 ^ n * height_of n heights r
plane_height-corner n heights a r address corner =
    let area : ℕ = area_of (corners_of n a) in
    let whole = weighted-corner (corners_of n a) (height_of n heights) r corner in
    cancel area (plane_height n heights a r) (2 ^ n * height_of n heights r) (area_of-some n a address)
    (plane_height-exact n heights a r address ∙ ap (λ k. 2 ^ n * k) whole ∙ omega arith)
