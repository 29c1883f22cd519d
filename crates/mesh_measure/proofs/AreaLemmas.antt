-- The sums of areas: how great they are, what they weigh, and the plane height by its parts.
use Rattle.std.proofs.Common.{◌≡◌, ℕ, ◌-◌, ◌*◌, ◌/◌, ◌^◌, ◌<◌, ◌≤◌, List, refl, ◌∙◌, ap, ap₂, arith, mul-le-mul_left}
use Rattle.std.proofs.Common.{pow_mono}
use Rattle.std.proofs.Math.Nat.{div-le_self}
use Rattle.mesh_defs.specs.declared.point.Point.{Point}
use Rattle.mesh_defs.specs.declared.point.Corners.{Corners}
use Rattle.mesh_defs.specs.Triangle.{level_of, corners_of}
use Rattle.mesh_defs.specs.Thickness.{height_of}
use Rattle.mesh_defs.specs.BoundingBox.{point}
use Rattle.bintree_laws.specs.Corners.{IsInSquare}
use Rattle.bintree_laws.proofs.WeightLemmas.{HasArea-corners_of}
use Rattle.mesh_laws.proofs.DescentLemmas.{IsAddress-level}
use Rattle.fit_laws.specs.PlaneHeight.{doubled_area, area_of, weighted, plane_height}
use Rattle.fit_laws.proofs.PlaneLemmas.{area_of-some}
use Rattle.mesh_measure.specs.declared.areas.Across.{Across}
use Rattle.mesh_measure.specs.declared.areas.Areas.{Areas}
use Rattle.mesh_measure.specs.declared.shape.Facet.{Facet}
use Rattle.mesh_measure.specs.Areas.{AreSumsAcross, AreAcross, sum_of_weighted}
use Rattle.mesh_measure.specs.Facet.{IsFacet}

-- ---- bounds

-- products keep the order
pub product : (i j k l : ℕ) → i ≤ k → j ≤ l → i * j ≤ k * l
product i j k l le more =
    let first : i * j ≤ i * l = mul-le-mul_left i more in
    let second : l * i ≤ l * k = mul-le-mul_left l le in
    omega arith

-- a point of the grid lies in the largest square
pub IsInSquare-largest : (n x y : ℕ) → n ≤ 14 → x ≤ 2 ^ n → y ≤ 2 ^ n → IsInSquare (2 ^ 14) (point x y)
IsInSquare-largest n x y small fits fits_y =
    let le : 2 ^ n ≤ 2 ^ 14 = pow_mono small in
    record { x = omega arith; y = omega arith }

-- a side times weighted heights is small, and so is a part of it
pub product-small : (m sum area : ℕ) → m ≤ 16384 → sum ≤ 211106232532992 → (m * sum < 2 ^ 62) × (m * sum / area < 2 ^ 62)
product-small m sum area side small =
    let le : m * sum ≤ 16384 * 211106232532992 = product m sum 16384 211106232532992 side small in
    let part : m * sum / area ≤ m * sum = div-le_self (m * sum) area in
    (omega arith, omega arith)

-- ---- values

-- an area is the first sum less the second
pub area-across : (r p q : Point) (s : Across) → AreSumsAcross r p q s → s.high - s.low ≡ doubled_area r p q
area-across r p q s a = ap₂ (λ i j. i - j) a.high a.low

-- so the sums weigh the heights as the definition does
pub sum_of_weighted-across : (n : ℕ) (heights : List ℕ) (facet : Facet) (r : Point) (s : Areas) →
    IsFacet n heights facet →
    AreAcross facet.corners r s →
    sum_of_weighted s facet.apex facet.v0 facet.v1 ≡ weighted facet.corners (height_of n heights) r
sum_of_weighted-across n heights facet r s f a =
    let c : Corners = facet.corners in rw (
      area-across r c.v0 c.v1 s.apex a.apex,
      area-across r c.v1 c.apex s.v0 a.v0,
      area-across r c.apex c.v0 s.v1 a.v1,
      f.apex,
      f.v0,
      f.v1,
    ) refl

-- the plane height by its parts
pub plane_height-facet : (n : ℕ) (heights : List ℕ) (a : ℕ) (facet : Facet) (r : Point) (s : Areas) (m sum : ℕ) →
    IsFacet n heights facet →
    facet.corners ≡ corners_of n a → AreAcross facet.corners r s → m ≡ 2 ^ n →
    sum ≡ sum_of_weighted s facet.apex facet.v0 facet.v1 →
    m * sum / facet.area ≡ plane_height n heights a r
unfolding plane_height
plane_height-facet n heights a facet r s m sum f is across side total =
    let whole : sum ≡ weighted facet.corners (height_of n heights) r =
    total ∙ sum_of_weighted-across n heights facet r s f across in
    rw (side, whole, f.area) (ap (λ d. 2 ^ n * weighted d (height_of n heights) r / area_of d) is)

-- its area is not 0
pub area-some : (n : ℕ) (heights : List ℕ) (a : ℕ) (facet : Facet) → 2 ≤ a → level_of a ≤ 2 * n →
    IsFacet n heights facet →
    facet.corners ≡ corners_of n a → 0 < facet.area
area-some n heights a facet low fits f is =
    let some = area_of-some n a (IsAddress-level n a low fits) in
    let same : facet.area ≡ area_of (corners_of n a) = f.area ∙ ap area_of is in omega arith

-- it is a power of 2
pub area-power : (n a : ℕ) (c : Corners) (area log_area : ℕ) → level_of a ≤ 2 * n → c ≡ corners_of n a → area ≡ area_of c →
    log_area ≡ 2 * n - level_of a → area ≡ 2 ^ log_area
area-power n a c area log_area fits is size at =
    let h = HasArea-corners_of n a fits in
    let same : area_of c ≡ area_of (corners_of n a) = ap area_of is in
    let power : 2 ^ log_area ≡ 2 ^ (2 * n - level_of a) = ap (λ k. 2 ^ k) at in
    omega (arith, h.area)
