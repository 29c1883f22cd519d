-- From the gaps, which are times twice the area, to how far the surface is from the plane, times 2^n.
use Rattle.std.proofs.Common.{◌≡◌, ℕ, ◌+◌, ◌*◌, ◌/◌, ◌^◌, ◌<◌, List, sym, ◌∙◌, ap, arith}
use Rattle.std.proofs.lemmas.Nat.{div-mul-add}
use Rattle.mesh_defs.specs.declared.point.Point.{Point}
use Rattle.mesh_defs.specs.Triangle.{IsAddress, corners_of}
use Rattle.mesh_defs.specs.Thickness.{height_of, apart}
use Rattle.fit_laws.specs.PlaneHeight.{area_of, weighted, plane_height, off_plane}
use Rattle.fit_laws.proofs.PlaneLemmas.{area_of-some, plane_height-exact, apart-scaled}
use Rattle.mesh_measure.specs.Most.{gap_of}

-- a quotient without a rest
pub exact : (area z total : ℕ) → 0 < area → area * z ≡ total → total / area ≡ z
exact area z total some e = let whole : total ≡ z * area + 0 = omega arith in rw whole (div-mul-add z area 0 some)

-- the way off the plane, by the gap
pub off_plane-gap : (n : ℕ) (heights : List ℕ) (a : ℕ) (r : Point) → IsAddress n a →
    area_of (corners_of n a) * off_plane n heights a r ≡ 2 ^ n * gap_of (corners_of n a) (height_of n heights) r
off_plane-gap n heights a r address =
    let area : ℕ = area_of (corners_of n a) in
    let surface : ℕ = height_of n heights r in
    let weight : ℕ = weighted (corners_of n a) (height_of n heights) r in
    let z : ℕ = plane_height n heights a r in
    let exactly : area * z ≡ 2 ^ n * weight = plane_height-exact n heights a r address in
    let left : area * apart (2 ^ n * surface) z ≡ apart (area * (2 ^ n * surface)) (area * z) =
    apart-scaled area (2 ^ n * surface) z in
    let right : 2 ^ n * apart (area * surface) weight ≡ apart (2 ^ n * (area * surface)) (2 ^ n * weight) =
    apart-scaled (2 ^ n) (area * surface) weight in
    let swap : area * (2 ^ n * surface) ≡ 2 ^ n * (area * surface) = omega arith in
    left ∙ rw (swap, exactly) (sym right)

-- at one point of a triangle
pub off_plane-quotient : (n : ℕ) (heights : List ℕ) (a : ℕ) (r : Point) (m area : ℕ) → IsAddress n a → m ≡ 2 ^ n
    → area ≡ area_of (corners_of n a) →
    m * gap_of (corners_of n a) (height_of n heights) r / area ≡ off_plane n heights a r
off_plane-quotient n heights a r m area address side size =
    let positive = area_of-some n a address in
    let total : area * off_plane n heights a r ≡ m * gap_of (corners_of n a) (height_of n heights) r =
    ap (λ k. k * off_plane n heights a r) size ∙ off_plane-gap n heights a r address
    ∙ ap (λ k. k * gap_of (corners_of n a) (height_of n heights) r) (sym side) in
    exact area (off_plane n heights a r) (m * gap_of (corners_of n a) (height_of n heights) r) (omega arith) total
