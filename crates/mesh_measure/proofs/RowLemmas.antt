-- The height of the plane along a row: small, and by equal steps from the first column on, modulo 2 ^ 32.
use Rattle.std.proofs.Common.{◌≡◌, ℕ, ◌+◌, ◌-◌, ◌*◌, ◌%◌, ◌^◌, ◌<◌, ◌≤◌, ◌↔◌, true, All, List, length, slice_index}
use Rattle.std.proofs.Common.{get_or, sym, ◌∙◌, ap, ap₂, subst, arith, pow_mono, mul-le-mul_left, ⊎_elim}
use Rattle.std.proofs.lemmas.Bool.{cases_lt}
use Rattle.std.proofs.lemmas.List.{get_or_past}
use Rattle.mesh_defs.specs.HeightField.{place_of}
use Rattle.mesh_defs.specs.declared.point.Point.{Point}
use Rattle.mesh_defs.specs.declared.point.Corners.{Corners}
use Rattle.mesh_defs.specs.Triangle.{IsAddress, corners_of}
use Rattle.mesh_defs.specs.Thickness.{height_of, apart}
use Rattle.mesh_defs.specs.BoundingBox.{point, is_in_closed, holds_point}
use Rattle.fit_laws.specs.PlaneHeight.{plane_height, off_plane}
use Rattle.fit_laws.proofs.PlaneLemmas.{off_plane-most}
use Rattle.mesh_measure.specs.declared.columns.Columns.{Columns}
use Rattle.mesh_measure.specs.declared.slope.Slopes.{Slopes}
use Rattle.mesh_measure.specs.Columns.{IsColumn, IsGreatestAlong}
use Rattle.mesh_measure.specs.Line.{off_on}
use Rattle.mesh_measure.specs.Most.{IsMost, IsInRow}
use Rattle.mesh_measure.specs.Slope.{height_by, AreSlopesOf}
use Rattle.mesh_measure.proofs.AreaLemmas.{product}
use Rattle.mesh_measure.proofs.MostLemmas.{IsMost-along}

-- no height is above the bound of all
height-le : (heights : List ℕ) (top k : ℕ) → All (λ h. h ≤ top) heights → get_or heights k 0 ≤ top
height-le heights top k bounded = ⊎_elim {C = get_or heights k 0 ≤ top}
    (λ lt. bounded k 0 lt) (λ ge. omega (arith, get_or_past heights k 0 ge)) (cases_lt k (length heights))

-- so the plane is small at a held point
pub plane-small : (n : ℕ) (heights : List ℕ) (a top : ℕ) (r : Point) → IsAddress n a → n ≤ 14 → top ≤ 65535 →
    All (λ h. h ≤ top) heights → holds_point n a r ≡ true → plane_height n heights a r < 2 ^ 32
plane-small n heights a top r address few low bounded held =
    let off : off_plane n heights a r ≤ 2 ^ n * top = off_plane-most n heights top a r address bounded held in
    let surface : height_of n heights r ≤ top = height-le heights top (place_of n r.x r.y) bounded in
    let side : 2 ^ n ≤ 2 ^ 14 = pow_mono few in
    let one : 2 ^ n * top ≤ 16384 * 65535 = product (2 ^ n) top 16384 65535 side low in
    let two : 2 ^ n * height_of n heights r ≤ 2 ^ n * top = mul-le-mul_left (2 ^ n) surface in
    omega arith

-- some columns on
height_by-on : (s : Slopes) (x y k at : ℕ) → at ≡ height_by s x y → (at + k * s.right) % 2 ^ 32 ≡ height_by s (x + k) y
height_by-on s x y k at is =
    let all : s.at + (x + k) * s.right + y * s.up ≡ s.at + x * s.right + y * s.up + k * s.right = omega arith in
    let sum : ℕ = s.at + x * s.right + y * s.up in
    let more : ℕ = k * s.right in
    let here : (sum % 2 ^ 32 + more) % 2 ^ 32 ≡ (sum + more) % 2 ^ 32 = omega arith in
    ap (λ z. (z + k * s.right) % 2 ^ 32) is ∙ here ∙ ap (λ z. z % 2 ^ 32) (sym all)

-- the greatest distance along the columns of a row that the triangle holds
pub row-most : (n : ℕ) (heights : List ℕ) (a : ℕ) (c : Corners) (y left right j at most : ℕ) (s : Slopes) (columns : Columns)
    (row : List ℕ) → c ≡ corners_of n a → j ≡ n → AreSlopesOf n heights a s → columns.from ≤ columns.end →
    length row ≡ columns.end - columns.from →
    ((x : ℕ) → IsColumn columns x ↔ (((left ≤ x) × (x < right + 1)) × (is_in_closed c (point x y) ≡ true))) →
    ((k : ℕ) → k < length row → slice_index row k ≡ height_of n heights (point (columns.from + k) y)) →
    at ≡ height_by s columns.from y → IsGreatestAlong (length row) (off_on j at s.right row) most →
    IsMost (IsInRow c y left (right + 1)) (off_plane n heights a) most
row-most n heights a c y left right j at most s columns row is own slopes ordered long held there first greatest =
    IsMost-along c (off_plane n heights a) y left right (length row) columns (off_on j at s.right row) most ordered long held
    (λ k below inside.
    let holds : holds_point n a (point (columns.from + k) y) ≡ true =
    subst (λ (d : Corners). is_in_closed d (point (columns.from + k) y) ≡ true) is inside in
    let surface : 2 ^ n * height_of n heights (point (columns.from + k) y) ≡ 2 ^ j * slice_index row k =
    ap₂ (λ i z. 2 ^ i * z) (sym own) (sym (there k below)) in
    let plane : plane_height n heights a (point (columns.from + k) y) ≡ (at + k * s.right) % 2 ^ 32 =
    sym (slopes (columns.from + k) y holds) ∙ sym (height_by-on s columns.from y k at first) in
    ap₂ apart surface plane)
    greatest
