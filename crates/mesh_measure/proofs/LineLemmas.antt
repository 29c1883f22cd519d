-- The plane of a triangle along a row.
use Rattle.std.proofs.Common.{◌≡◌, ℕ, ◌+◌, ◌*◌, ◌≤◌, true, sym, ap, arith}
use Rattle.mesh_defs.specs.declared.point.Point.{Point}
use Rattle.mesh_defs.specs.declared.point.Corners.{Corners}
use Rattle.mesh_defs.specs.BoundingBox.{point, is_left_or_on}
use Rattle.std.proofs.lemmas.Bool.{leb-true}
use Rattle.fit_laws.specs.PlaneHeight.{doubled_area}
use Rattle.fit_laws.proofs.PlaneLemmas.{left_or_on-held}
use Rattle.mesh_measure.specs.declared.areas.Across.{Across}
use Rattle.mesh_measure.specs.declared.areas.Areas.{Areas}
use Rattle.mesh_measure.specs.declared.line.Line.{Line}
use Rattle.mesh_measure.specs.declared.line.Plane.{Plane}
use Rattle.mesh_measure.proofs.AreaLemmas.{product}
use Rattle.mesh_measure.specs.Areas.{AreSumsAcross, AreAcross}
use Rattle.mesh_measure.specs.Line.{line_at, high_on, low_on, IsRowLineOf, IsLineFrom}

-- one edge: its area times a height, by both sums
edge-part : (p q : Point) (y x height z : ℕ) (s : Across) → AreSumsAcross (point 0 y) p q s → height ≡ z →
    is_left_or_on (point x y) p q ≡ true →
    doubled_area (point x y) p q * z + (s.low * height + x * (q.y * height)) ≡ s.high * height + x * (p.y * height)
edge-part p q y x height z s a same left =
    let le = leb-true (p.y * q.x + q.y * x + y * p.x) (p.x * q.y + q.x * y + x * p.y) left in
    let high = a.high in
    let low = a.low in
    let area : ℕ = doubled_area (point x y) p q in
    let whole : area + (s.low + x * q.y) ≡ s.high + x * p.y = omega arith in
    let scaled : (area + (s.low + x * q.y)) * height ≡ (s.high + x * p.y) * height = ap (λ k. k * height) whole in
    let swap : area * z ≡ area * height = ap (λ k. area * k) (sym same) in
    omega arith

-- the sums weigh as the definition does, at each point that the triangle holds
pub line-weights : (c : Corners) (f : Point → ℕ) (y apex v0 v1 : ℕ) (s : Areas) (line : Line) →
    apex ≡ f c.apex → v0 ≡ f c.v0 → v1 ≡ f c.v1 → AreAcross c (point 0 y) s →
    line.high ≡ s.apex.high * apex + s.v0.high * v0 + s.v1.high * v1 →
    line.low ≡ s.apex.low * apex + s.v0.low * v0 + s.v1.low * v1 →
    line.rise ≡ c.v0.y * apex + c.v1.y * v0 + c.apex.y * v1 →
    line.fall ≡ c.v1.y * apex + c.apex.y * v0 + c.v0.y * v1 →
    IsRowLineOf c f y line
line-weights c f y apex v0 v1 s line one two three a high low rise fall x held =
    let sides = left_or_on-held c (point x y) held in
    let p = edge-part c.v0 c.v1 y x apex (f c.apex) s.apex a.apex one sides.1 in
    let q = edge-part c.v1 c.apex y x v0 (f c.v0) s.v0 a.v0 two sides.2 in
    let r = edge-part c.apex c.v0 y x v1 (f c.v1) s.v1 a.v1 three sides.0 in
    let up : x * line.rise ≡ x * (c.v0.y * apex + c.v1.y * v0 + c.apex.y * v1) = ap (λ k. x * k) rise in
    let down : x * line.fall ≡ x * (c.v1.y * apex + c.apex.y * v0 + c.v0.y * v1) = ap (λ k. x * k) fall in
    omega arith

-- so do those of the plane, in each row
pub plane-lines : (c : Corners) (f : Point → ℕ) (apex v0 v1 : ℕ) (plane : Plane) → apex ≡ f c.apex → v0 ≡ f c.v0 →
    v1 ≡ f c.v1 →
    plane.high ≡ c.v0.x * c.v1.y * apex + c.v1.x * c.apex.y * v0 + c.apex.x * c.v0.y * v1 →
    plane.low ≡ c.v0.y * c.v1.x * apex + c.v1.y * c.apex.x * v0 + c.apex.y * c.v0.x * v1 →
    plane.rise ≡ c.v0.y * apex + c.v1.y * v0 + c.apex.y * v1 →
    plane.fall ≡ c.v1.y * apex + c.apex.y * v0 + c.v0.y * v1 →
    plane.up ≡ c.v1.x * apex + c.apex.x * v0 + c.v0.x * v1 →
    plane.down ≡ c.v0.x * apex + c.v1.x * v0 + c.apex.x * v1 →
    (y : ℕ) → IsRowLineOf c f y (line_at plane y)
plane-lines c f apex v0 v1 plane one two three high low rise fall up down y =
    let s : Areas = record {
      apex = record { high = c.v0.x * c.v1.y + c.v1.x * y; low = c.v0.y * c.v1.x + y * c.v0.x };
      v0 = record { high = c.v1.x * c.apex.y + c.apex.x * y; low = c.v1.y * c.apex.x + y * c.v1.x };
      v1 = record { high = c.apex.x * c.v0.y + c.v0.x * y; low = c.apex.y * c.v0.x + y * c.apex.x };
    } in
    let a : AreAcross c (point 0 y) s = record {
      apex = record { high = omega arith; low = omega arith };
      v0 = record { high = omega arith; low = omega arith };
      v1 = record { high = omega arith; low = omega arith };
    } in
    let rows : y * plane.up ≡ y * (c.v1.x * apex + c.apex.x * v0 + c.v0.x * v1) = ap (λ k. y * k) up in
    let drops : y * plane.down ≡ y * (c.v0.x * apex + c.v1.x * v0 + c.apex.x * v1) = ap (λ k. y * k) down in
    line-weights c f y apex v0 v1 s (line_at plane y) one two three a (omega arith) (omega arith) rise fall

-- the line from a column on
pub line-shifted : (c : Corners) (f : Point → ℕ) (y x : ℕ) (line from : Line) → IsRowLineOf c f y line →
    from.high ≡ high_on line x → from.low ≡ low_on line x → from.rise ≡ line.rise → from.fall ≡ line.fall →
    IsLineFrom c f y x from
line-shifted c f y x line from lined high low rise fall k inside =
    let weights = lined (x + k) inside in
    let rises : k * from.rise ≡ k * line.rise = ap (λ z. k * z) rise in
    let falls : k * from.fall ≡ k * line.fall = ap (λ z. k * z) fall in
    omega arith

-- a sum some rows and columns on is small
pub sums-small : (start y up x slope : ℕ) → start ≤ 52776558133248 → y ≤ 16384 → up ≤ 3221225472 → x ≤ 16385 →
    slope ≤ 3221225472 →
    start + y * up + x * slope ≤ 281474976710656
sums-small start y up x slope small low steep few flat =
    let first : y * up ≤ 16384 * 3221225472 = product y up 16384 3221225472 low steep in
    let second : x * slope ≤ 16385 * 3221225472 = product x slope 16385 3221225472 few flat in
    omega arith

-- so is it after some more columns
pub sums-small-on : (start y up x slope next k rise : ℕ) → start ≤ 52776558133248 → y ≤ 16384 → up ≤ 3221225472 →
    x + k ≤ 16385 → slope ≤ 3221225472 →
    next ≡ start + y * up + x * slope →
    rise ≡ slope → next + k * rise ≤ 281474976710656
sums-small-on start y up x slope next k rise small low steep few flat is same =
    let all = sums-small start y up (x + k) slope small low steep few flat in
    let more : k * rise ≡ k * slope = ap (λ z. k * z) same in omega arith
