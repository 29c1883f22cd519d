-- A point strictly inside a triangle is passed upwards once more than downwards.
use Rattle.std.proofs.Common.{◌≡◌, ℕ, ◌+◌, ◌*◌, ◌-◌, ◌<◌, ◌≤◌, ap, arith, ⊎_elim, mul-le-mul_left}
use Rattle.std.proofs.lemmas.Bool.{cases_lt}
use Rattle.mesh_defs.specs.declared.point.Point.{Point}
use Rattle.mesh_cover.specs.Cover.{high_across, low_across, passes, ups_at, downs_at, IsCounterclockwise}
use Rattle.mesh_cover.specs.Mesh.{IsInside}
use Rattle.mesh_cover.proofs.WeightLemmas.{balance}
use Rattle.mesh_cover.proofs.SideLemmas.{Balance}
use Rattle.mesh_cover.proofs.PassLemmas.{passes-below, passes-above, passes-right, passes-left}

scaled : (more less d y : ℕ) → more ≡ less + d → more * y ≡ less * y + d * y
scaled more less d y e = let f : more * y ≡ (less + d) * y = ap (λ k. k * y) e in omega arith

-- ---- not all corners lie on one side of the row

-- the three areas are positive, and no corner is above: then the first is not below
below-level : (h1 l1 h2 l2 h3 l3 p q r ya yb yc yo : ℕ) → Balance h1 l1 h2 l2 h3 l3 ya yb yc yo →
    h1 ≡ l1 + p → h2 ≡ l2 + q → h3 ≡ l3 + r → 1 ≤ p → ya + 1 ≤ yo → yb ≤ yo → yc ≤ yo → ⊥
below-level h1 l1 h2 l2 h3 l3 p q r ya yb yc yo bal pe qe re some a b c =
    let pa : h1 * ya ≡ l1 * ya + p * ya = scaled h1 l1 p ya pe in
    let po : h1 * yo ≡ l1 * yo + p * yo = scaled h1 l1 p yo pe in
    let qb : h2 * yb ≡ l2 * yb + q * yb = scaled h2 l2 q yb qe in
    let qo : h2 * yo ≡ l2 * yo + q * yo = scaled h2 l2 q yo qe in
    let rc : h3 * yc ≡ l3 * yc + r * yc = scaled h3 l3 r yc re in
    let ro : h3 * yo ≡ l3 * yo + r * yo = scaled h3 l3 r yo re in
    let ml : p * (ya + 1) ≤ p * yo = mul-le-mul_left p a in
    let mr : q * yb ≤ q * yo = mul-le-mul_left q b in
    let mc : r * yc ≤ r * yo = mul-le-mul_left r c in
    omega arith

above-level : (h1 l1 h2 l2 h3 l3 p q r ya yb yc yo : ℕ) → Balance h1 l1 h2 l2 h3 l3 ya yb yc yo →
    h1 ≡ l1 + p → h2 ≡ l2 + q → h3 ≡ l3 + r → 1 ≤ p → yo + 1 ≤ ya → yo ≤ yb → yo ≤ yc → ⊥
above-level h1 l1 h2 l2 h3 l3 p q r ya yb yc yo bal pe qe re some a b c =
    let pa : h1 * ya ≡ l1 * ya + p * ya = scaled h1 l1 p ya pe in
    let po : h1 * yo ≡ l1 * yo + p * yo = scaled h1 l1 p yo pe in
    let qb : h2 * yb ≡ l2 * yb + q * yb = scaled h2 l2 q yb qe in
    let qo : h2 * yo ≡ l2 * yo + q * yo = scaled h2 l2 q yo qe in
    let rc : h3 * yc ≡ l3 * yc + r * yc = scaled h3 l3 r yc re in
    let ro : h3 * yo ≡ l3 * yo + r * yo = scaled h3 l3 r yo re in
    let ml : p * (yo + 1) ≤ p * ya = mul-le-mul_left p a in
    let mr : q * yo ≤ q * yb = mul-le-mul_left q b in
    let mc : r * yo ≤ r * yc = mul-le-mul_left r c in
    omega arith

-- a triangle whose corners lie in one row has no area
flat-area : (a b c : Point) → a.y ≡ b.y → c.y ≡ b.y → IsCounterclockwise a b c → ⊥
flat-area a b c ab cb left =
    let first : b.x * c.y ≡ b.x * b.y = ap (λ k. b.x * k) cb in
    let second : c.x * a.y ≡ c.x * b.y = ap (λ k. c.x * k) ab in
    let third : c.y * a.x ≡ b.y * a.x = ap (λ k. k * a.x) cb in
    let fourth : a.y * b.x ≡ b.y * b.x = ap (λ k. k * b.x) ab in
    omega arith

not-below : (a b c o : Point) → IsInside a b c o → a.y < o.y → b.y ≤ o.y → c.y ≤ o.y → ⊥
not-below a b c o inside ha hb hc =
    let sbc = inside.bc in
    let sca = inside.ca in
    let sab = inside.ab in
    below-level (high_across o b c) (low_across o b c) (high_across o c a) (low_across o c a) (high_across o a b) (low_across o a b)
    (high_across o b c - low_across o b c) (high_across o c a - low_across o c a) (high_across o a b - low_across o a b)
    a.y b.y c.y o.y (balance a b c o) (omega arith) (omega arith) (omega arith) (omega arith) (omega arith) hb hc

not-above : (a b c o : Point) → IsInside a b c o → o.y < a.y → o.y ≤ b.y → o.y ≤ c.y → ⊥
not-above a b c o inside ha hb hc =
    let sbc = inside.bc in
    let sca = inside.ca in
    let sab = inside.ab in
    above-level (high_across o b c) (low_across o b c) (high_across o c a) (low_across o c a) (high_across o a b) (low_across o a b)
    (high_across o b c - low_across o b c) (high_across o c a - low_across o c a) (high_across o a b - low_across o a b)
    a.y b.y c.y o.y (balance a b c o) (omega arith) (omega arith) (omega arith) (omega arith) (omega arith) hb hc

turned : (a b c o : Point) → IsInside a b c o → IsInside b c a o
turned a b c o inside = record { ab = inside.bc; bc = inside.ca; ca = inside.ab }

not-all-below : (a b c o : Point) → IsCounterclockwise a b c → IsInside a b c o → a.y ≤ o.y → b.y ≤ o.y → c.y ≤ o.y → ⊥
not-all-below a b c o left inside ha hb hc = ⊎_elim
    (λ (less : a.y < o.y). not-below a b c o inside less hb hc)
    (λ (ae : o.y ≤ a.y). ⊎_elim
    (λ (less : b.y < o.y). not-below b c a o (turned a b c o inside) less hc ha)
    (λ (be : o.y ≤ b.y). ⊎_elim
    (λ (less : c.y < o.y). not-below c a b o (turned b c a o (turned a b c o inside)) less ha hb)
    (λ (ce : o.y ≤ c.y). flat-area a b c (omega arith) (omega arith) left)
    (cases_lt c.y o.y))
    (cases_lt b.y o.y))
    (cases_lt a.y o.y)

-- ---- one corner alone

one-above : (a b c o : Point) → IsInside a b c o → a.y ≤ o.y → b.y ≤ o.y → o.y < c.y → ups_at a b c o ≡ downs_at a b c o + 1
one-above a b c o inside ha hb hc =
    let sbc = inside.bc in
    let sca = inside.ca in
    let ab = passes-above a b o hb in
    let ca = passes-above c a o ha in
    let ba = passes-above b a o ha in
    let cb = passes-above c b o hb in
    let ac : passes a c o ≡ 0 = passes-right a c o (omega arith) in
    let bc : passes b c o ≡ 1 = passes-left b c o hb hc sbc in
    omega arith

one-below : (a b c o : Point) → IsInside a b c o → o.y < a.y → o.y < b.y → c.y ≤ o.y → ups_at a b c o ≡ downs_at a b c o + 1
one-below a b c o inside ha hb hc =
    let sbc = inside.bc in
    let sca = inside.ca in
    let ab = passes-below a b o ha in
    let bc = passes-below b c o hb in
    let ba = passes-below b a o hb in
    let ac = passes-below a c o ha in
    let cb : passes c b o ≡ 0 = passes-right c b o (omega arith) in
    let ca : passes c a o ≡ 1 = passes-left c a o hc ha sca in
    omega arith

pub inside-once : (a b c o : Point) → IsCounterclockwise a b c → IsInside a b c o → ups_at a b c o ≡ downs_at a b c o + 1
inside-once a b c o left inside =
    let next = turned a b c o inside in
    let last = turned b c a o next in
    ⊎_elim
    (λ (ha : o.y < a.y). ⊎_elim
    (λ (hb : o.y < b.y). ⊎_elim
    (λ (hc : o.y < c.y). absurd (not-above a b c o inside ha (omega arith) (omega arith)))
    (λ (hc : c.y ≤ o.y). one-below a b c o inside ha hb hc)
    (cases_lt o.y c.y))
    (λ (hb : b.y ≤ o.y). ⊎_elim
    (λ (hc : o.y < c.y). let e = one-below c a b o last hc ha hb in omega arith)
    (λ (hc : c.y ≤ o.y). let e = one-above b c a o next hb hc ha in omega arith)
    (cases_lt o.y c.y))
    (cases_lt o.y b.y))
    (λ (ha : a.y ≤ o.y). ⊎_elim
    (λ (hb : o.y < b.y). ⊎_elim
    (λ (hc : o.y < c.y). let e = one-below b c a o next hb hc ha in omega arith)
    (λ (hc : c.y ≤ o.y). let e = one-above c a b o last hc ha hb in omega arith)
    (cases_lt o.y c.y))
    (λ (hb : b.y ≤ o.y). ⊎_elim
    (λ (hc : o.y < c.y). one-above a b c o inside ha hb hc)
    (λ (hc : c.y ≤ o.y). absurd (not-all-below a b c o left inside ha hb hc))
    (cases_lt o.y c.y))
    (cases_lt o.y b.y))
    (cases_lt o.y a.y)
