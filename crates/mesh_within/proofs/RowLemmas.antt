-- The rows of a triangle: what it holds lies between its lowest and its highest corner.
use Rattle.std.proofs.Common.{◌≡◌, ℕ, ◌+◌, ◌-◌, ◌*◌, ◌<◌, ◌≤◌, ap, arith, ⊎_elim, mul-le-mul_left}
use Rattle.std.proofs.lemmas.Bool.{cases_lt}
use Rattle.mesh_defs.specs.declared.point.Point.{Point}
use Rattle.mesh_cover.specs.Cover.{high_across, low_across, IsCounterclockwise, IsHeld}

le-of-product : (k i j : ℕ) → 0 < k → k * i ≤ k * j → i ≤ j
le-of-product k i j some le = ⊎_elim
    (λ (less : j < i). let h : k * (j + 1) ≤ k * i = mul-le-mul_left k (omega arith) in absurd (omega arith))
    (λ (fine : i ≤ j). fine)
    (cases_lt j i)

scaled : (more less d y : ℕ) → more ≡ less + d → more * y ≡ less * y + d * y
scaled more less d y e = let f : more * y ≡ (less + d) * y = ap (λ k. k * y) e in omega arith

weighed-most : (u v w a b c o high : ℕ) → u * a + v * b + w * c ≡ (u + v + w) * o → 0 < u + v + w →
    a ≤ high → b ≤ high → c ≤ high → o ≤ high
weighed-most u v w a b c o high sum some ha hb hc =
    let first : u * a ≤ u * high = mul-le-mul_left u ha in
    let second : v * b ≤ v * high = mul-le-mul_left v hb in
    let third : w * c ≤ w * high = mul-le-mul_left w hc in
    le-of-product (u + v + w) o high some (omega arith)

weighed-least : (u v w a b c o low : ℕ) → u * a + v * b + w * c ≡ (u + v + w) * o → 0 < u + v + w →
    low ≤ a → low ≤ b → low ≤ c → low ≤ o
weighed-least u v w a b c o low sum some ha hb hc =
    let first : u * low ≤ u * a = mul-le-mul_left u ha in
    let second : v * low ≤ v * b = mul-le-mul_left v hb in
    let third : w * low ≤ w * c = mul-le-mul_left w hc in
    le-of-product (u + v + w) low o some (omega arith)

-- areas as differences weigh the rows of the corners
weighed : (h1 l1 h2 l2 h3 l3 u v w ya yb yc yo : ℕ) →
    h1 * ya + h2 * yb + h3 * yc + (l1 + l2 + l3) * yo ≡ l1 * ya + l2 * yb + l3 * yc + (h1 + h2 + h3) * yo →
    h1 ≡ l1 + u → h2 ≡ l2 + v → h3 ≡ l3 + w → u * ya + v * yb + w * yc ≡ (u + v + w) * yo
weighed h1 l1 h2 l2 h3 l3 u v w ya yb yc yo sum ue ve we =
    let ua = scaled h1 l1 u ya ue in
    let uo = scaled h1 l1 u yo ue in
    let vb = scaled h2 l2 v yb ve in
    let vo = scaled h2 l2 v yo ve in
    let wc = scaled h3 l3 w yc we in
    let wo = scaled h3 l3 w yo we in
    omega arith

balance : (a b c o : Point) →
    high_across o b c * a.y + high_across o c a * b.y + high_across o a b * c.y
    + (low_across o b c + low_across o c a + low_across o a b) * o.y
    ≡ low_across o b c * a.y + low_across o c a * b.y + low_across o a b * c.y
    + (high_across o b c + high_across o c a + high_across o a b) * o.y
balance a b c o = omega arith

areas-sum : (a b c o : Point) →
    high_across o b c + high_across o c a + high_across o a b + low_across a b c
    ≡ low_across o b c + low_across o c a + low_across o a b + high_across a b c
areas-sum a b c o = omega arith

more : (h l : ℕ) → l ≤ h → h ≡ l + (h - l)
more h l le = omega arith

some-area : (h1 l1 h2 l2 h3 l3 h l : ℕ) → h1 + h2 + h3 + l ≡ l1 + l2 + l3 + h → l < h → l1 ≤ h1 → l2 ≤ h2 → l3 ≤ h3 →
    0 < (h1 - l1) + (h2 - l2) + (h3 - l3)
some-area h1 l1 h2 l2 h3 l3 h l sum left a b c = omega arith

pub rows-between : (a b c o : Point) (low high : ℕ) → IsCounterclockwise a b c → IsHeld a b c o →
    low ≤ a.y → low ≤ b.y → low ≤ c.y → a.y ≤ high → b.y ≤ high → c.y ≤ high → (low ≤ o.y) × (o.y ≤ high)
rows-between a b c o low high left held la lb lc ha hb hc =
    let sum = weighed (high_across o b c) (low_across o b c) (high_across o c a) (low_across o c a) (high_across o a b) (low_across o a b)
    (high_across o b c - low_across o b c) (high_across o c a - low_across o c a) (high_across o a b - low_across o a b)
    a.y b.y c.y o.y (balance a b c o)
    (more (high_across o b c) (low_across o b c) held.bc) (more (high_across o c a) (low_across o c a) held.ca)
    (more (high_across o a b) (low_across o a b) held.ab) in
    let some = some-area (high_across o b c) (low_across o b c) (high_across o c a) (low_across o c a) (high_across o a b) (low_across o a b)
    (high_across a b c) (low_across a b c) (areas-sum a b c o) left held.bc held.ca held.ab in (
      weighed-least (high_across o b c - low_across o b c) (high_across o c a - low_across o c a) (high_across o a b - low_across o a b)
          a.y b.y c.y o.y low sum some la lb lc,
      weighed-most (high_across o b c - low_across o b c) (high_across o c a - low_across o c a) (high_across o a b - low_across o a b)
          a.y b.y c.y o.y high sum some ha hb hc,
    )
