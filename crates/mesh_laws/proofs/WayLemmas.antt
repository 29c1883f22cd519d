-- Runs of grid points: from a point so many steps in one of the eight ways. The edges of triangles are runs,
-- and on a run each fact of lines and sides is linear.
use Rattle.std.proofs.Common.{◌≡◌, ℕ, suc, ◌+◌, ◌*◌, ◌-◌, ◌<◌, ◌≤◌, ◌⊎◌, inl, inr, true, ◌&&◌, ap, subst, arith, ⊎_elim}
use Rattle.std.proofs.Common.{ltb-true, lt-ltb, mul-le-mul_left}
use Rattle.std.proofs.lemmas.Bool.{cases_lt, and_parts, and_from}
use Rattle.mesh_defs.specs.declared.point.Point.{Point}
use Rattle.mesh_defs.specs.declared.point.Corners.{Corners}
use Rattle.mesh_defs.specs.Triangle.{midpoint}
use Rattle.mesh_defs.specs.Tiling.{is_left, is_within, IsOnLine, IsStrictlyBetween, IsBetween}
use Rattle.bintree_laws.proofs.LatticeLemmas.{same_point}
use Rattle.bintree_laws.proofs.MateLemmas.{cancel}

-- the eight ways, counterclockwise
pub data Way : Type 0 where
  east : Way
  north_east : Way
  north : Way
  north_west : Way
  west : Way
  south_west : Way
  south : Way
  south_east : Way

-- the point with these coordinates
abbrev pub point : ℕ → ℕ → Point
point x y = record { x = x; y = y }

-- q is k steps this way from p
abbrev pub IsRun : Way → ℕ → Point → Point → Type 0
IsRun east k p q = (q.x ≡ p.x + k) × (q.y ≡ p.y)
IsRun north_east k p q = (q.x ≡ p.x + k) × (q.y ≡ p.y + k)
IsRun north k p q = (q.x ≡ p.x) × (q.y ≡ p.y + k)
IsRun north_west k p q = (p.x ≡ q.x + k) × (q.y ≡ p.y + k)
IsRun west k p q = (p.x ≡ q.x + k) × (q.y ≡ p.y)
IsRun south_west k p q = (p.x ≡ q.x + k) × (p.y ≡ q.y + k)
IsRun south k p q = (q.x ≡ p.x) × (p.y ≡ q.y + k)
IsRun south_east k p q = (q.x ≡ p.x + k) × (p.y ≡ q.y + k)

-- numbers

-- a common factor goes
pub lt-scaled : (k a b : ℕ) → k * a < k * b → a < b
lt-scaled k a b h = ⊎_elim
    (λ below. below)
    (λ above. let le : k * b ≤ k * a = mul-le-mul_left k above in absurd (omega arith))
    (cases_lt a b)

-- and comes
pub scaled-lt : (k a b : ℕ) → 0 < k → a < b → k * a < k * b
scaled-lt k a b some h = let le : k * suc a ≤ k * b = mul-le-mul_left k h in omega arith

-- sides of runs

-- the two sides of the line that goes this way from p, at (x, y) in quarters of a grid step: left of the line the
-- first is less, on the line they are equal
abbrev pub sides : Way → Point → ℕ → ℕ → ℕ × ℕ
sides east p x y = (4 * p.y, y)
sides north_east p x y = (4 * p.y + x, 4 * p.x + y)
sides north p x y = (x, 4 * p.x)
sides north_west p x y = (x + y, 4 * p.x + 4 * p.y)
sides west p x y = (y, 4 * p.y)
sides south_west p x y = (4 * p.x + y, 4 * p.y + x)
sides south p x y = (4 * p.x, x)
sides south_east p x y = (4 * p.x + 4 * p.y, x + y)

-- (x, y) lies left of the line
abbrev pub IsBeside : Way → Point → ℕ → ℕ → Type 0
IsBeside w p x y = (sides w p x y).0 < (sides w p x y).1

-- the test of one edge, as an order
abbrev pub IsLeft : ℕ → ℕ → Point → Point → Type 0
IsLeft x y p q = 4 * p.y * q.x + q.y * x + y * p.x < 4 * p.x * q.y + q.x * y + x * p.y

-- The terms of that test differ by the two sides, k times. A clause with `_` in the place of the way stands for all
-- ways that no clause above it names, and is checked for each.
sides-scaled : (w : Way) (k x y : ℕ) (p q : Point) → IsRun w k p q →
    4 * p.y * q.x + q.y * x + y * p.x + k * (sides w p x y).1
    ≡ 4 * p.x * q.y + q.x * y + x * p.y + k * (sides w p x y).0
sides-scaled east k x y p q r =
    let f0 = ap (λ z. z * y) r.0 in let f1 = ap (λ z. z * p.y) r.0 in
    let f2 = ap (λ z. z * x) r.1 in let f3 = ap (λ z. z * p.x) r.1 in omega arith
sides-scaled _ k x y p q r =
    let f0 = ap (λ z. z * y) r.0 in let f1 = ap (λ z. z * p.y) r.0 in
    let f2 = ap (λ z. z * x) r.1 in let f3 = ap (λ z. z * p.x) r.1 in omega arith

-- left of an edge is beside its run
pub IsBeside-left : (w : Way) (k x y : ℕ) (p q : Point) → IsRun w k p q → IsLeft x y p q → IsBeside w p x y
IsBeside-left w k x y p q r h =
    let e = sides-scaled w k x y p q r in lt-scaled k (sides w p x y).0 (sides w p x y).1 (omega arith)

-- beside a run is left of an edge
pub IsLeft-beside : (w : Way) (k x y : ℕ) (p q : Point) → 0 < k → IsRun w k p q → IsBeside w p x y → IsLeft x y p q
IsLeft-beside w k x y p q some r h =
    let e = sides-scaled w k x y p q r in
    let s = scaled-lt k (sides w p x y).0 (sides w p x y).1 some h in omega arith

-- the tests of the three edges
pub record IsBounded (x y : ℕ) (c : Corners) : Type 0 where
  pub leg : IsLeft x y c.apex c.v0
  pub base : IsLeft x y c.v0 c.v1
  pub other : IsLeft x y c.v1 c.apex

-- strictly inside a triangle is left of its three edges
pub IsBounded-from : (x y : ℕ) (c : Corners) → is_within x y c ≡ true → IsBounded x y c
IsBounded-from x y c h =
    let first = and_parts (is_left x y c.apex c.v0) (is_left x y c.v0 c.v1 && is_left x y c.v1 c.apex) h in
    let second = and_parts (is_left x y c.v0 c.v1) (is_left x y c.v1 c.apex) first.1 in
    record { leg = ltb-true _ _ first.0; base = ltb-true _ _ second.0; other = ltb-true _ _ second.1 }

-- and left of the three is inside
pub IsBounded-to : (x y : ℕ) (c : Corners) → IsBounded x y c → is_within x y c ≡ true
IsBounded-to x y c w =
    and_from (is_left x y c.apex c.v0) (is_left x y c.v0 c.v1 && is_left x y c.v1 c.apex) (lt-ltb _ _ w.leg)
    (and_from (is_left x y c.v0 c.v1) (is_left x y c.v1 c.apex) (lt-ltb _ _ w.base) (lt-ltb _ _ w.other))

-- points on runs

-- r lies on the run of k steps from p, at neither end
abbrev pub IsInside : Way → ℕ → Point → Point → Type 0
IsInside w k p r = (j : ℕ) × (0 < j) × (j < k) × IsRun w j p r

-- a point on the line has equal sides
sides-on_line : (w : Way) (k : ℕ) (p q r : Point) → 0 < k → IsRun w k p q → IsOnLine p q r →
    (sides w p (4 * r.x) (4 * r.y)).0 ≡ (sides w p (4 * r.x) (4 * r.y)).1
sides-on_line w k p q r some run line =
    let e = sides-scaled w k (4 * r.x) (4 * r.y) p q run in
    cancel k (sides w p (4 * r.x) (4 * r.y)).0 (sides w p (4 * r.x) (4 * r.y)).1 some (omega arith)

-- strictly between the ends of a run is inside the run
pub IsInside-between : (w : Way) (k : ℕ) (p q r : Point) → 0 < k → IsRun w k p q →
    IsStrictlyBetween p q r → IsInside w k p r
IsInside-between w k p q r some run b = inside w k p q r run (sides-on_line w k p q r some run b.on_line) b.between
  where
    inside : (w : Way) (k : ℕ) (p q r : Point) → IsRun w k p q →
        (sides w p (4 * r.x) (4 * r.y)).0 ≡ (sides w p (4 * r.x) (4 * r.y)).1 →
        IsBetween p.x q.x r.x ⊎ IsBetween p.y q.y r.y → IsInside w k p r
    inside east k p q r run e between = (r.x - p.x, omega arith, omega arith, (omega arith, omega arith))
    inside north_east k p q r run e between = (r.x - p.x, omega arith, omega arith, (omega arith, omega arith))
    inside north k p q r run e between = (r.y - p.y, omega arith, omega arith, (omega arith, omega arith))
    inside north_west k p q r run e between = (p.x - r.x, omega arith, omega arith, (omega arith, omega arith))
    inside west k p q r run e between = (p.x - r.x, omega arith, omega arith, (omega arith, omega arith))
    inside south_west k p q r run e between = (p.x - r.x, omega arith, omega arith, (omega arith, omega arith))
    inside south k p q r run e between = (p.y - r.y, omega arith, omega arith, (omega arith, omega arith))
    inside south_east k p q r run e between = (r.x - p.x, omega arith, omega arith, (omega arith, omega arith))

-- the point after some steps of the run has equal sides
sides-run : (w : Way) (j : ℕ) (p r : Point) → IsRun w j p r →
    (sides w p (4 * r.x) (4 * r.y)).0 ≡ (sides w p (4 * r.x) (4 * r.y)).1
sides-run east j p r step = omega arith
sides-run _ j p r step = omega arith

-- and inside the run is strictly between its ends
pub IsStrictlyBetween-inside : (w : Way) (k : ℕ) (p q r : Point) → IsRun w k p q →
    IsInside w k p r → IsStrictlyBetween p q r
IsStrictlyBetween-inside w k p q r run i =
    let e = sides-scaled w k (4 * r.x) (4 * r.y) p q run in
    let f = ap (λ z. k * z) (sides-run w i.0 p r i.3) in
    record { on_line = omega arith; between = between w k i.0 p q r run i.1 i.2 i.3 }
  where
    between : (w : Way) (k j : ℕ) (p q r : Point) → IsRun w k p q → 0 < j → j < k → IsRun w j p r →
        IsBetween p.x q.x r.x ⊎ IsBetween p.y q.y r.y
    between east k j p q r run some less step = grind arith
    between _ k j p q r run some less step = grind arith

-- one end of a run is determined by the other
pub IsRun-same : (w : Way) (k : ℕ) (p q r : Point) → IsRun w k p q → IsRun w k p r → q ≡ r
IsRun-same east k p q r h i = same_point q.x q.y r.x r.y (omega arith) (omega arith)
IsRun-same _ k p q r h i = same_point q.x q.y r.x r.y (omega arith) (omega arith)

-- the midpoint of an even run
pub IsRun-first_half : (w : Way) (k : ℕ) (p q : Point) → IsRun w (2 * k) p q → IsRun w k p (midpoint p q)
IsRun-first_half east k p q r = (omega arith, omega arith)
IsRun-first_half _ k p q r = (omega arith, omega arith)

-- and from there to the end
pub IsRun-second_half : (w : Way) (k : ℕ) (p q : Point) → IsRun w (2 * k) p q → IsRun w k (midpoint p q) q
IsRun-second_half east k p q r = (omega arith, omega arith)
IsRun-second_half _ k p q r = (omega arith, omega arith)

-- a run after a run
pub IsRun-append : (w : Way) (j k : ℕ) (p q r : Point) → IsRun w j p q → IsRun w k q r → IsRun w (j + k) p r
IsRun-append east j k p q r h i = (omega arith, omega arith)
IsRun-append _ j k p q r h i = (omega arith, omega arith)

-- a run less a prefix of it
pub IsRun-rest : (w : Way) (j k : ℕ) (p q r : Point) → IsRun w j p q → IsRun w (j + k) p r → IsRun w k q r
IsRun-rest east j k p q r h i = (omega arith, omega arith)
IsRun-rest _ j k p q r h i = (omega arith, omega arith)

-- the two halves of a run: a point inside the whole is its midpoint or inside one of the halves
pub inside_halves : (w : Way) (k : ℕ) (p m q r : Point) → IsRun w k p m → IsRun w k m q → IsInside w (2 * k) p r →
    (m ≡ r) ⊎ (IsInside w k p r ⊎ IsInside w k m r)
inside_halves w k p m q r first second i = ⊎_elim
    (λ before. inr (inl (i.0, i.1, before, i.3)))
    (λ after. ⊎_elim
    (λ beyond. let rest : i.0 ≡ k + (i.0 - k) = omega arith in
    inr (inr (
      i.0 - k,
      omega arith,
      (let h = i.2 in omega arith),
      IsRun-rest w k (i.0 - k) p m r first (subst (λ j. IsRun w j p r) rest i.3),
    )))
    (λ upto. let same : i.0 ≡ k = omega arith in inl (IsRun-same w k p m r first (subst (λ j. IsRun w j p r) same i.3)))
    (cases_lt k i.0))
    (cases_lt i.0 k)

-- inside the first half is inside the whole
pub IsInside-first_half : (w : Way) (k : ℕ) (p r : Point) → IsInside w k p r → IsInside w (2 * k) p r
IsInside-first_half w k p r i = (i.0, i.1, (let h = i.2 in omega arith), i.3)

-- and so is inside the second half
pub IsInside-second_half : (w : Way) (k : ℕ) (p m r : Point) → IsRun w k p m → IsInside w k m r → IsInside w (2 * k) p r
IsInside-second_half w k p m r first i =
    (k + i.0, (let h = i.1 in omega arith), (let h = i.2 in omega arith), IsRun-append w k i.0 p m r first i.3)

-- the midpoint is inside
pub IsInside-middle : (w : Way) (k : ℕ) (p m : Point) → 0 < k → IsRun w k p m → IsInside w (2 * k) p m
IsInside-middle w k p m some first = (k, some, omega arith, first)

-- a run of one step has nothing inside
pub not_inside_one : (w : Way) (p r : Point) → IsInside w 1 p r → ⊥
not_inside_one w p r i = let h = i.1 in let g = i.2 in absurd (omega arith)

-- strictly between, in the other direction
pub IsStrictlyBetween-reversed : (p q r : Point) → IsStrictlyBetween p q r → IsStrictlyBetween q p r
IsStrictlyBetween-reversed p q r b =
    let line = b.on_line in
    record { on_line = omega arith; between = ⊎_elim (λ x. inl (turned x)) (λ y. inr (turned y)) b.between }
  where
    turned : {i j k : ℕ} → IsBetween i j k → IsBetween j i k
    turned (inl h) = inr h
    turned (inr h) = inl h
