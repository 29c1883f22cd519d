-- Where a row meets the line of an edge: the columns that do not lie right of it.
use Rattle.std.proofs.Common.{◌≡◌, ℕ, ◌+◌, ◌-◌, ◌*◌, ◌/◌, ◌<◌, ◌≤◌, ◌↔◌, ap, arith, le-div_iff_mul-le, div-lt_iff_lt-mul}
use Rattle.mesh_defs.specs.declared.point.Point.{Point}
use Rattle.mesh_within.specs.Gap.{IsLeftAt}

scaled : (more less d x : ℕ) → more ≡ less + d → more * x ≡ less * x + d * x
scaled more less d x e = let f : more * x ≡ (less + d) * x = ap (λ k. k * x) e in omega arith

-- x times d is at most n where x is at most the quotient
within-quotient : (d n x : ℕ) → 0 < d → x ≤ n / d → d * x ≤ n
within-quotient d n x some le = let h : x * d ≤ n = (le-div_iff_mul-le some).0 le in omega arith

to-quotient : (d n x : ℕ) → 0 < d → d * x ≤ n → x ≤ n / d
to-quotient d n x some le = let h : x * d ≤ n = omega arith in (le-div_iff_mul-le some).1 h

-- the same with the quotient rounded up
over-quotient : (d n x : ℕ) → 0 < d → (n + (d - 1)) / d ≤ x → n ≤ d * x
over-quotient d n x some le =
    let less : (n + (d - 1)) / d < x + 1 = omega arith in
    let h : n + (d - 1) < (x + 1) * d = (div-lt_iff_lt-mul some).0 less in
    omega arith

from-quotient : (d n x : ℕ) → 0 < d → n ≤ d * x → (n + (d - 1)) / d ≤ x
from-quotient d n x some le =
    let more : n + (d - 1) < (x + 1) * d = omega arith in
    let h : (n + (d - 1)) / d < x + 1 = (div-lt_iff_lt-mul some).1 more in
    omega arith

-- left of an edge that goes up: the columns up to a quotient
pub left-up : (p q : Point) (x y h l : ℕ) → h ≡ p.x * q.y + q.x * y → l ≡ p.y * q.x + y * p.x → p.y < q.y → l ≤ h →
    IsLeftAt x y p q ↔ (x ≤ (h - l) / (q.y - p.y))
left-up p q x y h l he le up some =
    let d : ℕ = q.y - p.y in
    let split : q.y * x ≡ p.y * x + d * x = scaled q.y p.y d x (omega arith) in (
      λ left. to-quotient d (h - l) x (omega arith) (omega arith),
      λ within. let product : d * x ≤ h - l = within-quotient d (h - l) x (omega arith) within in omega arith,
    )

-- left of an edge that goes down: the columns from a quotient on
pub left-down : (p q : Point) (x y h l n : ℕ) → h ≡ p.x * q.y + q.x * y → l ≡ p.y * q.x + y * p.x → n ≡ l - h → q.y < p.y →
    IsLeftAt x y p q ↔ ((n + (p.y - q.y - 1)) / (p.y - q.y) ≤ x)
left-down p q x y h l n he le ne down =
    let d : ℕ = p.y - q.y in
    let split : p.y * x ≡ q.y * x + d * x = scaled p.y q.y d x (omega arith) in (
      λ left. from-quotient d n x (omega arith) (omega arith),
      λ within. let product : n ≤ d * x = over-quotient d n x (omega arith) within in omega arith,
    )
