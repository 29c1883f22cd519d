-- Each edge of a triangle is upright or level or goes a column a row, and which points of a row lie left of it.
use Rattle.std.proofs.Common.{◌≡◌, ◌≢◌, ℕ, zero, suc, ◌+◌, ◌-◌, ◌*◌, ◌/◌, ◌%◌, ◌<◌, ◌≤◌, ◌⊎◌, ◌↔◌, inl, inr, true, sym, ap}
use Rattle.std.proofs.Common.{refl, ap₂, subst, arith, ⊎_elim, mul-le-mul_left}
use Rattle.std.proofs.Math.Nat.{le_of_mul-le-mul_left}
use Rattle.std.proofs.lemmas.Bool.{cases_lt, leb-true, le-leb, and_parts, and_from}
use Rattle.mesh_defs.specs.declared.point.Point.{Point}
use Rattle.mesh_defs.specs.declared.point.Corners.{Corners}
use Rattle.mesh_defs.specs.Triangle.{level_of, base_triangle, child, corners_of}
use Rattle.mesh_defs.specs.Thickness.{apart}
use Rattle.mesh_defs.specs.BoundingBox.{point, is_left_or_on, is_in_closed}
use Rattle.bintree_laws.proofs.LatticeLemmas.{grandchild, lattice, scaled, step_of, corners_of-lattice}
use Rattle.mesh_measure.specs.declared.columns.Columns.{Columns}
use Rattle.mesh_measure.specs.Columns.{IsColumn}
use Rattle.mesh_measure.specs.Edges.{IsStraight, HasStraightEdges}

-- ---- the directions of edges

-- from p to q is upright, level, or along a diagonal
abbrev AreAligned : Point → Point → Type 0
AreAligned p q =
    (p.x ≡ q.x) ⊎ ((p.y ≡ q.y) ⊎ ((p.x + p.y ≡ q.x + q.y) ⊎ (p.x + q.y ≡ q.x + p.y)))

-- the right leg is the left one, turned by a quarter
record IsTurned (c : Corners) : Type 0 where
  pub x : c.v1.x + c.v0.y ≡ c.apex.x + c.apex.y
  pub y : c.v1.y + c.apex.x ≡ c.v0.x + c.apex.y
  pub left : AreAligned c.apex c.v0
  pub right : AreAligned c.apex c.v1

IsTurned-base : (m half : ℕ) → IsTurned (base_triangle m half)
IsTurned-base m zero = record { x = omega arith; y = omega arith; left = inr (inl refl); right = inl refl }
IsTurned-base m (suc _) = record { x = omega arith; y = omega arith; left = inr (inl refl); right = inl refl }

IsTurned-quarter : (half side : ℕ) → IsTurned (child side (base_triangle 2 half))
IsTurned-quarter zero zero =
    record { x = refl; y = refl; left = inr (inr (inr refl)); right = inr (inr (inl refl)) }
IsTurned-quarter zero (suc _) =
    record { x = refl; y = refl; left = inr (inr (inl refl)); right = inr (inr (inr refl)) }
IsTurned-quarter (suc _) zero =
    record { x = refl; y = refl; left = inr (inr (inr refl)); right = inr (inr (inl refl)) }
IsTurned-quarter (suc _) (suc _) =
    record { x = refl; y = refl; left = inr (inr (inl refl)); right = inr (inr (inr refl)) }

-- two points as far apart as two others, along each axis
AreAligned-moved : (p q r s : Point) → r.x + q.x ≡ s.x + p.x → r.y + q.y ≡ s.y + p.y → AreAligned p q → AreAligned r s
AreAligned-moved p q r s x y h = ⊎_elim
    (λ (one : p.x ≡ q.x). inl (omega arith))
    (λ rest. inr (⊎_elim
    (λ (two : p.y ≡ q.y). inl (omega arith))
    (λ diagonal. inr (⊎_elim
    (λ (three : p.x + p.y ≡ q.x + q.y). inl (omega arith))
    (λ (four : p.x + q.y ≡ q.x + p.y). inr (omega arith))
    diagonal))
    rest))
    h

-- or the other way round
AreAligned-turned : (p q r s : Point) → r.x + p.x ≡ s.x + q.x → r.y + p.y ≡ s.y + q.y → AreAligned p q → AreAligned r s
AreAligned-turned p q r s x y h = ⊎_elim
    (λ (one : p.x ≡ q.x). inl (omega arith))
    (λ rest. inr (⊎_elim
    (λ (two : p.y ≡ q.y). inl (omega arith))
    (λ diagonal. inr (⊎_elim
    (λ (three : p.x + p.y ≡ q.x + q.y). inl (omega arith))
    (λ (four : p.x + q.y ≡ q.x + p.y). inr (omega arith))
    diagonal))
    rest))
    h

IsTurned-grandchild : (which : ℕ) (c : Corners) → IsTurned c → IsTurned (grandchild which c)
IsTurned-grandchild zero c h = let e = h.x in let f = h.y in record {
  x = omega arith;
  y = omega arith;
  left = AreAligned-moved c.apex c.v1 _ _ (omega arith) (omega arith) h.right;
  right = AreAligned-turned c.apex c.v0 _ _ (omega arith) (omega arith) h.left;
}
IsTurned-grandchild (suc zero) c h = let e = h.x in let f = h.y in record {
  x = omega arith;
  y = omega arith;
  left = AreAligned-moved c.apex c.v0 _ _ (omega arith) (omega arith) h.left;
  right = AreAligned-moved c.apex c.v1 _ _ (omega arith) (omega arith) h.right;
}
IsTurned-grandchild (suc (suc zero)) c h = let e = h.x in let f = h.y in record {
  x = omega arith;
  y = omega arith;
  left = AreAligned-moved c.apex c.v0 _ _ (omega arith) (omega arith) h.left;
  right = AreAligned-moved c.apex c.v1 _ _ (omega arith) (omega arith) h.right;
}
IsTurned-grandchild (suc (suc (suc _))) c h = let e = h.x in let f = h.y in record {
  x = omega arith;
  y = omega arith;
  left = AreAligned-turned c.apex c.v1 _ _ (omega arith) (omega arith) h.right;
  right = AreAligned-moved c.apex c.v0 _ _ (omega arith) (omega arith) h.left;
}

IsTurned-lattice : (level a : ℕ) → IsTurned (lattice level a)
IsTurned-lattice zero a = IsTurned-base 1 (a % 2)
IsTurned-lattice (suc zero) a = IsTurned-quarter (a / 2 % 2) (a % 2)
IsTurned-lattice (suc (suc level)) a =
    IsTurned-grandchild (a % 4) (lattice level (a / 4)) (IsTurned-lattice level (a / 4))

AreAligned-scaled : (step : ℕ) (p q : Point) → AreAligned p q →
    AreAligned (point (step * p.x) (step * p.y)) (point (step * q.x) (step * q.y))
AreAligned-scaled step p q h = ⊎_elim
    (λ (one : p.x ≡ q.x). inl (ap (λ k. step * k) one))
    (λ rest. inr (⊎_elim
    (λ (two : p.y ≡ q.y). inl (ap (λ k. step * k) two))
    (λ diagonal. inr (⊎_elim
    (λ (three : p.x + p.y ≡ q.x + q.y).
    let e : step * (p.x + p.y) ≡ step * (q.x + q.y) = ap (λ k. step * k) three in inl (omega arith))
    (λ (four : p.x + q.y ≡ q.x + p.y).
    let e : step * (p.x + q.y) ≡ step * (q.x + p.y) = ap (λ k. step * k) four in inr (omega arith))
    diagonal))
    rest))
    h

IsTurned-scaled : (step : ℕ) (c : Corners) → IsTurned c → IsTurned (scaled step c)
IsTurned-scaled step c h =
    let e : step * (c.v1.x + c.v0.y) ≡ step * (c.apex.x + c.apex.y) = ap (λ k. step * k) h.x in
    let f : step * (c.v1.y + c.apex.x) ≡ step * (c.v0.x + c.apex.y) = ap (λ k. step * k) h.y in
    record {
      x = omega arith;
      y = omega arith;
      left = AreAligned-scaled step c.apex c.v0 h.left;
      right = AreAligned-scaled step c.apex c.v1 h.right;
    }

IsStraight-aligned : (p q : Point) → AreAligned p q → IsStraight p q × IsStraight q p
IsStraight-aligned p q h = ⊎_elim
    (λ (one : p.x ≡ q.x). (inl one, inl (sym one)))
    (λ rest. ⊎_elim
    (λ (two : p.y ≡ q.y). (inr (inl two), inr (inl (sym two))))
    (λ diagonal. ⊎_elim
    (λ (three : p.x + p.y ≡ q.x + q.y). (inr (inr (omega arith)), inr (inr (omega arith))))
    (λ (four : p.x + q.y ≡ q.x + p.y). (inr (inr (omega arith)), inr (inr (omega arith))))
    diagonal)
    rest)
    h

-- a base between two legs along the axes lies along a diagonal, and the other way round
IsStraight-base : (c : Corners) → IsTurned c → IsStraight c.v0 c.v1
IsStraight-base c h = let e = h.x in let f = h.y in ⊎_elim
    (λ (one : c.apex.x ≡ c.v0.x). inr (inr (omega arith)))
    (λ rest. ⊎_elim
    (λ (two : c.apex.y ≡ c.v0.y). inr (inr (omega arith)))
    (λ diagonal. ⊎_elim
    (λ (three : c.apex.x + c.apex.y ≡ c.v0.x + c.v0.y). inl (omega arith))
    (λ (four : c.apex.x + c.v0.y ≡ c.v0.x + c.apex.y). inr (inl (omega arith)))
    diagonal)
    rest)
    h.left

-- so the edges of each triangle are straight
pub HasStraightEdges-corners_of : (n a : ℕ) → level_of a ≤ 2 * n → HasStraightEdges (corners_of n a)
HasStraightEdges-corners_of n a fits =
    let c : Corners = scaled (step_of n (level_of a)) (lattice (level_of a) a) in
    let h : IsTurned c = IsTurned-scaled (step_of n (level_of a)) (lattice (level_of a) a)
    (IsTurned-lattice (level_of a) a) in
    subst HasStraightEdges (sym (corners_of-lattice n a fits))
    record {
      left = (IsStraight-aligned c.apex c.v0 h.left).0;
      base = IsStraight-base c h;
      right = (IsStraight-aligned c.apex c.v1 h.right).1;
    }

-- ---- the columns beside an edge

-- an edge that is neither upright nor level goes a column a row
diagonal : (p q : Point) → IsStraight p q → p.x ≢ q.x → p.y ≢ q.y → apart p.x q.x ≡ apart p.y q.y
diagonal p q h wide high = ⊎_elim
    (λ upright. absurd (wide upright))
    (λ rest. ⊎_elim (λ level. absurd (high level)) (λ same. same) rest)
    h

-- where both sums of the test differ by d times two numbers
left-iff : (p q : Point) (x y d i j : ℕ) → 0 < d →
    p.y * q.x + q.y * x + y * p.x + d * j ≡ p.x * q.y + q.x * y + x * p.y + d * i →
    (i ≤ j) ↔ (is_left_or_on (point x y) p q ≡ true)
left-iff p q x y d i j some e =
    let low : ℕ = p.y * q.x + q.y * x + y * p.x in
    let high : ℕ = p.x * q.y + q.x * y + x * p.y in (
      λ le. let more : d * i ≤ d * j = mul-le-mul_left d le in le-leb low high (omega arith),
      λ t.
          let le : low ≤ high = leb-true low high t in
          let less : d * i ≤ d * j = omega arith in
          le_of_mul-le-mul_left {k = d} less some,
    )

-- an edge that goes down: upright, to the right, to the left
pub left-down : (p q : Point) (x y : ℕ) → q.y < p.y → p.x ≡ q.x → (p.x ≤ x) ↔ (is_left_or_on (point x y) p q ≡ true)
left-down p q x y down upright =
    let d : ℕ = p.y - q.y in
    let rise : p.y ≡ q.y + d = omega arith in
    left-iff p q x y d p.x x (omega arith)
    (omega (
      arith,
      ap₂ (λ i j. i * j) rise (sym upright),
      ap (λ k. x * k) rise,
      ap (λ k. k * q.y) upright,
      ap (λ k. k * y) upright,
    ))

pub left-down_right : (p q : Point) (x y : ℕ) → IsStraight p q → q.y < p.y → p.x < q.x →
    (p.x + p.y ≤ x + y) ↔ (is_left_or_on (point x y) p q ≡ true)
left-down_right p q x y h down right =
    let same = diagonal p q h (λ e. omega arith) (λ e. omega arith) in
    let d : ℕ = p.y - q.y in
    let rise : p.y ≡ q.y + d = omega arith in
    let run : q.x ≡ p.x + d = omega arith in
    left-iff p q x y d (p.x + p.y) (x + y) (omega arith)
    (omega (
      arith,
      ap₂ (λ i j. i * j) rise run,
      ap (λ k. x * k) rise,
      ap (λ k. k * y) run,
      ap (λ k. d * k) rise,
    ))

pub left-down_left : (p q : Point) (x y : ℕ) → IsStraight p q → q.y < p.y → q.x < p.x →
    (p.x + y ≤ x + p.y) ↔ (is_left_or_on (point x y) p q ≡ true)
left-down_left p q x y h down left =
    let same = diagonal p q h (λ e. omega arith) (λ e. omega arith) in
    let d : ℕ = p.y - q.y in
    let rise : p.y ≡ q.y + d = omega arith in
    let run : p.x ≡ q.x + d = omega arith in
    left-iff p q x y d (p.x + y) (x + p.y) (omega arith)
    (omega (
      arith,
      ap (λ k. k * q.x) rise,
      ap (λ k. y * k) run,
      ap (λ k. k * q.y) run,
      ap (λ k. x * k) rise,
      ap (λ k. d * k) run,
      ap (λ k. d * k) rise,
    ))

-- an edge that goes up: upright, to the right, to the left
pub left-up : (p q : Point) (x y : ℕ) → p.y < q.y → p.x ≡ q.x → (x ≤ p.x) ↔ (is_left_or_on (point x y) p q ≡ true)
left-up p q x y up upright =
    let d : ℕ = q.y - p.y in
    let rise : q.y ≡ p.y + d = omega arith in
    left-iff p q x y d x p.x (omega arith)
    (omega (
      arith,
      ap (λ k. p.y * k) upright,
      ap (λ k. k * x) rise,
      ap (λ k. p.x * k) rise,
      ap (λ k. k * y) upright,
    ))

pub left-up_right : (p q : Point) (x y : ℕ) → IsStraight p q → p.y < q.y → p.x < q.x →
    (x + p.y ≤ p.x + y) ↔ (is_left_or_on (point x y) p q ≡ true)
left-up_right p q x y h up right =
    let same = diagonal p q h (λ e. omega arith) (λ e. omega arith) in
    let d : ℕ = q.y - p.y in
    let rise : q.y ≡ p.y + d = omega arith in
    let run : q.x ≡ p.x + d = omega arith in
    left-iff p q x y d (x + p.y) (p.x + y) (omega arith)
    (omega (
      arith,
      ap (λ k. p.y * k) run,
      ap (λ k. k * x) rise,
      ap (λ k. p.x * k) rise,
      ap (λ k. k * y) run,
    ))

pub left-up_left : (p q : Point) (x y : ℕ) → IsStraight p q → p.y < q.y → q.x < p.x →
    (x + y ≤ p.x + p.y) ↔ (is_left_or_on (point x y) p q ≡ true)
left-up_left p q x y h up left =
    let same = diagonal p q h (λ e. omega arith) (λ e. omega arith) in
    let d : ℕ = q.y - p.y in
    let rise : q.y ≡ p.y + d = omega arith in
    let run : p.x ≡ q.x + d = omega arith in
    left-iff p q x y d (x + y) (p.x + p.y) (omega arith)
    (omega (
      arith,
      ap (λ k. k * x) rise,
      ap (λ k. y * k) run,
      ap₂ (λ i j. i * j) run rise,
      ap (λ k. p.y * k) run,
      ap (λ k. d * k) run,
    ))

-- a level edge: the row lies on the outer side of it, or not
pub left-level : (p q : Point) (x y : ℕ) → p.y ≡ q.y → ((p.x < q.x) × (y < p.y)) ⊎ ((q.x < p.x) × (p.y < y)) →
    is_left_or_on (point x y) p q ≡ true → ⊥
left-level p q x y level outer t =
    let le = leb-true (p.y * q.x + q.y * x + y * p.x) (p.x * q.y + q.x * y + x * p.y) t in ⊎_elim
    (λ (right : (p.x < q.x) × (y < p.y)).
    let d : ℕ = q.x - p.x in
    let e : ℕ = p.y - y in
    let run : q.x ≡ p.x + d = omega (arith, right.0) in
    let rise : p.y ≡ y + e = omega (arith, right.1) in
    let one : 1 ≤ e = omega (arith, right.1) in
    let some : d * 1 ≤ d * e = mul-le-mul_left d one in
    let wide : 1 ≤ d = omega (arith, right.0) in
    omega (
      arith,
      ap (λ k. p.y * k) run,
      ap (λ k. k * x) level,
      ap (λ k. p.x * k) level,
      ap (λ k. k * y) run,
      ap (λ k. d * k) rise,
    ))
    (λ (left : (q.x < p.x) × (p.y < y)).
    let d : ℕ = p.x - q.x in
    let e : ℕ = y - p.y in
    let run : p.x ≡ q.x + d = omega (arith, left.0) in
    let rise : y ≡ p.y + e = omega (arith, left.1) in
    let one : 1 ≤ e = omega (arith, left.1) in
    let some : d * 1 ≤ d * e = mul-le-mul_left d one in
    let wide : 1 ≤ d = omega (arith, left.0) in
    omega (
      arith,
      ap (λ k. k * x) level,
      ap (λ k. y * k) run,
      ap₂ (λ i j. i * j) run (sym level),
      ap (λ k. d * k) rise,
    ))
    outer

pub left-level_inner : (p q : Point) (x y : ℕ) → p.y ≡ q.y → (p.x < q.x → p.y ≤ y) → (q.x < p.x → y ≤ p.y) →
    is_left_or_on (point x y) p q ≡ true
left-level_inner p q x y level right left =
    let low : ℕ = p.y * q.x + q.y * x + y * p.x in
    let high : ℕ = p.x * q.y + q.x * y + x * p.y in
    let first : q.y * x ≡ p.y * x = ap (λ k. k * x) (sym level) in
    let second : p.x * q.y ≡ p.x * p.y = ap (λ k. p.x * k) (sym level) in
    le-leb low high (⊎_elim
    (λ (less : p.x < q.x).
    let d : ℕ = q.x - p.x in
    let run : q.x ≡ p.x + d = omega arith in
    let more : d * p.y ≤ d * y = mul-le-mul_left d (right less) in
    omega (arith, ap (λ k. p.y * k) run, ap (λ k. k * y) run))
    (λ (least : q.x ≤ p.x). ⊎_elim
    (λ (less : q.x < p.x).
    let d : ℕ = p.x - q.x in
    let run : p.x ≡ q.x + d = omega arith in
    let more : d * y ≤ d * p.y = mul-le-mul_left d (left less) in
    omega (arith, ap (λ k. p.y * k) run, ap (λ k. y * k) run))
    (λ (most : p.x ≤ q.x).
    let same : p.x ≡ q.x = omega arith in
    omega (arith, ap (λ k. p.y * k) same, ap (λ k. k * y) same))
    (cases_lt q.x p.x))
    (cases_lt p.x q.x))

-- ---- the three edges

-- what is left by the three is what the triangle holds
pub columns-held : (c : Corners) (y : ℕ) (all left base held : Columns) →
    ((x : ℕ) → IsColumn left x ↔ (IsColumn all x × (is_left_or_on (point x y) c.apex c.v0 ≡ true))) →
    ((x : ℕ) → IsColumn base x ↔ (IsColumn left x × (is_left_or_on (point x y) c.v0 c.v1 ≡ true))) →
    ((x : ℕ) → IsColumn held x ↔ (IsColumn base x × (is_left_or_on (point x y) c.v1 c.apex ≡ true))) →
    (x : ℕ) → IsColumn held x ↔ (IsColumn all x × (is_in_closed c (point x y) ≡ true))
columns-held c y all left base held one two three x = (
  λ h.
      let p = (three x).0 h in
      let q = (two x).0 p.0 in
      let r = (one x).0 q.0 in (
        r.0,
        and_from (is_left_or_on (point x y) c.apex c.v0) _ r.1
            (and_from (is_left_or_on (point x y) c.v0 c.v1) (is_left_or_on (point x y) c.v1 c.apex) q.1 p.1),
      ),
  λ h.
      let legs = and_parts (is_left_or_on (point x y) c.apex c.v0) _ h.1 in
      let rest = and_parts (is_left_or_on (point x y) c.v0 c.v1) (is_left_or_on (point x y) c.v1 c.apex) legs.1 in
      (three x).1 ((two x).1 ((one x).1 (h.0, legs.0), rest.0), rest.1),
)
