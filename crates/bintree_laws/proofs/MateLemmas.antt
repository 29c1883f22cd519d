-- Mates: the pairs of addresses are exactly the mates, and a triangle in no pair has its base on the border.
use Rattle.std.proofs.Common.{◌≡◌, Option, Some, None, true, false, ◌⊎◌, ◌↔◌, sym, ◌∙◌, ap, ℕ, zero, suc, ◌+◌, ◌-◌, ◌*◌}
use Rattle.std.proofs.Common.{◌/◌, ◌%◌, ◌^◌, ◌<◌, ◌≤◌, refl, arith, inl, inr, ⊎_elim}
use Rattle.std.proofs.Math.Nat.{mul-div_cancel_left, mul-add, pow-succ'}
use Rattle.std.proofs.Math.Pow.{pow_mono}
use Rattle.std.proofs.lemmas.Bool.{cases_eq}
use Rattle.mesh_defs.specs.declared.point.Point.{Point}
use Rattle.mesh_defs.specs.declared.point.Corners.{Corners}
use Rattle.mesh_defs.specs.Triangle.{level_of, base_triangle, child, corners_of, SameEnds, IsMate, OnOneSide}
use Rattle.mesh_defs.specs.Triangle.{HasBorderBase}
use Rattle.bintree_laws.specs.Corners.{IsWithin, IsReversed}
use Rattle.bintree_laws.specs.Pair.{IsInner, IsOuter, IsPair}
use Rattle.bintree_laws.proofs.LevelLemmas.{IsAtLevel, IsAtLevel-level_of, level_of-at}
use Rattle.bintree_laws.proofs.CornerLemmas.{IsWithin-base, IsWithin-child}
use Rattle.bintree_laws.proofs.LatticeLemmas.{at, same_point, multiple, sum_of, scaled, grandchild, lattice, halved}
use Rattle.bintree_laws.proofs.LatticeLemmas.{step_of, step_pos, size_by_steps, corners_of-lattice}
use Rattle.bintree_laws.proofs.UnitLemmas.{quarter, frame, IsHalf, IsSomeHalf, IsHalf-frame, SameSum, AreHalves}
use Rattle.bintree_laws.proofs.PairLemmas.{IsAtLevel-quarter, IsAtLevel-pair, pair_differs, AreHalves-pair, same_base}
use Rattle.bintree_laws.proofs.PairLemmas.{pair_answer}

-- ---- from the frame of a level to its lattice

-- how far the turned frame is moved
abbrev pub spread : ℕ → ℕ
spread zero = 0
spread (suc zero) = 1
spread (suc (suc level)) = 2 * spread level

-- a point of the lattice and what it is in the turned frame
pub record IsTurned (k : ℕ) (p q : Point) : Type 0 where
  pub across : p.x + k ≡ q.x + q.y
  pub along : p.y + q.y ≡ q.x + k

-- the corners of a triangle and what they are in the turned frame
pub record AllTurned (k : ℕ) (c d : Corners) : Type 0 where
  pub apex : IsTurned k c.apex d.apex
  pub v0 : IsTurned k c.v0 d.v0
  pub v1 : IsTurned k c.v1 d.v1

-- at even levels the lattice is the frame
pub lattice-frame : (level a : ℕ) → level % 2 ≡ 0 → lattice level a ≡ frame level a
lattice-frame zero a even = refl
lattice-frame (suc zero) a even = absurd (omega (arith, even))
lattice-frame (suc (suc level)) a even =
    let above : lattice level (a / 4) ≡ frame level (a / 4) = lattice-frame level (a / 4) (omega arith) in rw above refl

turned : (k i j s t : ℕ) → i + k ≡ s + t → j + t ≡ s + k → IsTurned k (at i j) (at s t)
turned k i j s t x y = record { across = x; along = y }

AllTurned-quarter : (which half side : ℕ) → half < 2 → side < 2 → which ≡ 2 * half + side → AllTurned 1
    (child side (base_triangle 2 half)) (quarter which)
AllTurned-quarter which zero zero low less e = rw e (record {
  apex = turned 1 1 1 1 1 refl refl;
  v0 = turned 1 0 0 0 1 refl refl;
  v1 = turned 1 2 0 1 2 refl refl;
})
AllTurned-quarter which zero (suc zero) low less e = rw e
    (record { apex = turned 1 1 1 1 1 refl refl; v0 = turned 1 0 2 1 0 refl refl; v1 = turned 1 0 0 0 1 refl refl })
AllTurned-quarter which (suc zero) zero low less e = rw e
    (record { apex = turned 1 1 1 1 1 refl refl; v0 = turned 1 2 2 2 1 refl refl; v1 = turned 1 0 2 1 0 refl refl })
AllTurned-quarter which (suc zero) (suc zero) low less e = rw e
    (record { apex = turned 1 1 1 1 1 refl refl; v0 = turned 1 2 0 1 2 refl refl; v1 = turned 1 2 2 2 1 refl refl })
AllTurned-quarter which (suc (suc _)) side low less e = absurd (omega (arith, low))
AllTurned-quarter which half (suc (suc _)) low less e = absurd (omega (arith, less))

IsTurned-sum_of : (k : ℕ) (p q r s : Point) → IsTurned k p r → IsTurned k q s → IsTurned (2 * k) (sum_of p q)
    (sum_of r s)
IsTurned-sum_of k p q r s t u = record { across = omega arith; along = omega arith }

IsTurned-double : (k : ℕ) (p r : Point) → IsTurned k p r → IsTurned (2 * k) (multiple 2 p) (multiple 2 r)
IsTurned-double k p r t = record { across = omega arith; along = omega arith }

AllTurned-grandchild : (which k : ℕ) (c d : Corners) → AllTurned k c d → AllTurned (2 * k) (grandchild which c)
    (grandchild which d)
AllTurned-grandchild zero k c d t =
    record {
      apex = IsTurned-sum_of k c.apex c.v0 d.apex d.v0 t.apex t.v0;
      v0 = IsTurned-sum_of k c.v0 c.v1 d.v0 d.v1 t.v0 t.v1;
      v1 = IsTurned-double k c.apex d.apex t.apex;
    }
AllTurned-grandchild (suc zero) k c d t =
    record {
      apex = IsTurned-sum_of k c.apex c.v0 d.apex d.v0 t.apex t.v0;
      v0 = IsTurned-double k c.v0 d.v0 t.v0;
      v1 = IsTurned-sum_of k c.v0 c.v1 d.v0 d.v1 t.v0 t.v1;
    }
AllTurned-grandchild (suc (suc zero)) k c d t =
    record {
      apex = IsTurned-sum_of k c.v1 c.apex d.v1 d.apex t.v1 t.apex;
      v0 = IsTurned-sum_of k c.v0 c.v1 d.v0 d.v1 t.v0 t.v1;
      v1 = IsTurned-double k c.v1 d.v1 t.v1;
    }
AllTurned-grandchild (suc (suc (suc _))) k c d t =
    record {
      apex = IsTurned-sum_of k c.v1 c.apex d.v1 d.apex t.v1 t.apex;
      v0 = IsTurned-double k c.apex d.apex t.apex;
      v1 = IsTurned-sum_of k c.v0 c.v1 d.v0 d.v1 t.v0 t.v1;
    }

-- at odd levels the frame is the lattice turned
pub AllTurned-frame : (level a : ℕ) → level % 2 ≡ 1 → AllTurned (spread level) (lattice level a) (frame level a)
AllTurned-frame zero a odd = absurd (omega (arith, odd))
AllTurned-frame (suc zero) a odd = AllTurned-quarter (a % 4) (a / 2 % 2) (a % 2) (omega arith) (omega arith)
    (omega arith)
AllTurned-frame (suc (suc level)) a odd =
    AllTurned-grandchild (a % 4) (spread level) (lattice level (a / 4)) (frame level (a / 4))
    (AllTurned-frame level (a / 4) (omega arith))

-- a level is even or odd
pub parity : (level : ℕ) → (level % 2 ≡ 0) ⊎ (level % 2 ≡ 1)
parity level = ⊎_elim (λ e. inl e) (λ other. inr (omega arith)) (cases_eq (level % 2) 0)

-- ---- what the frame says of the lattice

turned_sums : (k : ℕ) (c d e f : Corners) → AllTurned k c e → AllTurned k d f → SameSum c d → SameSum e f
turned_sums k c d e f t u same =
    let a = t.v0 in let b = t.v1 in let g = u.v0 in let h = u.v1 in let x = same.x in let y = same.y in
    record { x = omega arith; y = omega arith }

SameSum-frame : (level a b : ℕ) → SameSum (lattice level a) (lattice level b) → SameSum (frame level a) (frame level b)
SameSum-frame level a b same =
    ⊎_elim
    (λ even. rw (← lattice-frame level a even, ← lattice-frame level b even) same)
    (λ odd. turned_sums (spread level) (lattice level a) (lattice level b) (frame level a) (frame level b)
    (AllTurned-frame level a odd) (AllTurned-frame level b odd) same)
    (parity level)

turned_halves : (k : ℕ) (c d e f : Corners) → AllTurned k c e → AllTurned k d f → AreHalves e f → AreHalves c d
turned_halves k c d e f t u halves =
    let a = t.apex in let b = t.v0 in let g = t.v1 in let h = u.apex in let i = u.v0 in let j = u.v1 in grind arith

AreHalves-lattice : (level a b : ℕ) → AreHalves (frame level a) (frame level b) → AreHalves (lattice level a)
    (lattice level b)
AreHalves-lattice level a b halves =
    ⊎_elim
    (λ even. rw (lattice-frame level a even, lattice-frame level b even) halves)
    (λ odd. turned_halves (spread level) (lattice level a) (lattice level b) (frame level a) (frame level b)
    (AllTurned-frame level a odd) (AllTurned-frame level b odd) halves)
    (parity level)

-- ---- no triangle is flat

half_not_flat : (i j : ℕ) (c : Corners) → IsHalf i j c → (c.v0.x ≡ c.v1.x → ⊥) × (c.v0.y ≡ c.v1.y → ⊥)
half_not_flat i j c h = let x = h.x.sum in let y = h.y.sum in ((λ e. omega arith), (λ e. omega arith))

turned_not_flat : (k i j : ℕ) (c d : Corners) → AllTurned k c d → IsHalf i j d →
    ((c.v0.x ≡ c.v1.x) → (c.apex.x ≡ c.v0.x) → ⊥) × ((c.v0.y ≡ c.v1.y) → (c.apex.y ≡ c.v0.y) → ⊥)
turned_not_flat k i j c d t h =
    let a = t.apex in let b = t.v0 in let g = t.v1 in let right = h.right in let x = h.x.sum in let y = h.y.sum in
    ((λ e f. omega arith), (λ e f. omega arith))

lattice_not_flat : (level a : ℕ) → (((lattice level a).v0.x ≡ (lattice level a).v1.x) →
    ((lattice level a).apex.x ≡ (lattice level a).v0.x) → ⊥) ×
    (((lattice level a).v0.y ≡ (lattice level a).v1.y) → ((lattice level a).apex.y ≡ (lattice level a).v0.y) → ⊥)
lattice_not_flat level a =
    let half : IsSomeHalf (frame level a) = IsHalf-frame level a in
    ⊎_elim
    (λ even. rw (lattice-frame level a even) (let apart = half_not_flat half.0 half.1 (frame level a) half.2 in
    ((λ e f. apart.0 e), (λ e f. apart.1 e))))
    (λ odd. turned_not_flat (spread level) half.0 half.1 (lattice level a) (frame level a)
    (AllTurned-frame level a odd) half.2)
    (parity level)

-- ---- the lattice lies within the square

IsWithin-quarter : (half side : ℕ) → IsWithin 2 (child side (base_triangle 2 half))
IsWithin-quarter half side = IsWithin-child 2 side (base_triangle 2 half) (IsWithin-base 2 half)

IsWithin-grandchild : (which m : ℕ) (c : Corners) → IsWithin m c → IsWithin (2 * m) (grandchild which c)
IsWithin-grandchild zero m c w = grind arith
IsWithin-grandchild (suc zero) m c w = grind arith
IsWithin-grandchild (suc (suc zero)) m c w = grind arith
IsWithin-grandchild (suc (suc (suc _))) m c w = grind arith

IsWithin-lattice : (level a : ℕ) → IsWithin (2 ^ halved level) (lattice level a)
IsWithin-lattice zero a = IsWithin-base 1 (a % 2)
IsWithin-lattice (suc zero) a = IsWithin-quarter (a / 2 % 2) (a % 2)
IsWithin-lattice (suc (suc level)) a =
    rw (pow-succ' 2 (halved level)) (IsWithin-grandchild (a % 4) (2 ^ halved level) (lattice level (a / 4))
    (IsWithin-lattice level (a / 4)))

-- ---- a base is in a pair or on the border, and never both

abbrev IsOnSide : ℕ → Corners → Type 0
IsOnSide m c = OnOneSide m c.v0 c.v1

IsOnSide-quarter : (half side : ℕ) → half < 2 → side < 2 → IsOnSide 2 (child side (base_triangle 2 half))
IsOnSide-quarter zero zero low less = inr (inr (inl (refl, refl)))
IsOnSide-quarter zero (suc _) low less = inl (refl, refl)
IsOnSide-quarter (suc _) zero low less = inr (inr (inr (refl, refl)))
IsOnSide-quarter (suc _) (suc _) low less = inr (inl (refl, refl))

IsOnSide-grandchild : (which m : ℕ) (c : Corners) → IsOuter which → IsOnSide m c → IsOnSide (2 * m) (grandchild which c)
IsOnSide-grandchild zero m c outer side = absurd outer
IsOnSide-grandchild (suc zero) m c outer side =
    ⊎_elim (λ e. inl (omega arith, omega arith)) (⊎_elim (λ e. inr (inl (omega arith, omega arith)))
    (⊎_elim (λ e. inr (inr (inl (omega arith, omega arith))))
    (λ e. inr (inr (inr (omega arith, omega arith)))))) side
IsOnSide-grandchild (suc (suc zero)) m c outer side =
    ⊎_elim (λ e. inl (omega arith, omega arith)) (⊎_elim (λ e. inr (inl (omega arith, omega arith)))
    (⊎_elim (λ e. inr (inr (inl (omega arith, omega arith))))
    (λ e. inr (inr (inr (omega arith, omega arith)))))) side
IsOnSide-grandchild (suc (suc (suc _))) m c outer side = absurd outer

inner_or_outer : (which : ℕ) → which < 4 → IsInner which ⊎ IsOuter which
inner_or_outer zero low = inl tt
inner_or_outer (suc zero) low = inr tt
inner_or_outer (suc (suc zero)) low = inr tt
inner_or_outer (suc (suc (suc _))) low = inl tt

-- some address is in a pair with a
abbrev pub HasPair : ℕ → ℕ → Type 0
HasPair level a = (b : ℕ) × IsPair level a b

pair_from_parts : (level a above : ℕ) → (IsInner (a % 4) × (a / 4 ≡ above)) ⊎
    (IsOuter (a % 4) × IsPair level (a / 4) above) → HasPair (suc (suc level)) a
pair_from_parts level a above parts =
    let half : (4 * above + (3 - a % 4)) / 4 ≡ above = omega arith in
    (4 * above + (3 - a % 4), (omega arith, rw half parts))

border_or_pair : (level a : ℕ) → IsAtLevel level a → IsOnSide (2 ^ halved level) (lattice level a) ⊎ HasPair level a
border_or_pair zero a at = inr (5 - a, (let high = at.high in omega arith))
border_or_pair (suc zero) a at = inl (IsOnSide-quarter (a / 2 % 2) (a % 2) (omega arith) (omega arith))
border_or_pair (suc (suc level)) a at =
    ⊎_elim
    (λ inner. inr (pair_from_parts level a (a / 4) (inl (inner, refl))))
    (λ outer. ⊎_elim
    (λ side. inl (rw (pow-succ' 2 (halved level)) (IsOnSide-grandchild (a % 4) (2 ^ halved level)
    (lattice level (a / 4)) outer side)))
    (λ pair. inr (pair_from_parts level a pair.0 (inr (outer, pair.1))))
    (border_or_pair level (a / 4) (IsAtLevel-quarter level a at)))
    (inner_or_outer (a % 4) (omega arith))

halves_off_border : (m : ℕ) (c d : Corners) → IsWithin m c → IsWithin m d → AreHalves c d →
    ((c.v0.x ≡ c.v1.x) → (c.apex.x ≡ c.v0.x) → ⊥) → ((c.v0.y ≡ c.v1.y) → (c.apex.y ≡ c.v0.y) → ⊥) → IsOnSide m c → ⊥
halves_off_border m c d w u halves flat_x flat_y side =
    ⊎_elim (λ e. flat_x (omega arith) (omega arith)) (⊎_elim (λ e. flat_x (omega arith) (omega arith))
    (⊎_elim (λ e. flat_y (omega arith) (omega arith)) (λ e. flat_y (omega arith) (omega arith)))) side

pair_off_border : (level a b : ℕ) → IsPair level a b → IsOnSide (2 ^ halved level) (lattice level a) → ⊥
pair_off_border level a b pair side =
    let solid = lattice_not_flat level a in
    halves_off_border (2 ^ halved level) (lattice level a) (lattice level b) (IsWithin-lattice level a)
    (IsWithin-lattice level b) (AreHalves-lattice level a b (AreHalves-pair level a b pair)) solid.0 solid.1 side

-- ---- from the lattice to the grid

-- a positive factor goes
pub cancel : (step i j : ℕ) → 0 < step → step * i ≡ step * j → i ≡ j
cancel step i j some e = sym (mul-div_cancel_left i some) ∙ ap (λ k. k / step) e ∙ mul-div_cancel_left j some

cancel_sum : (step i j k l : ℕ) → 0 < step → step * i + step * j ≡ step * k + step * l → i + j ≡ k + l
cancel_sum step i j k l some e = cancel step (i + j) (k + l) some (mul-add step i j ∙ e ∙ sym (mul-add step k l))

SameSum-unscaled : (step : ℕ) (c d : Corners) → 0 < step → SameSum (scaled step c) (scaled step d) → SameSum c d
SameSum-unscaled step c d some same =
    record {
      x = cancel_sum step c.v0.x c.v1.x d.v0.x d.v1.x some same.x;
      y = cancel_sum step c.v0.y c.v1.y d.v0.y d.v1.y some same.y;
    }

-- equal points have equal coordinates
pub coordinates : (p q : Point) → p ≡ q → (p.x ≡ q.x) × (p.y ≡ q.y)
coordinates p q e = (ap (λ (r : Point). r.x) e, ap (λ (r : Point). r.y) e)

SameEnds-sum : (c d : Corners) → SameEnds c d → SameSum c d
SameEnds-sum c d ends =
    ⊎_elim
    (λ e. let p = coordinates c.v0 d.v0 e.0 in let q = coordinates c.v1 d.v1 e.1 in
    record { x = omega arith; y = omega arith })
    (λ e. let p = coordinates c.v0 d.v1 e.0 in let q = coordinates c.v1 d.v0 e.1 in
    record { x = omega arith; y = omega arith })
    ends

-- the bases of the two halves of a diamond are reversed
IsReversed-halves : (step : ℕ) (c d : Corners) → AreHalves c d → IsReversed (scaled step c) (scaled step d)
IsReversed-halves step c d h = (
  same_point (step * c.v0.x) (step * c.v0.y) (step * d.v1.x) (step * d.v1.y) (ap (λ k. step * k) (sym h.v1_x))
      (ap (λ k. step * k) (sym h.v1_y)),
  same_point (step * c.v1.x) (step * c.v1.y) (step * d.v0.x) (step * d.v0.y) (ap (λ k. step * k) (sym h.v0_x))
      (ap (λ k. step * k) (sym h.v0_y)),
)

-- and so are those of a pair
IsReversed-pair : (n a b : ℕ) → 2 ≤ a → level_of a ≤ 2 * n → level_of b ≡ level_of a → IsPair (level_of a) a b →
    IsReversed (corners_of n a) (corners_of n b)
IsReversed-pair n a b low fits level pair =
    rw (corners_of-lattice n a fits, corners_of-lattice n b (rw level fits), level)
    (IsReversed-halves (step_of n (level_of a)) (lattice (level_of a) a) (lattice (level_of a) b)
    (AreHalves-lattice (level_of a) a b (AreHalves-pair (level_of a) a b pair)))

-- a pair is a triangle and its mate
pub IsMate-pair : (n a b : ℕ) → 2 ≤ a → level_of a ≤ 2 * n → IsPair (level_of a) a b → IsMate n a b
IsMate-pair n a b low fits pair =
    let at : IsAtLevel (level_of a) b = IsAtLevel-pair (level_of a) a b (IsAtLevel-level_of a low) pair in
    let level : level_of b ≡ level_of a = level_of-at (level_of a) b at in
    let deepest : 2 ^ (level_of a + 2) ≤ 2 ^ (2 * n + 2) = pow_mono (omega arith) in
    let lowest : 1 ≤ level_of a + 1 = omega arith in
    let first : 2 ^ 1 ≤ 2 ^ (level_of a + 1) = pow_mono lowest in
    record {
      address = record { low = omega arith; high = omega arith };
      other = pair_differs (level_of a) a b pair;
      level = level;
      base = inr (IsReversed-pair n a b low fits level pair);
    }

-- two triangles of a level whose bases have one sum of ends are equal or a pair
pub same_sum_cases : (n a b : ℕ) → 2 ≤ a → 2 ≤ b → level_of a ≤ 2 * n → level_of b ≡ level_of a → SameSum
    (corners_of n a) (corners_of n b) → (b ≡ a) ⊎ IsPair (level_of a) a b
same_sum_cases n a b low least fits level same =
    let first : corners_of n a ≡ scaled (step_of n (level_of a))
    (lattice (level_of a) a) = corners_of-lattice n a fits in
    let second : corners_of n b ≡ scaled (step_of n (level_of a)) (lattice (level_of a) b) = rw (← level)
    (corners_of-lattice n b (rw level fits)) in
    let lattices : SameSum (lattice (level_of a) a) (lattice (level_of a) b) =
    SameSum-unscaled (step_of n (level_of a)) (lattice (level_of a) a) (lattice (level_of a) b)
    (step_pos n (level_of a)) (rw (← first, ← second) same) in
    same_base (level_of a) a b (IsAtLevel-level_of a low) (rw (← level) (IsAtLevel-level_of b least))
    (SameSum-frame (level_of a) a b lattices)

-- a triangle and its mate are a pair
pub pair-IsMate : (n a b : ℕ) → 2 ≤ a → level_of a ≤ 2 * n → IsMate n a b → IsPair (level_of a) a b
pair-IsMate n a b low fits mate =
    ⊎_elim (λ same. absurd (mate.other same)) (λ pair. pair)
    (same_sum_cases n a b low mate.address.low fits mate.level
    (SameEnds-sum (corners_of n a) (corners_of n b) mate.base))

-- the bases of a triangle and its mate are reversed
pub IsReversed-mate : (n a b : ℕ) → 2 ≤ a → level_of a ≤ 2 * n → IsMate n a b →
    IsReversed (corners_of n a) (corners_of n b)
IsReversed-mate n a b low fits mate = IsReversed-pair n a b low fits mate.level (pair-IsMate n a b low fits mate)

-- ---- the border

scaled_side : (step m : ℕ) (c : Corners) → IsOnSide m c → IsOnSide (step * m) (scaled step c)
scaled_side step m c side =
    let none : step * 0 ≡ 0 = omega arith in
    ⊎_elim (λ e. inl (ap (λ k. step * k) e.0 ∙ none, ap (λ k. step * k) e.1 ∙ none))
    (⊎_elim (λ e. inr (inl (ap (λ k. step * k) e.0, ap (λ k. step * k) e.1)))
    (⊎_elim (λ e. inr (inr (inl (ap (λ k. step * k) e.0 ∙ none, ap (λ k. step * k) e.1 ∙ none))))
    (λ e. inr (inr (inr (ap (λ k. step * k) e.0, ap (λ k. step * k) e.1)))))) side

unscaled_side : (step m : ℕ) (c : Corners) → 0 < step → IsOnSide (step * m) (scaled step c) → IsOnSide m c
unscaled_side step m c some side =
    let none : 0 ≡ step * 0 = omega arith in
    ⊎_elim (λ e. inl (cancel step c.v0.x 0 some (e.0 ∙ none), cancel step c.v1.x 0 some (e.1 ∙ none)))
    (⊎_elim (λ e. inr (inl (cancel step c.v0.x m some e.0, cancel step c.v1.x m some e.1)))
    (⊎_elim (λ e. inr (inr (inl (cancel step c.v0.y 0 some (e.0 ∙ none), cancel step c.v1.y 0 some (e.1 ∙ none)))))
    (λ e. inr (inr (inr (cancel step c.v0.y m some e.0, cancel step c.v1.y m some e.1)))))) side

-- a triangle has its base on the border or is in a pair
pub border_or_has_pair : (n a : ℕ) → 2 ≤ a → level_of a ≤ 2 * n → HasBorderBase n a ⊎ HasPair (level_of a) a
border_or_has_pair n a low fits =
    ⊎_elim
    (λ side. inl (rw (corners_of-lattice n a fits, size_by_steps n (level_of a) fits)
    (scaled_side (step_of n (level_of a)) (2 ^ halved (level_of a)) (lattice (level_of a) a) side)))
    (λ pair. inr pair)
    (border_or_pair (level_of a) a (IsAtLevel-level_of a low))

-- a triangle without a pair has its base on the border
pub HasBorderBase-no_pair : (n a : ℕ) → 2 ≤ a → level_of a ≤ 2 * n → ((b : ℕ) → IsPair (level_of a) a b → ⊥) →
    HasBorderBase n a
HasBorderBase-no_pair n a low fits none =
    ⊎_elim (λ border. border) (λ pair. absurd (none pair.0 pair.1)) (border_or_has_pair n a low fits)

-- and a triangle with its base on the border has no pair
pub no_pair-HasBorderBase : (n a b : ℕ) → level_of a ≤ 2 * n → HasBorderBase n a → IsPair (level_of a) a b → ⊥
no_pair-HasBorderBase n a b fits border pair =
    pair_off_border (level_of a) a b pair
    (unscaled_side (step_of n (level_of a)) (2 ^ halved (level_of a)) (lattice (level_of a) a) (step_pos n (level_of a))
    (let side : IsOnSide (2 ^ n) (corners_of n a) = border in rw
    (corners_of-lattice n a fits, size_by_steps n (level_of a) fits) at side))

-- ---- what `mate` answers

-- the one answer where there is a pair
pub mate_answer : (n a v : ℕ) → 2 ≤ a → level_of a ≤ 2 * n → IsPair (level_of a) a v → (c : ℕ) →
    (Some v ≡ Some c) ↔ IsMate n a c
mate_answer n a v low fits pair c = (
  (λ e. IsMate-pair n a c low fits ((pair_answer a v pair c).0 e)),
  (λ mate. (pair_answer a v pair c).1 (pair-IsMate n a c low fits mate)),
)

-- no answer where there is none
pub mate_no_answer : (n a : ℕ) → 2 ≤ a → level_of a ≤ 2 * n → ((c : ℕ) → IsPair (level_of a) a c → ⊥) → (c : ℕ) →
    (◌≡◌ {A = Option ℕ} None (Some c)) ↔ IsMate n a c
mate_no_answer n a low fits none c = ((λ e. cc), (λ mate. absurd (none c (pair-IsMate n a c low fits mate))))

-- where there is a pair, the base is not on the border
pub answer_off_border : (n a v : ℕ) → level_of a ≤ 2 * n → IsPair (level_of a) a v → (true ≡ false) ↔ HasBorderBase n a
answer_off_border n a v fits pair = ((λ e. cc), (λ border. absurd (no_pair-HasBorderBase n a v fits border pair)))

-- and where there is none, it is
pub no_answer_on_border : (n a : ℕ) → 2 ≤ a → level_of a ≤ 2 * n → ((c : ℕ) → IsPair (level_of a) a c → ⊥) →
    (false ≡ false) ↔ HasBorderBase n a
no_answer_on_border n a low fits none = ((λ e. HasBorderBase-no_pair n a low fits none), (λ border. refl))
