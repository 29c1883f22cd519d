-- Corners in lattice steps: the corners of a level are whole multiples of one step, and going down two
-- levels halves the step and doubles the numbers, so that no midpoint is rounded.
use Rattle.std.proofs.Common.{◌≡◌, ℕ, zero, suc, ap, ◌-◌, ◌+◌, ◌*◌, ◌/◌, ◌%◌, ◌^◌, ◌<◌, ◌≤◌, refl, sym, ◌∙◌, arith}
use Rattle.std.proofs.Common.{⊎_elim}
use Rattle.std.proofs.Math.Nat.{pow-succ', mul-add}
use Rattle.std.proofs.lemmas.Bool.{cases_lt}
use Rattle.std.proofs.lemmas.Nat.{pow-add, pow_pos}
use Rattle.bintree_laws.specs.Corners.{HasEvenBase}
use Rattle.bintree_laws.proofs.LevelLemmas.{levels}
use Rattle.bintree_laws.proofs.CornerLemmas.{corners_of-left, corners_of-right, IsWithin-corners_of}
use Rattle.mesh_defs.specs.declared.point.Point.{Point}
use Rattle.mesh_defs.specs.declared.point.Corners.{Corners}
use Rattle.mesh_defs.specs.Triangle.{level_of, base_triangle, child, corners_at, corners_of}

-- ---- points and corners by their coordinates

-- the point with these coordinates
abbrev pub at : ℕ → ℕ → Point
at x y = record { x = x; y = y }

-- the triangle with these corners
abbrev pub three : Point → Point → Point → Corners
three apex v0 v1 = record { apex = apex; v0 = v0; v1 = v1 }

-- points are equal if their coordinates are
pub same_point : (i j k l : ℕ) → i ≡ k → j ≡ l → at i j ≡ at k l
same_point i j k l x y = rw (x, y) refl

same_corners : (a p q b r s : Point) → a ≡ b → p ≡ r → q ≡ s → three a p q ≡ three b r s
same_corners a p q b r s apex v0 v1 = rw (apex, v0, v1) refl

-- the six coordinates of the two are equal
pub record AreAlike (c d : Corners) : Type 0 where
  pub apex_x : c.apex.x ≡ d.apex.x
  pub apex_y : c.apex.y ≡ d.apex.y
  pub v0_x : c.v0.x ≡ d.v0.x
  pub v0_y : c.v0.y ≡ d.v0.y
  pub v1_x : c.v1.x ≡ d.v1.x
  pub v1_y : c.v1.y ≡ d.v1.y

-- so the two are equal
pub same_by_coordinates : (c d : Corners) → AreAlike c d → c ≡ d
same_by_coordinates c d h =
    same_corners c.apex c.v0 c.v1 d.apex d.v0 d.v1 (same_point c.apex.x c.apex.y d.apex.x d.apex.y h.apex_x h.apex_y)
    (same_point c.v0.x c.v0.y d.v0.x d.v0.y h.v0_x h.v0_y) (same_point c.v1.x c.v1.y d.v1.x d.v1.y h.v1_x h.v1_y)

-- ---- lattice steps

-- the sum of two points, by coordinates
abbrev pub sum_of : Point → Point → Point
sum_of p q = at (p.x + q.x) (p.y + q.y)

-- a multiple of a point, by coordinates
abbrev pub multiple : ℕ → Point → Point
multiple step p = at (step * p.x) (step * p.y)

-- a multiple of a triangle
abbrev pub scaled : ℕ → Corners → Corners
scaled step c = three (multiple step c.apex) (multiple step c.v0) (multiple step c.v1)

-- the corners of the grandchild 4a, 4a + 1, 4a + 2 or 4a + 3 of a, in half as long steps
abbrev pub grandchild : ℕ → Corners → Corners
grandchild zero c = three (sum_of c.apex c.v0) (sum_of c.v0 c.v1) (multiple 2 c.apex)
grandchild (suc zero) c = three (sum_of c.apex c.v0) (multiple 2 c.v0) (sum_of c.v0 c.v1)
grandchild (suc (suc zero)) c = three (sum_of c.v1 c.apex) (sum_of c.v0 c.v1) (multiple 2 c.v1)
grandchild (suc (suc (suc _))) c = three (sum_of c.v1 c.apex) (multiple 2 c.apex) (sum_of c.v0 c.v1)

-- the corners of the triangle with this level and address, in steps of its level
abbrev pub lattice : ℕ → ℕ → Corners
lattice zero a = base_triangle 1 (a % 2)
lattice (suc zero) a = child (a % 2) (base_triangle 2 (a / 2 % 2))
lattice (suc (suc level)) a = grandchild (a % 4) (lattice level (a / 4))

-- how often the step was halved down to this level
abbrev pub halved : ℕ → ℕ
halved zero = 0
halved (suc zero) = 1
halved (suc (suc level)) = suc (halved level)

scaled-base : (step half : ℕ) → base_triangle step half ≡ scaled step (base_triangle 1 half)
scaled-base step zero = same_by_coordinates _ _ (grind arith)
scaled-base step (suc _) = same_by_coordinates _ _ (grind arith)

scaled-child_of_base : (step side half : ℕ) → child side (base_triangle (2 * step) half) ≡ scaled step
    (child side (base_triangle 2 half))
scaled-child_of_base step zero zero = same_by_coordinates _ _ (grind arith)
scaled-child_of_base step zero (suc _) = same_by_coordinates _ _ (grind arith)
scaled-child_of_base step (suc _) zero = same_by_coordinates _ _ (grind arith)
scaled-child_of_base step (suc _) (suc _) = same_by_coordinates _ _ (grind arith)

child_of_child : (step half side : ℕ) (c : Corners) → half < 2 → side < 2 → child side
    (child half (scaled (2 * step) c)) ≡ scaled step (grandchild (2 * half + side) c)
child_of_child step zero zero c _ _ = same_by_coordinates _ _ (grind arith)
child_of_child step zero (suc zero) c _ _ = same_by_coordinates _ _ (grind arith)
child_of_child step (suc zero) zero c _ _ = same_by_coordinates _ _ (grind arith)
child_of_child step (suc zero) (suc zero) c _ _ = same_by_coordinates _ _ (grind arith)
child_of_child step (suc (suc _)) _ c low _ = absurd (omega (arith, low))
child_of_child step _ (suc (suc _)) c _ low = absurd (omega (arith, low))

-- the corners of a level are those in its steps
pub corners_at-lattice : (level step m a : ℕ) → m ≡ step * 2 ^ halved level → corners_at level m a ≡ scaled step
    (lattice level a)
corners_at-lattice zero step m a size =
    let same : m ≡ step = omega arith in rw same (scaled-base step (a % 2))
corners_at-lattice (suc zero) step m a size =
    let same : m ≡ 2 * step = omega arith in rw same (scaled-child_of_base step (a % 2) (a / 2 % 2))
corners_at-lattice (suc (suc level)) step m a size =
    let twice : m ≡ 2 * step * 2 ^ halved level = size ∙
    (let e : 2 ^ suc (halved level) ≡ 2 * 2 ^ halved level = pow-succ' 2 (halved level) in rw e (omega arith)) in
    let above : corners_at level m (a / 4) ≡ scaled (2 * step) (lattice level (a / 4)) = corners_at-lattice level
    (2 * step) m (a / 4) twice in
    let quarter : a / 2 / 2 ≡ a / 4 = omega arith in
    let rest : 2 * (a / 2 % 2) + a % 2 ≡ a % 4 = omega arith in
    let four = child_of_child step (a / 2 % 2) (a % 2) (lattice level (a / 4)) (omega arith) (omega arith) in
    rw (quarter, above) (rw rest at four)

-- a level is halved once for two levels, rounded up
pub halved-half : (level : ℕ) → halved level ≡ (level + 1) / 2
halved-half zero = refl
halved-half (suc zero) = refl
halved-half (suc (suc level)) = let above : halved level ≡ (level + 1) / 2 = halved-half level in omega arith

-- ---- bases below the finest level

HasEvenBase-quarter : (half side : ℕ) → HasEvenBase (child side (base_triangle 2 half))
HasEvenBase-quarter zero zero = record { x = refl; y = refl }
HasEvenBase-quarter zero (suc _) = record { x = refl; y = refl }
HasEvenBase-quarter (suc _) zero = record { x = refl; y = refl }
HasEvenBase-quarter (suc _) (suc _) = record { x = refl; y = refl }

HasEvenBase-grandchild : (which : ℕ) (c : Corners) → HasEvenBase c → HasEvenBase (grandchild which c)
HasEvenBase-grandchild zero c even = record { x = omega arith; y = omega arith }
HasEvenBase-grandchild (suc zero) c even = record { x = omega arith; y = omega arith }
HasEvenBase-grandchild (suc (suc zero)) c even = record { x = omega arith; y = omega arith }
HasEvenBase-grandchild (suc (suc (suc _))) c even = record { x = omega arith; y = omega arith }

-- at an odd level the ends of the base add up to even numbers of steps
pub HasEvenBase-lattice : (level a : ℕ) → level % 2 ≡ 1 → HasEvenBase (lattice level a)
HasEvenBase-lattice zero a odd = absurd (omega arith)
HasEvenBase-lattice (suc zero) a odd = HasEvenBase-quarter (a / 2 % 2) (a % 2)
HasEvenBase-lattice (suc (suc level)) a odd = HasEvenBase-grandchild (a % 4) (lattice level (a / 4))
    (HasEvenBase-lattice level (a / 4) (omega arith))

even_multiple : (step i j : ℕ) → (i + j) % 2 ≡ 0 → (step * i + step * j) % 2 ≡ 0
even_multiple step i j even =
    let half : i + j ≡ 2 * ((i + j) / 2) = omega arith in
    let all : step * i + step * j ≡ 2 * (step * ((i + j) / 2)) = sym (mul-add step i j) ∙ ap (λ k. step * k) half
    ∙ omega arith in
    omega arith

HasEvenBase-scaled : (step : ℕ) (c : Corners) → HasEvenBase c → HasEvenBase (scaled step c)
HasEvenBase-scaled step c even = record {
  x = even_multiple step c.v0.x c.v1.x even.x;
  y = even_multiple step c.v0.y c.v1.y even.y;
}

HasEvenBase-doubled : (step : ℕ) (c : Corners) → HasEvenBase (scaled (2 * step) c)
HasEvenBase-doubled step c = record { x = omega arith; y = omega arith }

-- the step of a level in a grid with this n
pub step_of : ℕ → ℕ → ℕ
step_of n level = 2 ^ (n - halved level)

-- the step of a level is a power of 2
pub step_of-power : (n level k : ℕ) → n - halved level ≡ k → step_of n level ≡ 2 ^ k
unfolding step_of
step_of-power n level k e = ap (λ j. 2 ^ j) e

-- it is positive
pub step_pos : (n level : ℕ) → 0 < step_of n level
unfolding step_of
step_pos n level = pow_pos (n - halved level)

-- the side of the square in steps
pub size_by_steps : (n level : ℕ) → level ≤ 2 * n → 2 ^ n ≡ step_of n level * 2 ^ halved level
unfolding step_of
size_by_steps n level fits =
    let half : halved level ≡ (level + 1) / 2 = halved-half level in
    let all : n ≡ (n - halved level) + halved level = omega arith in
    ap (λ k. 2 ^ k) all ∙ pow-add 2 (n - halved level) (halved level)

-- the corners of a triangle are its lattice corners times the step of its level
pub corners_of-lattice : (n a : ℕ) → level_of a ≤ 2 * n → corners_of n a ≡ scaled (step_of n (level_of a))
    (lattice (level_of a) a)
unfolding corners_of
corners_of-lattice n a fits = corners_at-lattice (level_of a) (step_of n (level_of a)) (2 ^ n) a
    (size_by_steps n (level_of a) fits)

step_is_even : (n level : ℕ) → halved level < n → (half : ℕ) × (step_of n level ≡ 2 * half)
unfolding step_of
step_is_even n level room = let next : n - halved level ≡ suc (n - halved level - 1) = omega arith in
    (2 ^ (n - halved level - 1), ap (λ k. 2 ^ k) next ∙ pow-succ' 2 (n - halved level - 1))

-- below the finest level the midpoint of the base is a grid point
pub HasEvenBase-corners_at : (level n a : ℕ) → level < 2 * n → HasEvenBase (corners_at level (2 ^ n) a)
HasEvenBase-corners_at level n a coarse =
    let half : halved level ≡ (level + 1) / 2 = halved-half level in
    rw (corners_at-lattice level (step_of n level) (2 ^ n) a (size_by_steps n level (omega arith)))
    (⊎_elim
    (λ room. let even : (h : ℕ) × (step_of n level ≡ 2 * h) = step_is_even n level room in rw even.1
    (HasEvenBase-doubled even.0 (lattice level a)))
    (λ none. HasEvenBase-scaled (step_of n level) (lattice level a) (HasEvenBase-lattice level a (omega arith)))
    (cases_lt (halved level) n))

-- the same of an address
pub HasEvenBase-corners_of : (n a : ℕ) → level_of a < 2 * n → HasEvenBase (corners_of n a)
unfolding corners_of
HasEvenBase-corners_of n a coarse = HasEvenBase-corners_at (level_of a) n a coarse

-- all laws of corners and levels
pub ruleset corner_facts = (levels, corners_of-left, corners_of-right, IsWithin-corners_of, HasEvenBase-corners_of)
