-- The two base triangles tile the square: a sample lies strictly inside 2 below the falling diagonal, and
-- strictly inside 3 above it.
use Rattle.std.proofs.Common.{◌≡◌, ℕ, zero, suc, ◌+◌, ◌*◌, ◌%◌, ◌^◌, ◌<◌, ◌≤◌, inl, inr, [], ◌∷◌, true, ap, arith}
use Rattle.std.proofs.Common.{⊎_elim, pow_pos, mul-le-mul_left}
use Rattle.std.proofs.lemmas.Bool.{cases_lt}
use Rattle.mesh_defs.specs.Triangle.{level_of, base_triangle, corners_of}
use Rattle.mesh_defs.specs.Tiling.{IsSample, is_inside, Tiles}
use Rattle.mesh_defs.proofs.ListLemmas.{one_if, one_if-no}
use Rattle.mesh_laws.proofs.WayLemmas.{lt-scaled, IsBounded, IsBounded-from, IsBounded-to}

-- by half: on which side of the falling diagonal
abbrev IsInHalf : ℕ → ℕ → ℕ → ℕ → Type 0
IsInHalf zero m x y = x + y < 4 * m
IsInHalf (suc _) m x y = 4 * m < x + y

-- strictly inside a base triangle is in its half
IsInHalf-bounded : (half m x y : ℕ) → IsBounded x y (base_triangle m half) → IsInHalf half m x y
IsInHalf-bounded zero m x y w =
    let base : 4 * 0 * 0 + m * x + y * m < 4 * m * m + 0 * y + x * 0 = w.base in
    lt-scaled m (x + y) (4 * m) (omega arith)
IsInHalf-bounded (suc _) m x y w =
    let base : 4 * m * m + 0 * x + y * 0 < 4 * 0 * 0 + m * y + x * m = w.base in
    lt-scaled m (4 * m) (x + y) (omega arith)

-- a base triangle lies in its half
IsInHalf-inside-2 : (n x y : ℕ) → is_inside n x y 2 ≡ true → x + y < 4 * 2 ^ n
unfolding corners_of level_of
IsInHalf-inside-2 n x y is =
    IsInHalf-bounded zero (2 ^ n) x y (IsBounded-from x y (base_triangle (2 ^ n) zero) is)

-- a point in 3 is above it
IsInHalf-inside-3 : (n x y : ℕ) → is_inside n x y 3 ≡ true → 4 * 2 ^ n < x + y
unfolding corners_of level_of
IsInHalf-inside-3 n x y is =
    IsInHalf-bounded 1 (2 ^ n) x y (IsBounded-from x y (base_triangle (2 ^ n) 1) is)

-- each point below the falling diagonal and off the sides is strictly inside 2
IsBounded-lower : (m x y : ℕ) → 0 < m → 0 < x → 0 < y → x + y < 4 * m → IsBounded x y (base_triangle m zero)
IsBounded-lower m x y big hx hy h =
    let fx : m * 1 ≤ m * x = mul-le-mul_left m hx in
    let fy : m * 1 ≤ m * y = mul-le-mul_left m hy in
    let f : m * suc (x + y) ≤ m * (4 * m) = mul-le-mul_left m h in
    record { leg = omega arith; base = omega arith; other = omega arith }

-- each point above it and off the sides is strictly inside 3
IsBounded-upper : (m x y : ℕ) → 0 < m → x < 4 * m → y < 4 * m → 4 * m < x + y → IsBounded x y (base_triangle m 1)
IsBounded-upper m x y big hx hy h =
    let fx : m * suc x ≤ m * (4 * m) = mul-le-mul_left m hx in
    let fy : m * suc y ≤ m * (4 * m) = mul-le-mul_left m hy in
    let f : m * suc (4 * m) ≤ m * (x + y) = mul-le-mul_left m h in
    record { leg = omega arith; base = omega arith; other = omega arith }

-- as tests of the addresses
is_inside-lower : (n x y : ℕ) → 0 < x → 0 < y → x + y < 4 * 2 ^ n → is_inside n x y 2 ≡ true
unfolding corners_of level_of
is_inside-lower n x y hx hy h =
    IsBounded-to x y (base_triangle (2 ^ n) zero) (IsBounded-lower (2 ^ n) x y (pow_pos n) hx hy h)

is_inside-upper : (n x y : ℕ) → x < 4 * 2 ^ n → y < 4 * 2 ^ n → 4 * 2 ^ n < x + y → is_inside n x y 3 ≡ true
unfolding corners_of level_of
is_inside-upper n x y hx hy h =
    IsBounded-to x y (base_triangle (2 ^ n) 1) (IsBounded-upper (2 ^ n) x y (pow_pos n) hx hy h)

-- no sample lies on the diagonal or on the left or lower side
sample-odd : (n x y : ℕ) → IsSample n x y → ((x + y) % 2 ≡ 1) × (0 < x) × (0 < y)
sample-odd n x y s = elim s.placed [
  | inl e ↦ (omega arith, omega arith, omega arith)
  | inr e ↦ (omega arith, omega arith, omega arith)
]

-- each sample is strictly inside just one of 2 and 3
pub base_tiles : (n : ℕ) → Tiles n (2 ∷ (3 ∷ []))
base_tiles n x y s =
    let odd = sample-odd n x y s in
    ⊎_elim
    (λ below.
    let one : one_if (is_inside n x y 2) ≡ 1 = ap one_if (is_inside-lower n x y odd.1 odd.2 below) in
    let none : one_if (is_inside n x y 3) ≡ 0 = one_if-no (is_inside n x y 3)
    (λ is. let h : 4 * 2 ^ n < x + y = IsInHalf-inside-3 n x y is in omega arith) in
    omega arith)
    (λ above.
    let far : 4 * 2 ^ n < x + y = omega arith in
    let one : one_if (is_inside n x y 3) ≡ 1 = ap one_if (is_inside-upper n x y s.x_within s.y_within far) in
    let none : one_if (is_inside n x y 2) ≡ 0 = one_if-no (is_inside n x y 2)
    (λ is. let h : x + y < 4 * 2 ^ n = IsInHalf-inside-2 n x y is in omega arith) in
    omega arith)
    (cases_lt (x + y) (4 * 2 ^ n))
