-- Newton's method for square roots: the middle is no less than the root.
use Rattle.std.proofs.Common.{◌≡◌, ◌⊎◌, inl, inr, ℕ, ◌+◌, ◌-◌, ◌*◌, ◌/◌, ◌%◌, ◌^◌, ◌<◌, ◌≤◌, subst, arith}
use Rattle.std.proofs.Math.Nat.{mul-le-mul}
use Rattle.std.proofs.lemmas.Bool.{cases_lt}
use Rattle.std.specs.Int.Count.{count_leading_zeros}
use Rattle.std.proofs.Math.Pow.{pow_mono}
use Rattle.std.proofs.lemmas.Nat.{leading_length, one_shl, pow-add}

-- the square of a sum is no less than four times the product
four_products : (i j : ℕ) → 4 * (i * j) ≤ (i + j) * (i + j)
four_products i j = by_order (cases_lt i j)
  where
    rising : (i k : ℕ) → 4 * (i * (i + k)) ≤ (i + (i + k)) * (i + (i + k))
    rising i k = omega arith

    falling : (j k : ℕ) → 4 * ((j + k) * j) ≤ ((j + k) + j) * ((j + k) + j)
    falling j k = omega arith

    by_order : ((i < j) ⊎ (j ≤ i)) → 4 * (i * j) ≤ (i + j) * (i + j)
    by_order (inl less) =
        let up : i + (j - i) ≡ j = omega arith in subst (λ x. 4 * (i * x) ≤ (i + x) * (i + x)) up (rising i (j - i))
    by_order (inr le) =
        let up : j + (i - j) ≡ i = omega arith in subst (λ x. 4 * (x * j) ≤ (x + j) * (x + j)) up (falling j (i - j))

-- the middle m between x and s / x, where q is s / x
middle_above : (s x q m : ℕ) → s < x * (q + 1) → x + q ≤ 2 * m + 1 → s < (m + 1) * (m + 1)
middle_above s x q m above middle =
    let twice : x + (q + 1) ≤ 2 * (m + 1) = omega arith in
    omega (arith, four_products x (q + 1), mul-le-mul twice twice)

pub next-above : (s x : ℕ) → 0 < x → s < ((x + s / x) / 2 + 1) * ((x + s / x) / 2 + 1)
next-above s x some = middle_above s x (s / x) ((x + s / x) / 2) (omega arith) (omega arith)

-- where the middle is no better, the square is within
last-within : (s x : ℕ) → 0 < x → x ≤ (x + s / x) / 2 → x * x ≤ s
last-within s x some last =
    let le : x ≤ s / x = omega arith in
    let same : x ≤ x = omega arith in omega (arith, mul-le-mul same le)

-- a number whose square is above another one is positive
pub positive : (s x : ℕ) → s < x * x → 0 < x
positive s x less = by_cases (cases_lt 0 x)
  where
    by_cases : ((0 < x) ⊎ (x ≤ 0)) → 0 < x
    by_cases (inl some) = some
    by_cases (inr none) = absurd (omega (arith, mul-le-mul none none))

-- where the square is above, the middle is less
pub next-less : (s x : ℕ) → s < x * x → (x + s / x) / 2 < x
next-less s x less = by_cases (cases_lt ((x + s / x) / 2) x)
  where
    by_cases : (((x + s / x) / 2 < x) ⊎ (x ≤ (x + s / x) / 2)) → (x + s / x) / 2 < x
    by_cases (inl better) = better
    by_cases (inr last) = let within : x * x ≤ s = last-within s x (positive s x less) last in absurd (omega arith)

-- ---- the estimate

-- half the number of binary digits is the exponent of a power of 2 that is at most 2 ^ 31, over which the number is
-- less than that
pub half_digits : (s : ℕ) → s < 2 ^ 62 →
    ((64 - count_leading_zeros 64 s) / 2 ≤ 31) × (s < 2 ^ ((64 - count_leading_zeros 64 s) / 2) * 2 ^ 31)
half_digits s small = by_length (leading_length 64 s (omega arith))
  where
    few : (m : ℕ) → 2 ^ m ≤ 2 * s + 1 → ((62 < m) ⊎ (m ≤ 62)) → m ≤ 62
    few m le (inl many) =
        let wide : 2 ^ 63 ≤ 2 ^ m = pow_mono many in absurd (omega arith)
    few m le (inr ok) = ok

    by_length : ((m : ℕ) × (count_leading_zeros 64 s + m ≡ 64) × (s < 2 ^ m) × (2 ^ m ≤ 2 * s + 1)) →
        ((64 - count_leading_zeros 64 s) / 2 ≤ 31) × (s < 2 ^ ((64 - count_leading_zeros 64 s) / 2) * 2 ^ 31)
    by_length d =
        let k : ℕ = (64 - count_leading_zeros 64 s) / 2 in
        let length : d.0 ≤ 62 = few d.0 d.3 (cases_lt 62 d.0) in
        let sum : count_leading_zeros 64 s + d.0 ≡ 64 = d.1 in
        let fits : d.0 ≤ k + 31 = omega arith in
        let wide : 2 ^ d.0 ≤ 2 ^ (k + 31) = pow_mono fits in
        let below : s < 2 ^ d.0 = d.2 in
        (omega arith, omega (arith, pow-add 2 k 31))

pub shifted : (k : ℕ) → k ≤ 31 → 1 * 2 ^ k % 18446744073709551616 ≡ 2 ^ k
shifted k small = one_shl k 64 (omega arith)

-- the first step from such a power is at most 2 ^ 31
pub first_small : (s k : ℕ) → k ≤ 31 → s < 2 ^ k * 2 ^ 31 → (2 ^ k + s / 2 ^ k) / 2 ≤ 2 ^ 31
first_small s k small below =
    let power : 2 ^ k ≤ 2 ^ 31 = pow_mono small in
    let over : s / 2 ^ k < 2 ^ 31 = div_below s (2 ^ k) (2 ^ 31) below in
    omega arith
  where
    div_below : (s x y : ℕ) → s < x * y → s / x < y
    div_below s x y below = by_cases (cases_lt (s / x) y)
      where
        by_cases : ((s / x < y) ⊎ (y ≤ s / x)) → s / x < y
        by_cases (inl less) = less
        by_cases (inr more) = let same : x ≤ x = omega arith in absurd (omega (arith, mul-le-mul same more))
