-- How great the values of octaves and their sums are.
use Rattle.std.proofs.Common.{◌≡◌, ℕ, zero, suc, ◌+◌, ◌-◌, ◌*◌, ◌/◌, ◌%◌, ◌^◌, ◌<◌, ◌≤◌, refl, sym, ap, ◌∙◌, subst}
use Rattle.std.proofs.Common.{arith, add-one, add_assoc, lit<, bit_and}
use Rattle.std.proofs.Math.Nat.{mul_assoc, mul_comm, add-mul, mul-add, mul-le-mul_right, div-le_of_le-mul}
use Rattle.std.proofs.Math.Nat.{div-mul-le_self, div-le_self, le_of_lt, pow-le-pow_right, one-mul, mod-lt}
use Rattle.std.proofs.lemmas.Nat.{le-div, pow_pos, pow-add, shl_whole, and_mask}
use Rattle.roam_gen.specs.declared.octave.Cell.{Cell}
use Rattle.roam_gen.specs.Rows.{cell_at}
use Rattle.roam_gen.specs.Generated.{plus, product, mixed, octave_base, lattice_from, between, octave, octaves}

-- the values of a lattice have 16 bits
pub mixed-small : (z : ℕ) → mixed z < 2 ^ 64
unfolding mixed
mixed-small z =
    mod-lt (plus (product z 6364136223846793005) (product (z / 2 ^ 32) (z % 2 ^ 32)) + 1442695040888963407) (lit< tt)

pub lattice-small : (base i j : ℕ) → lattice_from base i j < 2 ^ 16
lattice-small base i j = let small = mixed-small (mixed (plus (mixed (plus base i)) j)) in omega (arith, small)

-- four parts of a square
parts-square : (w a b c d : ℕ) → c + a ≡ w → d + b ≡ w → ((c * d + a * d) + c * b) + a * b ≡ w * w
parts-square w a b c d across up =
    let low : c * d + a * d ≡ w * d = sym (add-mul c a d) ∙ ap (λ n. n * d) across in
    let high : c * b + a * b ≡ w * b = sym (add-mul c a b) ∙ ap (λ n. n * b) across in
    let all : w * d + w * b ≡ w * w = sym (mul-add w d b) ∙ ap (λ n. w * n) up in
    omega (arith, low, high, all)

-- a value of at most 65535, weighted
weighted-bound : (p c d : ℕ) → p ≤ 65535 → p * c * d ≤ 65535 * (c * d)
weighted-bound p c d small = rw (mul_assoc p c d) (mul-le-mul_right (c * d) small)

-- between four values of at most 65535 is none above
pub between-bound : (w a b p q r s : ℕ) → a ≤ w → b ≤ w → p ≤ 65535 → q ≤ 65535 → r ≤ 65535 → s ≤ 65535 →
    between w a b p q r s ≤ 65535
between-bound w a b p q r s in_a in_b in_p in_q in_r in_s =
    let square = parts-square w a b (w - a) (w - b) (omega arith) (omega arith) in
    let one = weighted-bound p (w - a) (w - b) in_p in
    let two = weighted-bound q a (w - b) in_q in
    let three = weighted-bound r (w - a) b in_r in
    let four = weighted-bound s a b in_s in
    div-le_of_le-mul (w * w) (omega (arith, square, one, two, three, four, mul_comm (w * w) 65535))

-- an octave's value has 16 bits
pub octave-bound : (seed k x y : ℕ) → octave seed k x y ≤ 65535
octave-bound seed k x y =
    let positive : 0 < 2 ^ k = pow_pos k in
    let w : ℕ = 2 ^ k in
    let base : ℕ = octave_base seed k in
    let a = lattice-small base (x / w) (y / w) in
    let b = lattice-small base (x / w + 1) (y / w) in
    let c = lattice-small base (x / w) (y / w + 1) in
    let d = lattice-small base (x / w + 1) (y / w + 1) in
    let in_x : x % w < w = mod-lt x positive in
    let in_y : y % w < w = mod-lt y positive in
    between-bound w (x % w) (y % w) (lattice_from base (x / w) (y / w)) (lattice_from base (x / w + 1) (y / w))
    (lattice_from base (x / w) (y / w + 1))
    (lattice_from base (x / w + 1) (y / w + 1)) (le_of_lt in_x) (le_of_lt in_y) (omega arith) (omega arith)
    (omega arith) (omega arith)

-- twice what a number is in a half measure is no more than it is in the whole one
halves : (x p : ℕ) → 0 < p → x / (p * 2) + x / (p * 2) ≤ x / p
halves x p positive =
    let q : ℕ = x / (p * 2) in
    let within : q * (p * 2) ≤ x = div-mul-le_self x (p * 2) in
    let twice : (q + q) * p ≡ q * (p * 2) = add-mul q q p ∙ sym (rw (sym (mul_assoc q p 2)) (omega arith)) in
    le-div (q + q) x p positive (omega (arith, within, twice))

-- a smaller number is smaller in each measure
div-small : (a b p : ℕ) → 0 < p → a ≤ b → a / p ≤ b / p
div-small a b p positive below = le-div (a / p) b p positive (let e = div-mul-le_self a p in omega (arith, e))

-- the sum of the first octaves is at most what is left for the others
octaves-below : (k n seed x y d : ℕ) → k + d ≡ n + 1 → octaves k n seed x y ≤ 65535 / 2 ^ d
unfolding octaves
octaves-below zero n seed x y d e = omega arith
octaves-below (suc k) n seed x y d e =
    let positive : 0 < 2 ^ d = pow_pos d in
    let before : octaves k n seed x y ≤ 65535 / 2 ^ (d + 1) = octaves-below k n seed x y (d + 1) (omega arith) in
    let measure : n - k + 1 ≡ d + 1 = omega arith in
    let double : 2 ^ (d + 1) ≡ 2 ^ d * 2 = pow-add 2 d 1 in
    let here : octave seed k x y / 2 ^ (n - k + 1) ≤ 65535 / 2 ^ (d + 1) =
    subst (λ (m : ℕ). octave seed k x y / 2 ^ m ≤ 65535 / 2 ^ (d + 1)) (sym measure)
    (div-small (octave seed k x y) 65535 (2 ^ (d + 1)) (pow_pos (d + 1)) (octave-bound seed k x y)) in
    let both : 65535 / 2 ^ (d + 1) + 65535 / 2 ^ (d + 1) ≤ 65535 / 2 ^ d =
    subst (λ (m : ℕ). 65535 / m + 65535 / m ≤ 65535 / 2 ^ d) (sym double) (halves 65535 (2 ^ d) positive) in
    omega (arith, before, here, both)

-- so it has 16 bits
pub octaves-bound : (k n seed x y : ℕ) → k ≤ n + 1 → octaves k n seed x y ≤ 65535
octaves-bound k n seed x y below =
    let rest : octaves k n seed x y ≤ 65535 / 2 ^ (n + 1 - k) = octaves-below k n seed x y (n + 1 - k) (omega arith) in
    let whole = div-le_self 65535 (2 ^ (n + 1 - k)) in
    omega (arith, rest, whole)

-- one octave more
pub octaves-next : (k n seed x y : ℕ) →
    octaves (k + 1) n seed x y ≡ octaves k n seed x y + octave seed k x y / 2 ^ (n - k + 1)
unfolding octaves
octaves-next k n seed x y = ap (λ m. octaves m n seed x y) (add-one k)

pub octaves-none : (n seed x y : ℕ) → octaves 0 n seed x y ≡ 0
unfolding octaves
octaves-none n seed x y = refl

-- the square of a power
square : (k : ℕ) → 2 ^ (2 * k) ≡ 2 ^ k * 2 ^ k
square k = let double : 2 * k ≡ k + k = omega arith in ap (λ m. 2 ^ m) double ∙ pow-add 2 k k

-- four weighted values, added and measured
pub value-between : (k w a b p q r s t u v z : ℕ) → w ≡ 2 ^ k → t ≡ p * (w - a) * (w - b) → u ≡ q * a * (w - b) →
    v ≡ r * (w - a) * b → z ≡ s * a * b
    → (t + u + (v + z)) / 2 ^ (2 * k) ≡ between (2 ^ k) a b p q r s
value-between k w a b p q r s t u v z is_w is_t is_u is_v is_z =
    let T : ℕ = p * (2 ^ k - a) * (2 ^ k - b) in
    let U : ℕ = q * a * (2 ^ k - b) in
    let V : ℕ = r * (2 ^ k - a) * b in
    let Z : ℕ = s * a * b in
    let t_is : t ≡ T = subst (λ (m : ℕ). t ≡ p * (m - a) * (m - b)) is_w is_t in
    let u_is : u ≡ U = subst (λ (m : ℕ). u ≡ q * a * (m - b)) is_w is_u in
    let v_is : v ≡ V = subst (λ (m : ℕ). v ≡ r * (m - a) * b) is_w is_v in
    let sum : t + u + (v + z) ≡ T + U + V + Z =
    ap (λ m. m + u + (v + z)) t_is ∙ ap (λ m. T + m + (v + z)) u_is ∙ ap (λ m. T + U + (m + z)) v_is
    ∙ ap (λ m. T + U + (V + m)) is_z
    ∙ sym (add_assoc (T + U) V Z) in
    ap (λ m. m / 2 ^ (2 * k)) sum ∙ ap (λ m. (T + U + V + Z) / m) (square k)

-- a square of the lattice has an octave's values
pub octave-part : (seed k x y a b value m : ℕ) (cell : Cell) →
    cell ≡ cell_at (octave_base seed k) (x / 2 ^ k) (y / 2 ^ k) → a ≡ x % 2 ^ k → b ≡ y % 2 ^ k
    → value ≡ between (2 ^ k) a b cell.low_left cell.low_right cell.high_left cell.high_right →
    value / m ≡ octave seed k x y / m
octave-part seed k x y a b value m cell is_cell is_a is_b is_value =
    let one : value ≡ between (2 ^ k) (x % 2 ^ k) b cell.low_left cell.low_right cell.high_left cell.high_right =
    subst (λ (u : ℕ). value
    ≡ between (2 ^ k) u b cell.low_left cell.low_right cell.high_left cell.high_right) is_a is_value in
    let two : value ≡ between (2 ^ k) (x % 2 ^ k)
    (y % 2 ^ k) cell.low_left cell.low_right cell.high_left cell.high_right =
    subst (λ (u : ℕ). value ≡ between (2 ^ k)
    (x % 2 ^ k) u cell.low_left cell.low_right cell.high_left cell.high_right) is_b one in
    let three : value ≡ octave seed k x y =
    subst (λ (c : Cell). value ≡ between (2 ^ k) (x % 2 ^ k)
    (y % 2 ^ k) c.low_left c.low_right c.high_left c.high_right) is_cell two in
    ap (λ v. v / m) three

-- a measure of at most 2048 grid steps
pub width-whole : (k : ℕ) → k ≤ 11 → 1 * 2 ^ k % 2 ^ 64 ≡ 2 ^ k
width-whole k small = shl_whole 1 1 k 64 (lit< tt) (omega arith) ∙ one-mul (2 ^ k)

pub width-small : (k : ℕ) → k ≤ 11 → 2 ^ k ≤ 2048
width-small k small = pow-le-pow_right (lit< tt) small

-- a mask leaves the remainder
pub mask-within : (k x y : ℕ) → k ≤ 11 → x ≡ y → bit_and x (1 * 2 ^ k % 2 ^ 64 - 1) ≡ y % 2 ^ k
mask-within k x y small same =
    ap (λ m. bit_and x (m - 1)) (width-whole k small) ∙ and_mask x k ∙ ap (λ v. v % 2 ^ k) same

-- a sum of octaves, and what the next one adds
pub octave-added : (k n seed x y height part : ℕ) → k ≤ n → height ≡ octaves k n seed x y →
    part ≡ octave seed k x y / 2 ^ (n - k + 1)
    → (height + part ≡ octaves (k + 1) n seed x y) × (height + part ≤ 65535)
octave-added k n seed x y height part below before adds =
    let sum : height + part ≡ octaves (k + 1) n seed x y =
    ap (λ h. h + part) before ∙ ap (λ p. octaves k n seed x y + p) adds ∙ sym (octaves-next k n seed x y) in
    let bound = octaves-bound (k + 1) n seed x y (omega arith) in
    (sum, omega (arith, sum, bound))
