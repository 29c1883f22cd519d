-- Corners of addresses: those of a child, and that all lie within the square.
use Rattle.std.proofs.Common.{◌≡◌, ◌-◌, ◌∙◌, ap, if◌then◌else◌, nat_eq, bit_and, ℕ, zero, suc, ◌+◌, ◌*◌, ◌/◌, ◌%◌, ◌^◌}
use Rattle.std.proofs.Common.{◌<◌, ◌≤◌, refl, arith, add-one}
use Rattle.std.proofs.Math.Pow.{pow_mono}
use Rattle.std.proofs.lemmas.Nat.{and_mask, one_shl, shr-shr}
use Rattle.mesh_defs.specs.declared.point.Corners.{Corners}
use Rattle.mesh_defs.specs.Triangle.{level_of, base_triangle, child, corners_at, corners_of}
use Rattle.bintree_laws.specs.Corners.{IsWithin}
use Rattle.bintree_laws.proofs.LevelLemmas.{level_of-left, level_of-right}

-- ---- the halves of the square

-- the corners of the lower half
pub corners_of-2 : (n : ℕ) → corners_of n 2 ≡ base_triangle (2 ^ n) 0
unfolding corners_of level_of
corners_of-2 n = refl

-- the corners of the upper half
pub corners_of-3 : (n : ℕ) → corners_of n 3 ≡ base_triangle (2 ^ n) 1
unfolding corners_of level_of
corners_of-3 n = refl

-- ---- children

-- a left child, one level down
pub corners_at-left : (level m a : ℕ) → corners_at (suc level) m (2 * a) ≡ child 0 (corners_at level m a)
corners_at-left level m a =
    let side : 2 * a % 2 ≡ 0 = omega arith in
    let half : 2 * a / 2 ≡ a = omega arith in rw (side, half) refl

-- a right child, one level down
pub corners_at-right : (level m a : ℕ) → corners_at (suc level) m (2 * a + 1) ≡ child 1 (corners_at level m a)
corners_at-right level m a =
    let side : (2 * a + 1) % 2 ≡ 1 = omega arith in
    let half : (2 * a + 1) / 2 ≡ a = omega arith in rw (side, half) refl

-- the corners of a left child
pub corners_of-left : (n a : ℕ) → 2 ≤ a → corners_of n (2 * a) ≡ child 0 (corners_of n a)
unfolding corners_of
corners_of-left n a low = rw (level_of-left a low, add-one (level_of a)) (corners_at-left (level_of a) (2 ^ n) a)

-- the corners of a right child
pub corners_of-right : (n a : ℕ) → 2 ≤ a → corners_of n (2 * a + 1) ≡ child 1 (corners_of n a)
unfolding corners_of
corners_of-right n a low = rw (level_of-right a low, add-one (level_of a)) (corners_at-right (level_of a) (2 ^ n) a)

-- ---- within the square

-- a base triangle lies within the square
pub IsWithin-base : (m half : ℕ) → IsWithin m (base_triangle m half)
IsWithin-base m zero = grind arith
IsWithin-base m (suc _) = grind arith

-- a child lies where its parent does
pub IsWithin-child : (m side : ℕ) (c : Corners) → IsWithin m c → IsWithin m (child side c)
IsWithin-child m zero c w = record {
  apex_x = omega arith;
  apex_y = omega arith;
  v0_x = w.apex_x;
  v0_y = w.apex_y;
  v1_x = w.v0_x;
  v1_y = w.v0_y;
}
IsWithin-child m (suc _) c w = record {
  apex_x = omega arith;
  apex_y = omega arith;
  v0_x = w.v1_x;
  v0_y = w.v1_y;
  v1_x = w.apex_x;
  v1_y = w.apex_y;
}

-- so every triangle lies within the square
pub IsWithin-corners_at : (level m a : ℕ) → IsWithin m (corners_at level m a)
IsWithin-corners_at zero m a = IsWithin-base m (a % 2)
IsWithin-corners_at (suc level) m a = IsWithin-child m (a % 2) (corners_at level m (a / 2))
    (IsWithin-corners_at level m (a / 2))

-- every corner lies within the square
pub IsWithin-corners_of : (n a : ℕ) → IsWithin (2 ^ n) (corners_of n a)
unfolding corners_of
IsWithin-corners_of n a = IsWithin-corners_at (level_of a) (2 ^ n) a

-- and within a wider one
pub IsWithin-wider : (m k : ℕ) (c : Corners) → m ≤ k → IsWithin m c → IsWithin k c
IsWithin-wider m k c le w = grind arith

-- and within the largest square
pub IsWithin-largest : (n : ℕ) (c : Corners) → n ≤ 14 → IsWithin (2 ^ n) c → IsWithin (2 ^ 14) c
IsWithin-largest n c small w = IsWithin-wider (2 ^ n) (2 ^ 14) c (pow_mono small) w

-- what is reached on the way down lies within the largest square
pub IsWithin-reached : (level n a : ℕ) (c : Corners) → n ≤ 14 → c ≡ corners_at level (2 ^ n) a → IsWithin (2 ^ 14) c
IsWithin-reached level n a c small reached =
    let le : 2 ^ n ≤ 2 ^ 14 = pow_mono small in rw reached
    (IsWithin-wider (2 ^ n) (2 ^ 14) (corners_at level (2 ^ n) a) le (IsWithin-corners_at level (2 ^ n) a))

-- ---- a step of the way down

bit_cases : (bit : ℕ) → bit < 2 → (if nat_eq bit 1 then 1 else 0) ≡ bit
bit_cases zero low = refl
bit_cases (suc zero) low = refl
bit_cases (suc (suc _)) low = absurd (omega arith)

low_bit : (x : ℕ) → (if nat_eq (bit_and x 1) 1 then 1 else 0) ≡ x % 2
low_bit x = let bit : bit_and x 1 ≡ x % 2 = and_mask x 1 in rw bit (bit_cases (x % 2) (omega arith))

-- one step of the way down, from the corners so far to those of the child that the next bit names
pub corners_at-next : (level below m number : ℕ) (c d : Corners) → 0 < below → below ≤ level → c ≡ corners_at
    (level - below) m (number / 2 ^ below) → d ≡ child
    (if nat_eq (bit_and (number / 2 ^ (below - 1)) 1) 1 then 1 else 0) c → d ≡ corners_at (level - (below - 1)) m
    (number / 2 ^ (below - 1))
corners_at-next level below m number c d some fits reached next =
    let deeper : level - (below - 1) ≡ suc (level - below) = omega arith in
    let same : (below - 1) + 1 ≡ below = omega arith in
    let half : number / 2 ^ (below - 1) / 2 ≡ number / 2 ^ below = shr-shr number (below - 1) 1 ∙ ap
    (λ k. number / 2 ^ k) same in
    let bit : (if nat_eq (bit_and (number / 2 ^ (below - 1)) 1) 1 then 1 else 0) ≡ number / 2 ^
    (below - 1) % 2 = low_bit (number / 2 ^ (below - 1)) in
    next ∙ (rw (deeper, bit, half, ← reached) refl)

-- the way begins at a base triangle
pub corners_at-start : (level n number : ℕ) (c : Corners) → n ≤ 14 → c ≡ base_triangle (1 * 2 ^ n % 4294967296)
    (if nat_eq (bit_and (number / 2 ^ level) 1) 1 then 1 else 0) → c ≡ corners_at (level - level) (2 ^ n)
    (number / 2 ^ level)
corners_at-start level n number c small start =
    let none : level - level ≡ 0 = omega arith in
    let side : 1 * 2 ^ n % 4294967296 ≡ 2 ^ n = one_shl n 32 (omega arith) in
    start ∙ rw (none, side, low_bit (number / 2 ^ level)) refl

-- and ends at the triangle itself
pub corners_at-end : (level below n number : ℕ) → below ≤ 0 → level ≡ level_of number → corners_at (level - below)
    (2 ^ n) (number / 2 ^ below) ≡ corners_of n number
unfolding corners_of
corners_at-end level below n number none same =
    let zeroth : below ≡ 0 = omega arith in
    let all : level - 0 ≡ level = omega arith in
    let whole : number / 2 ^ 0 ≡ number = omega arith in
    rw (zeroth, all, whole, same) refl

-- the largest side; the first part shows `grind` the power to match
pub side_small : (n : ℕ) → n ≤ 14 → (2 ^ n ≡ 2 ^ n) × (2 ^ n ≤ 16384)
side_small n small = (refl, pow_mono small)
