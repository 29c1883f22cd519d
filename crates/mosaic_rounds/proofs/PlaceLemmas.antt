-- Each triangle that is kept has a bit, and each bit that is used is that of one.
use Rattle.std.proofs.Common.{◌≡◌, ◌⊎◌, ℕ, zero, suc, ◌+◌, ◌*◌, ◌/◌, ◌%◌, ◌^◌, ◌<◌, ◌≤◌, false}
use Rattle.std.proofs.Common.{IsTrue, List, replicate, get_or, refl, sym, ◌∙◌, ap, subst, arith, ⊎_elim, inl, inr}
use Rattle.std.specs.Int.{bit_at}
use Rattle.std.proofs.lemmas.Bool.{cases_Bool, ne_eqb}
use Rattle.std.proofs.lemmas.Nat.{mul-add-lt, pow-add, pow_pos, mod-mul-add, div-add-mod', div_below, mod_below}
use Rattle.std.proofs.lemmas.Nat.Bits.{bit_at-zero}
use Rattle.mesh_defs.specs.Triangle.{level_of}
use Rattle.mosaic_rounds.specs.Border.{is_border, side_of, place_of, bit_of}
use Rattle.mosaic_rounds.specs.Bits.{has_bit, is_kept, splits_at}
use Rattle.mosaic_rounds.proofs.BorderLemmas.{border-found, border-coarse, border-small, border-some, border-placed}
use Rattle.mosaic_rounds.proofs.SplitLemmas.{border-low, kept-cases, kept-border, kept-two, splits-two, splits-border}
use Rattle.mosaic_rounds.proofs.SplitLemmas.{splits-other}

-- a bit that is used: the first one, or any but the first of a side
abbrev pub IsUsed : ℕ → ℕ → Type 0
IsUsed n bit = (bit ≡ 0) ⊎ (0 < bit % 2 ^ n)

-- the bit tells of a triangle whether it is split, whatever the table and its beginning
abbrev pub Tells : ℕ → ℕ → ℕ → Type 0
Tells n bit a = (words : List ℕ) (first : ℕ) → splits_at n words first a ≡ has_bit words (first + bit)

tells-two : (n : ℕ) → Tells n 0 2
tells-two n words first = splits-two n words first ∙ ap (has_bit words) (omega arith)

-- a side has 2 ^ n bits
four_sides : (n : ℕ) → 2 ^ (n + 2) ≡ 2 ^ n * 4
four_sides n = pow-add 2 n 2

pub kept-bit : (n a : ℕ) → IsTrue (is_kept n a) →
    (bit : ℕ) × (bit < 2 ^ (n + 2)) × IsUsed n bit × Tells n bit a
kept-bit n a kept = ⊎_elim
    (λ (two : a ≡ 2). (
      0,
      pow_pos (n + 2),
      inl refl,
      subst (Tells n 0) (sym two) (tells-two n),
    ))
    (λ (border : (level_of a < 2 * n) × IsTrue (is_border a)).
    let low = border-low a border.1 in
    let small = border-small n a low border.1 border.0 in
    let side = (border-placed a low border.1).side in
    let some = border-some a low border.1 in
    let four = four_sides n in
    let less = mul-add-lt (side_of a) (2 ^ n) (place_of a) 4 side small in
    let rest : bit_of n a % 2 ^ n ≡ place_of a = mod-mul-add (side_of a) (2 ^ n) (place_of a) small in (
      bit_of n a,
      omega arith,
      inr (omega arith),
      λ words first. splits-border n words first a border.0 border.1,
    ))
    (kept-cases n a kept)

pub used-bit : (n bit : ℕ) → bit < 2 ^ (n + 2) → IsUsed n bit → (a : ℕ) × IsTrue (is_kept n a) × Tells n bit a
used-bit n bit less (inl first) = (2, kept-two n, subst (λ k. Tells n k 2) (sym first) (tells-two n))
used-bit n bit less (inr some) =
    let four = four_sides n in
    let all = pow_pos n in
    let side : bit / 2 ^ n < 4 = div_below bit (2 ^ n) 4 all (omega arith) in
    let place : bit % 2 ^ n < 2 ^ n = mod_below bit (2 ^ n) all in
    let a = border-found (bit / 2 ^ n) (bit % 2 ^ n) side some in
    let low : 2 ≤ a.0 = (let big = a.1 in omega arith) in
    let place_is : place_of a.0 ≡ bit % 2 ^ n = a.4 in
    let coarse = border-coarse n a.0 low a.2 (omega arith) in
    let side_is : side_of a.0 * 2 ^ n ≡ bit / 2 ^ n * 2 ^ n = ap (λ k. k * 2 ^ n) a.3 in
    let whole = div-add-mod' bit (2 ^ n) in
    let same : bit_of n a.0 ≡ bit = omega arith in (
      a.0,
      kept-border n a.0 coarse a.2,
      λ words first. splits-border n words first a.0 coarse a.2 ∙ ap (λ k. has_bit words (first + k)) same,
    )

-- a table of zeros says that nothing is split
zero-word : (k i : ℕ) → ◌≡◌ {A = ℕ} (get_or (replicate k 0) i 0) 0
zero-word zero i = refl
zero-word (suc k) zero = refl
zero-word (suc k) (suc i) = zero-word k i

zero-bit : (k i : ℕ) → has_bit (replicate k 0) i ≡ false
unfolding has_bit
zero-bit k i = ne_eqb (bit_at (get_or (replicate k 0) (i / 64) 0) (i % 64)) 1 (λ e.
    let none : bit_at (get_or (replicate k 0) (i / 64) 0) (i % 64) ≡ 0 =
    ap (λ w. bit_at w (i % 64)) (zero-word k (i / 64)) ∙ bit_at-zero (i % 64) in omega arith)

pub splits-zero : (n k first a : ℕ) → splits_at n (replicate k 0) first a ≡ false
splits-zero n k first a = ⊎_elim
    (λ kept. let b = kept-bit n a kept in b.3 (replicate k 0) first ∙ zero-bit k (first + b.0))
    (λ off. splits-other n (replicate k 0) first a off)
    (cases_Bool (is_kept n a))
