-- Tables of bits: one bit more, and none.
use Rattle.std.proofs.Common.{◌≡◌, ℕ, ◌+◌, ◌*◌, ◌/◌, ◌%◌, ◌^◌, ◌<◌, ◌≤◌, Bool, true, false, ◌||◌, eqb, List, length}
use Rattle.std.proofs.Common.{get_or, set, refl, sym, ◌∙◌, ap, arith, ⊎_elim, eq-eqb}
use Rattle.std.specs.Int.{bit_at, w64}
use Rattle.std.specs.Prelude.{bit_or}
use Rattle.std.proofs.lemmas.Bool.{cases_eq, ne_eqb, or_right}
use Rattle.std.proofs.lemmas.List.{get_or-set_same, get_or-set_other}
use Rattle.std.proofs.lemmas.Nat.{one_shl}
use Rattle.std.proofs.lemmas.Nat.Bits.{bit_at_set_same, bit_at_set_other}
use Rattle.mosaic_rounds.specs.Bits.{has_bit}

-- or with false
pub or_none : (x y : Bool) → y ≡ false → (x || y) ≡ x
or_none true y e = refl
or_none false y e = e

-- the bit i is set, and the others are as they were
pub has-set : (words : List ℕ) (i j : ℕ) → i < 64 * length words →
    has_bit (set words (i / 64) (bit_or (get_or words (i / 64) 0) (1 * 2 ^ (i % 64) % 2 ^ 64))) j
    ≡ (has_bit words j || eqb i j)
unfolding has_bit
has-set words i j room = ⊎_elim
    (λ (same : j / 64 ≡ i / 64).
    let word : get_or (set words (i / 64) (bit_or (get_or words (i / 64) 0) (1 * 2 ^ (i % 64) % 2 ^ 64))) (j / 64) 0
    ≡ bit_or (get_or words (i / 64) 0) (1 * 2 ^ (i % 64) % 2 ^ 64) =
    ap (λ k. get_or (set words (i / 64) (bit_or (get_or words (i / 64) 0) (1 * 2 ^ (i % 64) % 2 ^ 64))) k 0) same
    ∙ get_or-set_same words (i / 64) (bit_or (get_or words (i / 64) 0) (1 * 2 ^ (i % 64) % 2 ^ 64)) 0 (omega arith) in
    ⊎_elim
    (λ (bit : j % 64 ≡ i % 64).
    let set_there : bit_at (bit_or (get_or words (i / 64) 0) (1 * 2 ^ (i % 64) % 2 ^ 64)) (j % 64) ≡ 1 =
    ap (bit_at (bit_or (get_or words (i / 64) 0) (1 * 2 ^ (i % 64) % 2 ^ 64))) bit
    ∙ bit_at_set_same w64 (get_or words (i / 64) 0) (i % 64) (omega arith) in
    eq-eqb _ 1 (ap (λ w. bit_at w (j % 64)) word ∙ set_there)
    ∙ sym (or_right (eqb (bit_at (get_or words (j / 64) 0) (j % 64)) 1) (eqb i j) (eq-eqb i j (omega arith))))
    (λ (other : j % 64 ≡ i % 64 → ⊥).
    let kept : bit_at (bit_or (get_or words (i / 64) 0) (1 * 2 ^ (i % 64) % 2 ^ 64)) (j % 64)
    ≡ bit_at (get_or words (j / 64) 0) (j % 64) =
    bit_at_set_other w64 (get_or words (i / 64) 0) (i % 64) (omega arith) (j % 64) other
    ∙ ap (λ k. bit_at (get_or words k 0) (j % 64)) (sym same) in
    ap (λ b. eqb b 1) (ap (λ w. bit_at w (j % 64)) word ∙ kept)
    ∙ sym (or_none (eqb (bit_at (get_or words (j / 64) 0) (j % 64)) 1) (eqb i j)
    (ne_eqb i j (λ e. other (ap (λ k. k % 64) (sym e))))))
    (cases_eq (j % 64) (i % 64)))
    (λ (other : j / 64 ≡ i / 64 → ⊥).
    ap (λ w. eqb (bit_at w (j % 64)) 1)
    (get_or-set_other words (i / 64) (j / 64) (bit_or (get_or words (i / 64) 0) (1 * 2 ^ (i % 64) % 2 ^ 64)) 0 other)
    ∙ sym (or_none (eqb (bit_at (get_or words (j / 64) 0) (j % 64)) 1) (eqb i j)
    (ne_eqb i j (λ e. other (ap (λ k. k / 64) (sym e))))))
    (cases_eq (j / 64) (i / 64))

-- how many bits a tile has, as the code finds it
pub tile-bits : (n : ℕ) → n ≤ 14 → 1 * 2 ^ (n + 2) % 2 ^ 64 ≡ 2 ^ (n + 2)
tile-bits n high = one_shl (n + 2) 64 (omega arith)
