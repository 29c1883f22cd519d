-- What the bits of a tile say, triangle by triangle, and what one bit more changes.
use Rattle.std.proofs.Common.{◌≡◌, ◌⊎◌, ℕ, zero, suc, ◌+◌, ◌*◌, ◌^◌, ◌<◌, ◌≤◌, Bool, true, false, ◌&&◌, ◌||◌}
use Rattle.std.proofs.Common.{IsTrue, nat_lt, eqb, List, refl, sym, ◌∙◌, ap, subst, arith, ⊎_elim, inl, inr, eq-eqb}
use Rattle.std.proofs.lemmas.Bool.{cases_Bool, cases_eq, ne_eqb, and_parts, and_from, and_left, or_cases, or_parts}
use Rattle.std.proofs.lemmas.Bool.{or_from, or_right, eqb-true, lt-ltb, ltb-true, both_ways}
use Rattle.std.proofs.lemmas.Nat.{same_from_place}
use Rattle.mesh_defs.specs.Triangle.{level_of}
use Rattle.mosaic_rounds.specs.Border.{is_border, side_of, place_of, bit_of}
use Rattle.mosaic_rounds.specs.Bits.{has_bit, is_kept, splits_at}
use Rattle.mosaic_rounds.proofs.BorderLemmas.{border-big, border-some, border-small, border-same}

-- neither 0 nor 1 has its base on a side
pub border-low : (a : ℕ) → IsTrue (is_border a) → 2 ≤ a
unfolding level_of
border-low zero is = absurd (both_ways false refl is)
border-low (suc zero) is = absurd (both_ways false refl is)
border-low (suc (suc a)) is = omega arith

-- 2 has none either
pub two-off : is_border 2 ≡ false
unfolding level_of
two-off = refl

-- what is kept is 2, or may be split and has its base on a side
pub kept-cases : (n a : ℕ) → IsTrue (is_kept n a) → (a ≡ 2) ⊎ ((level_of a < 2 * n) × IsTrue (is_border a))
kept-cases n a is = ⊎_elim
    (λ two. inl (eqb-true a 2 two))
    (λ other. let p = and_parts (nat_lt (level_of a) (2 * n)) (is_border a) other in
    inr (ltb-true (level_of a) (2 * n) p.0, p.1))
    (or_cases (eqb a 2) (nat_lt (level_of a) (2 * n) && is_border a) is)

pub kept-border : (n a : ℕ) → level_of a < 2 * n → IsTrue (is_border a) → IsTrue (is_kept n a)
kept-border n a coarse is =
    or_right (eqb a 2) (nat_lt (level_of a) (2 * n) && is_border a)
    (and_from (nat_lt (level_of a) (2 * n)) (is_border a) (lt-ltb (level_of a) (2 * n) coarse) is)

pub kept-two : (n : ℕ) → IsTrue (is_kept n 2)
kept-two n = refl

-- so its bit is the first of the tile's
pub splits-two : (n : ℕ) (words : List ℕ) (first : ℕ) → splits_at n words first 2 ≡ has_bit words first
splits-two n words first = at (nat_lt (level_of 2) (2 * n)) (is_border 2) two-off
  where
    none : (x : Bool) → (x || false) ≡ x
    none true = refl
    none false = refl

    at : (x y : Bool) → y ≡ false → (has_bit words first || ((x && y) && has_bit words (first + bit_of n 2)))
        ≡ has_bit words first
    at true y e = rw e (none (has_bit words first))
    at false y e = none (has_bit words first)

-- or that at its side and place
pub splits-border : (n : ℕ) (words : List ℕ) (first a : ℕ) → level_of a < 2 * n → IsTrue (is_border a) →
    splits_at n words first a ≡ has_bit words (first + bit_of n a)
splits-border n words first a coarse is =
    let other : eqb a 2 ≡ false = ne_eqb a 2 (λ two. both_ways (is_border 2) two-off
    (subst (λ k. IsTrue (is_border k)) two is)) in
    let here : (nat_lt (level_of a) (2 * n) && is_border a) ≡ true =
    and_from (nat_lt (level_of a) (2 * n)) (is_border a) (lt-ltb (level_of a) (2 * n) coarse) is in
    at (eqb a 2) (nat_lt (level_of a) (2 * n) && is_border a) other here
  where
    at : (x y : Bool) → x ≡ false → y ≡ true →
        ((x && has_bit words first) || (y && has_bit words (first + bit_of n a))) ≡ has_bit words (first + bit_of n a)
    at true y e f = absurd (both_ways true e refl)
    at false true e f = refl
    at false false e f = absurd (both_ways false refl f)

-- of a tile whose bits are the first ones
pub splits-first : (n : ℕ) (words : List ℕ) (a : ℕ) → level_of a < 2 * n → IsTrue (is_border a) →
    splits_at n words 0 a ≡ has_bit words (bit_of n a)
splits-first n words a coarse is =
    let none : 0 + bit_of n a ≡ bit_of n a = omega arith in
    splits-border n words 0 a coarse is ∙ ap (has_bit words) none

-- of what is not kept they say that it is not split
pub splits-other : (n : ℕ) (words : List ℕ) (first a : ℕ) → is_kept n a ≡ false → splits_at n words first a ≡ false
splits-other n words first a off =
    let p = or_parts (eqb a 2) (nat_lt (level_of a) (2 * n) && is_border a) off in
    or_from (eqb a 2 && has_bit words first)
    ((nat_lt (level_of a) (2 * n) && is_border a) && has_bit words (first + bit_of n a))
    (and_left (eqb a 2) (has_bit words first) p.0)
    (and_left (nat_lt (level_of a) (2 * n) && is_border a) (has_bit words (first + bit_of n a)) p.1)

pub splits-kept : (n : ℕ) (words : List ℕ) (first a : ℕ) → IsTrue (splits_at n words first a) → IsTrue (is_kept n a)
splits-kept n words first a is = ⊎_elim
    (λ kept. kept)
    (λ off. absurd (both_ways (splits_at n words first a) (splits-other n words first a off) is))
    (cases_Bool (is_kept n a))

-- two triangles on sides have two bits
pub bit-same : (n a b : ℕ) → level_of a < 2 * n → level_of b < 2 * n → IsTrue (is_border a) → IsTrue (is_border b) →
    bit_of n a ≡ bit_of n b → a ≡ b
bit-same n a b coarse coarse' is is' same =
    let low = border-low a is in
    let low' = border-low b is' in
    let e = same_from_place (side_of a) (place_of a) (side_of b) (place_of b) (2 ^ n)
    (border-small n a low is coarse) (border-small n b low' is' coarse') same in
    border-same a b low low' is is' e.0 e.1

-- no bit of a side's triangle is that of 2
bit-some : (n a : ℕ) → IsTrue (is_border a) → 1 ≤ bit_of n a
bit-some n a is = let some = border-some a (border-low a is) is in omega arith

-- one bit more is one triangle more
or_with : (x y : Bool) → (x || y) ≡ (x || (true && y))
or_with true y = refl
or_with false y = refl

or_no : (x y : Bool) → y ≡ false → x ≡ (x || (true && y))
or_no true y e = refl
or_no false y e = sym e

pub one-more : (n b i : ℕ) (old new : List ℕ) → ((j : ℕ) → has_bit new j ≡ (has_bit old j || eqb i j)) →
    ((b ≡ 2) × (i ≡ 0)) ⊎ ((level_of b < 2 * n) × IsTrue (is_border b) × (i ≡ bit_of n b)) →
    (a : ℕ) → splits_at n new 0 a ≡ (splits_at n old 0 a || (is_kept n a && eqb a b))
one-more n b i old new added which a = ⊎_elim
    (λ kept. ⊎_elim
    (λ (two : a ≡ 2). subst (λ k. splits_at n new 0 k ≡ (splits_at n old 0 k || (is_kept n k && eqb k b))) (sym two)
    (splits-two n new 0 ∙ added 0 ∙ ap (λ t. t || eqb i 0) (sym (splits-two n old 0))
    ∙ ap (λ t. splits_at n old 0 2 || t) (at_two which)))
    (λ (border : (level_of a < 2 * n) × IsTrue (is_border a)).
    splits-first n new a border.0 border.1 ∙ added (bit_of n a)
    ∙ ap (λ t. t || eqb i (bit_of n a)) (sym (splits-first n old a border.0 border.1))
    ∙ ap (λ t. splits_at n old 0 a || t) (at_border border.0 border.1 which)
    ∙ ap (λ k. splits_at n old 0 a || (k && eqb a b)) (sym kept))
    (kept-cases n a kept))
    (λ off. splits-other n new 0 a off ∙ sym (or_from (splits_at n old 0 a) (is_kept n a && eqb a b)
    (splits-other n old 0 a off) (and_left (is_kept n a) (eqb a b) off)))
    (cases_Bool (is_kept n a))
  where
    at_two : ((b ≡ 2) × (i ≡ 0)) ⊎ ((level_of b < 2 * n) × IsTrue (is_border b) × (i ≡ bit_of n b)) →
        eqb i 0 ≡ eqb 2 b
    at_two (inl two) = eq-eqb i 0 two.1 ∙ sym (eq-eqb 2 b (sym two.0))
    at_two (inr border) =
        let some = bit-some n b border.1 in
        let is = border.2 in
        let big = border-big b (border-low b border.1) border.1 in
        ne_eqb i 0 (λ e. omega arith) ∙ sym (ne_eqb 2 b (λ e. omega arith))

    at_border : level_of a < 2 * n → IsTrue (is_border a) →
        ((b ≡ 2) × (i ≡ 0)) ⊎ ((level_of b < 2 * n) × IsTrue (is_border b) × (i ≡ bit_of n b)) →
        eqb i (bit_of n a) ≡ (true && eqb a b)
    at_border coarse is (inl two) =
        let some = bit-some n a is in
        let big = border-big a (border-low a is) is in
        let first = two.0 in
        let zero = two.1 in
        ne_eqb i (bit_of n a) (λ e. omega arith) ∙ sym (ne_eqb a b (λ e. omega arith))
    at_border coarse is (inr border) = ⊎_elim
        (λ (same : a ≡ b).
        eq-eqb i (bit_of n a) (border.2 ∙ ap (bit_of n) (sym same)) ∙ sym (eq-eqb a b same))
        (λ (other : a ≡ b → ⊥).
        ne_eqb i (bit_of n a) (λ e. other (bit-same n a b coarse border.0 is border.1 (sym e ∙ border.2)))
        ∙ sym (ne_eqb a b other))
        (cases_eq a b)
