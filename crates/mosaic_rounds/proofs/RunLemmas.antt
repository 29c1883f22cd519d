-- Runs of bits, all in one word: read as a number, compared, and set.
use Rattle.std.proofs.Common.{◌≡◌, ◌⊎◌, ℕ, ◌+◌, ◌-◌, ◌*◌, ◌/◌, ◌%◌, ◌^◌, ◌<◌, ◌≤◌, true, false, ◌&&◌, ◌||◌, IsTrue, eqb}
use Rattle.std.proofs.Common.{nat_lt, List, length, get_or, set, sym, ◌∙◌, ap, arith, ⊎_elim, inl, inr, eq-eqb}
use Rattle.std.proofs.Common.{pow_pos, pow_mono}
use Rattle.std.specs.Int.{bit_at, bit_not, trailing_zeros, w64}
use Rattle.std.specs.Prelude.{bit_and, bit_or, max, min}
use Rattle.std.proofs.lemmas.Bool.{cases_eq, cases_lt, ne_eqb, eqb-true, or_right, and_left, lt-ltb, le-ltb}
use Rattle.std.proofs.lemmas.List.{get_or-set_same, get_or-set_other}
use Rattle.std.proofs.lemmas.Nat.{and_mask, and_le_l, mod_below, shr-shr, shl_whole}
use Rattle.std.proofs.lemmas.Nat.Bits.{bit_at_and, bit_at_or, bit_at_not, bit_at-lt, bit_at-zero, bit_at_ones}
use Rattle.std.proofs.lemmas.Nat.Bits.{bit_at-trailing_zeros, bit_at_above, bit_at_cat_low, bit_at_cat_high, ones_shr}
use Rattle.mosaic_rounds.specs.Bits.{has_bit}
use Rattle.mosaic_rounds.proofs.BitLemmas.{or_none}

-- the mask of a run
run-mask : (run : ℕ) → run ≤ 64 → (2 ^ 64 - 1) / 2 ^ (64 - run) ≡ 2 ^ run - 1
run-mask run most =
    let width : 64 - (64 - run) ≡ run = omega arith in
    ones_shr 64 (64 - run) (omega arith) ∙ ap (λ k. 2 ^ k - 1) width

pub run-below : (n run : ℕ) → run ≤ 64 → bit_and n ((2 ^ 64 - 1) / 2 ^ (64 - run)) < 2 ^ run
run-below n run most =
    let same : bit_and n ((2 ^ 64 - 1) / 2 ^ (64 - run)) ≡ n % 2 ^ run =
    ap (bit_and n) (run-mask run most) ∙ and_mask n run in
    let less = mod_below n (2 ^ run) (pow_pos run) in omega arith

-- the bits of a run are those of its word
run-bit : (n place run k : ℕ) → run ≤ 64 → k < run →
    bit_at (bit_and (n / 2 ^ place) ((2 ^ 64 - 1) / 2 ^ (64 - run))) k ≡ bit_at n (place + k)
run-bit n place run k most less =
    let both = bit_at_and (n / 2 ^ place) ((2 ^ 64 - 1) / 2 ^ (64 - run)) k in
    let mask : bit_at ((2 ^ 64 - 1) / 2 ^ (64 - run)) k ≡ 1 =
    ap (λ m. bit_at m k) (run-mask run most) ∙ bit_at_ones run k less in
    let small = bit_at-lt (n / 2 ^ place) k in
    let one : bit_at (bit_and (n / 2 ^ place) ((2 ^ 64 - 1) / 2 ^ (64 - run))) k ≡ bit_at (n / 2 ^ place) k =
    both ∙ ap (min (bit_at (n / 2 ^ place) k)) mask ∙ least (bit_at (n / 2 ^ place) k) small in
    one ∙ ap (λ m. m % 2) (shr-shr n place k)
  where
    least : (x : ℕ) → x < 2 → min x 1 ≡ x
    least x small = omega arith

pub run-inside : (words : List ℕ) (i run k : ℕ) → i % 64 + run ≤ 64 → k < run →
    eqb (bit_at (bit_and (get_or words (i / 64) 0 / 2 ^ (i % 64)) ((2 ^ 64 - 1) / 2 ^ (64 - run))) k) 1
    ≡ has_bit words (i + k)
unfolding has_bit
run-inside words i run k within less =
    let word : (i + k) / 64 ≡ i / 64 = omega arith in
    let place : (i + k) % 64 ≡ i % 64 + k = omega arith in
    ap (λ b. eqb b 1) (run-bit (get_or words (i / 64) 0) (i % 64) run k (omega arith) less
    ∙ sym (ap (bit_at (get_or words (i / 64) 0)) place)
    ∙ sym (ap (λ w. bit_at (get_or words w 0) ((i + k) % 64)) word))

-- a bit of one number that another has not
more-bit : (a b k : ℕ) → b < 2 ^ 64 → k < 64 →
    bit_at (bit_and a (bit_not w64 b)) k ≡ min (bit_at a k) (1 - bit_at b k)
more-bit a b k small within =
    bit_at_and a (bit_not w64 b) k ∙ ap (min (bit_at a k)) (bit_at_not w64 b k small within)

more-some : (a b run : ℕ) → run ≤ 64 → a < 2 ^ run → b < 2 ^ run → (bit_and a (bit_not w64 b) ≡ 0 → ⊥) →
    (k : ℕ) × (k < run) × (bit_at a k ≡ 1) × (bit_at b k ≡ 0)
more-some a b run most small small' some =
    let wide : 2 ^ run ≤ 2 ^ 64 = pow_mono most in
    let part = and_le_l a (bit_not w64 b) in
    let first = bit_at-trailing_zeros w64 (bit_and a (bit_not w64 b)) (pos (bit_and a (bit_not w64 b)) some)
    (omega arith) in
    at (trailing_zeros w64 (bit_and a (bit_not w64 b))) first.0
    (sym (more-bit a b (trailing_zeros w64 (bit_and a (bit_not w64 b))) (omega arith) first.0) ∙ first.1)
  where
    pos : (n : ℕ) → (n ≡ 0 → ⊥) → 0 < n
    pos n some = ⊎_elim (λ (less : n < 1). absurd (some (omega arith))) (λ more. more) (cases_lt n 1)

    at : (k : ℕ) → k < 64 → min (bit_at a k) (1 - bit_at b k) ≡ 1 →
        (k : ℕ) × (k < run) × (bit_at a k ≡ 1) × (bit_at b k ≡ 0)
    at k within one =
        let la = bit_at-lt a k in
        let lb = bit_at-lt b k in ⊎_elim
        (λ (less : k < run). (k, less, omega arith, omega arith))
        (λ (from : run ≤ k). let none = bit_at_above a run k small from in absurd (omega arith))
        (cases_lt k run)

more-none : (a b k : ℕ) → b < 2 ^ 64 → k < 64 → bit_and a (bit_not w64 b) ≡ 0 → bit_at a k ≡ 1 → bit_at b k ≡ 1
more-none a b k small within none one =
    let least : min (bit_at a k) (1 - bit_at b k) ≡ 0 =
    sym (more-bit a b k small within) ∙ ap (λ n. bit_at n k) none ∙ bit_at-zero k in
    let lb = bit_at-lt b k in omega arith

module _ (words others : List ℕ) (i j done run count a b : ℕ) (most : run ≤ 64) (small : a < 2 ^ run)
    (small' : b < 2 ^ run) (inside : (k : ℕ) → k < run → eqb (bit_at a k) 1 ≡ has_bit words (i + done + k))
    (inside' : (k : ℕ) → k < run → eqb (bit_at b k) 1 ≡ has_bit others (j + done + k)) where
  -- a run with a bit that the other has not
  pub run-exceeds : done + run ≤ count → (bit_and a (bit_not w64 b) ≡ 0 → ⊥) →
      (k : ℕ) × (k < count) × IsTrue (has_bit words (i + k)) × (has_bit others (j + k) ≡ false)
  run-exceeds within some =
      let m = more-some a b run most small small' some in
      let less = m.1 in
      let at : i + (done + m.0) ≡ i + done + m.0 = omega arith in
      let at' : j + (done + m.0) ≡ j + done + m.0 = omega arith in
      let off = m.3 in (
        done + m.0,
        omega arith,
        ap (has_bit words) at ∙ sym (inside m.0 m.1) ∙ eq-eqb (bit_at a m.0) 1 m.2,
        ap (has_bit others) at' ∙ sym (inside' m.0 m.1) ∙ ne_eqb (bit_at b m.0) 1 (λ e. omega arith),
      )

  -- or without
  pub run-passed : bit_and a (bit_not w64 b) ≡ 0 →
      ((k : ℕ) → k < done → has_bit words (i + k) ≡ true → has_bit others (j + k) ≡ true) →
      (k : ℕ) → k < done + run → has_bit words (i + k) ≡ true → has_bit others (j + k) ≡ true
  run-passed none before k less is = ⊎_elim
      (λ (old : k < done). before k old is)
      (λ (from : done ≤ k).
      let wide : 2 ^ run ≤ 2 ^ 64 = pow_mono most in
      let m : k - done < run = omega arith in
      let at : i + done + (k - done) ≡ i + k = omega arith in
      let at' : j + done + (k - done) ≡ j + k = omega arith in
      let here = eqb-true (bit_at a (k - done)) 1 (inside (k - done) m ∙ ap (has_bit words) at ∙ is) in
      let there = more-none a b (k - done) (omega arith) (omega arith) none here in
      sym (ap (has_bit others) at') ∙ sym (inside' (k - done) m) ∙ eq-eqb (bit_at b (k - done)) 1 there)
      (cases_lt k done)

-- bits of one number or of another
or-bit : (x y : ℕ) → x < 2 → y < 2 → eqb (max x y) 1 ≡ (eqb x 1 || eqb y 1)
or-bit x y small small' = ⊎_elim
    (λ (is : y ≡ 1). eq-eqb (max x y) 1 (omega arith) ∙ sym (or_right (eqb x 1) (eqb y 1) (eq-eqb y 1 is)))
    (λ (no : y ≡ 1 → ⊥).
    let same : max x y ≡ x = omega arith in
    ap (λ b. eqb b 1) same ∙ sym (or_none (eqb x 1) (eqb y 1) (ne_eqb y 1 no)))
    (cases_eq y 1)

-- a table with these bits from this one on
abbrev pub with_run : List ℕ → ℕ → ℕ → List ℕ
with_run words at bits = set words (at / 64) (bit_or (get_or words (at / 64) 0) (bits * 2 ^ (at % 64) % 2 ^ 64))

module _ (words : List ℕ) (at run bits : ℕ) (room : at < 64 * length words) (within : at % 64 + run ≤ 64)
    (small : bits < 2 ^ run) where
  -- the run in its word
  moved : bits * 2 ^ (at % 64) % 2 ^ 64 ≡ bits * 2 ^ (at % 64) + 0
  moved =
      let whole : bits * 2 ^ (at % 64) % 2 ^ 64 ≡ bits * 2 ^ (at % 64) =
      shl_whole bits run (at % 64) 64 small (omega arith) in omega arith

  word-bit : (x : ℕ) → x / 64 ≡ at / 64 →
      has_bit (with_run words at bits) x ≡ (has_bit words x || eqb (bit_at (bits * 2 ^ (at % 64) + 0) (x % 64)) 1)
  unfolding has_bit
  word-bit x same =
      let word : get_or (with_run words at bits) (x / 64) 0
      ≡ bit_or (get_or words (at / 64) 0) (bits * 2 ^ (at % 64) + 0) =
      ap (λ k. get_or (with_run words at bits) k 0) same
      ∙ get_or-set_same words (at / 64) (bit_or (get_or words (at / 64) 0) (bits * 2 ^ (at % 64) % 2 ^ 64)) 0
      (omega arith)
      ∙ ap (bit_or (get_or words (at / 64) 0)) moved in
      ap (λ w. eqb (bit_at w (x % 64)) 1) word
      ∙ ap (λ b. eqb b 1) (bit_at_or (get_or words (at / 64) 0) (bits * 2 ^ (at % 64) + 0) (x % 64))
      ∙ or-bit (bit_at (get_or words (at / 64) 0) (x % 64)) (bit_at (bits * 2 ^ (at % 64) + 0) (x % 64))
      (bit_at-lt (get_or words (at / 64) 0) (x % 64)) (bit_at-lt (bits * 2 ^ (at % 64) + 0) (x % 64))
      ∙ ap (λ k. eqb (bit_at (get_or words k 0) (x % 64)) 1 || eqb (bit_at (bits * 2 ^ (at % 64) + 0) (x % 64)) 1)
      (sym same)

  pub run-set : (k : ℕ) → k < run → has_bit (with_run words at bits) (at + k) ≡ (has_bit words (at + k) || eqb (bit_at bits k) 1)
  run-set k less =
      let word : (at + k) / 64 ≡ at / 64 = omega arith in
      let place : (at + k) % 64 - at % 64 ≡ k = omega arith in
      let high = bit_at_cat_high bits (at % 64) 0 ((at + k) % 64) (pow_pos (at % 64)) (omega arith) in
      word-bit (at + k) word
      ∙ ap (λ b. has_bit words (at + k) || eqb b 1) (high ∙ ap (bit_at bits) place)

  pub run-other : (x : ℕ) → (x < at) ⊎ (at + run ≤ x) → has_bit (with_run words at bits) x ≡ has_bit words x
  unfolding has_bit
  run-other x out = ⊎_elim
      (λ (same : x / 64 ≡ at / 64).
      word-bit x same ∙ or_none (has_bit words x) (eqb (bit_at (bits * 2 ^ (at % 64) + 0) (x % 64)) 1)
      (ne_eqb (bit_at (bits * 2 ^ (at % 64) + 0) (x % 64)) 1
      (λ e. ⊎_elim
      (λ (below : x < at).
      let low = bit_at_cat_low bits (at % 64) 0 (x % 64) (omega arith) in
      let zero = bit_at-zero (x % 64) in absurd (omega arith))
      (λ (above : at + run ≤ x).
      let high = bit_at_cat_high bits (at % 64) 0 (x % 64) (pow_pos (at % 64)) (omega arith) in
      let none = bit_at_above bits run (x % 64 - at % 64) small (omega arith) in absurd (omega arith))
      out)))
      (λ (other : x / 64 ≡ at / 64 → ⊥).
      ap (λ w. eqb (bit_at w (x % 64)) 1)
      (get_or-set_other words (at / 64) (x / 64)
      (bit_or (get_or words (at / 64) 0) (bits * 2 ^ (at % 64) % 2 ^ 64)) 0 other))
      (cases_eq (x / 64) (at / 64))

-- one run more
pub run-added : (words old others : List ℕ) (i j done run bits : ℕ) → i + done < 64 * length words →
    (i + done) % 64 + run ≤ 64 → bits < 2 ^ run →
    ((k : ℕ) → k < run → eqb (bit_at bits k) 1 ≡ has_bit others (j + done + k)) →
    ((k : ℕ) → has_bit words (i + k) ≡ (has_bit old (i + k) || (nat_lt k done && has_bit others (j + k)))) →
    (k : ℕ) → has_bit (with_run words (i + done) bits) (i + k)
    ≡ (has_bit old (i + k) || (nat_lt k (done + run) && has_bit others (j + k)))
run-added words old others i j done run bits room within small inside added k = ⊎_elim
    (λ (before : k < done).
    run-other words (i + done) run bits room within small (i + k) (inl (omega arith)) ∙ added k
    ∙ ap (λ t. has_bit old (i + k) || (t && has_bit others (j + k)))
    (lt-ltb k done before ∙ sym (lt-ltb k (done + run) (omega arith))))
    (λ (from : done ≤ k). ⊎_elim
    (λ (less : k < done + run).
    let m : k - done < run = omega arith in
    let at : i + done + (k - done) ≡ i + k = omega arith in
    let at' : j + done + (k - done) ≡ j + k = omega arith in
    ap (has_bit (with_run words (i + done) bits)) (sym at)
    ∙ run-set words (i + done) run bits room within small (k - done) m
    ∙ ap (λ x. has_bit words x || eqb (bit_at bits (k - done)) 1) at
    ∙ ap (λ b. b || eqb (bit_at bits (k - done)) 1) (added k ∙ or_none (has_bit old (i + k))
    (nat_lt k done && has_bit others (j + k)) (and_left (nat_lt k done) (has_bit others (j + k)) (le-ltb k done from)))
    ∙ ap (λ b. has_bit old (i + k) || b) (inside (k - done) m ∙ ap (has_bit others) at'
    ∙ sym (ap (λ t. t && has_bit others (j + k)) (lt-ltb k (done + run) less))))
    (λ (after : done + run ≤ k).
    run-other words (i + done) run bits room within small (i + k) (inr (omega arith)) ∙ added k
    ∙ ap (λ t. has_bit old (i + k) || (t && has_bit others (j + k)))
    (le-ltb k done from ∙ sym (le-ltb k (done + run) after)))
    (cases_lt k (done + run)))
    (cases_lt k done)
