-- Digits that are read one after the other, and a first byte that is a `-`.
use Rattle.std.proofs.Common.{drop, nat_eq, [], inl, inr, ◌≡◌, pos, neg_ℤ, Option, Some, None, IfSome, take_all}
use Rattle.std.proofs.Common.{length-take, ◌∷◌, ℕ, ◌+◌, ◌-◌, ◌*◌, ◌^◌, ◌<◌, ◌≤◌, true, false, List, length, get_or}
use Rattle.std.proofs.Common.{take, sym, ◌∙◌, ap, subst, arith, lit<}
use Rattle.std.specs.Str.{all_ascii_digits}
use Rattle.std.specs.Char.{is_ascii_digit, digit_value}
use Rattle.std.specs.Str.Parse.{AllDigits, digits_value}
use Rattle.std.specs.Cmp.Lexicographic.{pointwise}
use Rattle.std.specs.Option.{option_map}
use Rattle.std.proofs.lemmas.Str.Parse.{digit_at}
use Rattle.std.proofs.lemmas.Int.Digits.{digits_value-lt, digits_value_more, digits_more}
use Rattle.std.proofs.lemmas.Bool.Decides.{eqb_tells}
use Rattle.std.proofs.Math.Nat.{pow-le-pow_right}
use Rattle.text_laws.specs.Digits.{value_of}
use Rattle.text_laws.specs.Numbers.{number_in, signed_in}
use Rattle.text_laws.proofs.NumberLemmas.{numerals, signed-minus, signed-plain}

-- a byte that is no digit stands in no text of digits
pub not_digits : (bs : List ℕ) (i : ℕ) → i < length bs → is_ascii_digit (get_or bs i 0) ≡ false →
    all_ascii_digits bs ≡ true → ⊥
not_digits bs i h refused all = let r = digit_at bs i (numerals.to bs all) h in grind (arith, r)

-- a digit's value is its distance from `0`
pub digit-value : (c : ℕ) → is_ascii_digit c ≡ true → (digit_value c ≡ c - 48) × (digit_value c < 10)
digit-value c h = grind arith

-- the number of a prefix of at most 19 digits leaves room for one more digit in 64 bits
pub small_front : (bs : List ℕ) (i : ℕ) → i < length bs → length bs ≤ 19 → AllDigits 10 (take i bs) →
    digits_value 10 (take i bs) < 10 ^ 18
small_front bs i h short all =
    let below = digits_value-lt 10 (take i bs) all in
    let size : length (take i bs) ≤ 18 = simp length-take (omega arith) in
    let top : 10 ^ length (take i bs) ≤ 10 ^ 18 = pow-le-pow_right (lit< tt) size in
    omega (arith, below, top)

pub next_value : (bs : List ℕ) (i v : ℕ) → i < length bs → is_ascii_digit (get_or bs i 0) ≡ true →
    v ≡ digits_value 10 (take i bs) → 10 * v + (get_or bs i 0 - 48) ≡ digits_value 10 (take (i + 1) bs)
next_value bs i v h digit e =
    let step = digits_value_more 10 bs i h in
    let worth = (digit-value (get_or bs i 0) digit).0 in
    omega (arith, step, worth, e)

pub next_digits : (bs : List ℕ) (i : ℕ) → i < length bs → is_ascii_digit (get_or bs i 0) ≡ true →
    AllDigits 10 (take i bs) → AllDigits 10 (take (i + 1) bs)
next_digits bs i h digit all = digits_more 10 bs i h all (digit-value (get_or bs i 0) digit).1

-- all digits were read
pub whole : (bs : List ℕ) (i v : ℕ) → length bs ≤ i → AllDigits 10 (take i bs) → v ≡ digits_value 10 (take i bs) →
    (all_ascii_digits bs ≡ true) × (v ≡ value_of bs) × (v < 10 ^ length bs)
whole bs i v end all e =
    let same : take i bs ≡ bs = take_all i bs end in
    let digits : AllDigits 10 bs = subst (AllDigits 10) same all in
    let value : v ≡ digits_value 10 bs = e ∙ ap (digits_value 10) same in (
      numerals.from bs digits,
      value ∙ sym (numerals.same bs digits),
      subst (λ n. n < 10 ^ length bs) (sym value) (digits_value-lt 10 bs digits),
    )

-- a number of few digits is one of at most that many more
pub short-bound : (size longest : ℕ) (result : Option ℕ) → size ≤ longest → IfSome result (λ n. n < 10 ^ size) →
    IfSome result (λ n. n < 10 ^ longest)
short-bound size longest None short h = tt
short-bound size longest (Some n) short h =
    let top : 10 ^ size ≤ 10 ^ longest = pow-le-pow_right (lit< tt) short in
    omega (arith, h, top)

-- a text with a `-` and one without, by what the code compares
pub signed-stripped : (bs : List ℕ) → pointwise nat_eq (take 1 bs) (45 ∷ []) ≡ true →
    signed_in bs ≡ option_map (λ n. neg_ℤ (pos n)) (number_in 18 (drop 1 bs))
signed-stripped [] same = absurd (cc)
signed-stripped (byte ∷ rest) same =
    elim (eqb_tells byte 45) [
      | inl p ↦ ap (λ k. signed_in (k ∷ rest)) p.1 ∙ signed-minus rest
      | inr p ↦ absurd (grind arith)
    ]

pub signed-kept : (bs : List ℕ) → pointwise nat_eq (take 1 bs) (45 ∷ []) ≡ false →
    signed_in bs ≡ option_map (λ n. pos n) (number_in 18 bs)
signed-kept [] other = signed-plain [] (omega arith)
signed-kept (byte ∷ rest) other =
    elim (eqb_tells byte 45) [ inl p ↦ absurd (grind arith) | inr p ↦ signed-plain (byte ∷ rest) p.1 ]
