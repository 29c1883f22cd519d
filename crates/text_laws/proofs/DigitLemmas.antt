-- Digits, their test, and the number that they are.
use Rattle.std.proofs.Common.{◌≡◌, ℕ, ◌+◌, ◌-◌, ◌*◌, ◌/◌, ◌%◌, ◌^◌, ◌<◌, ◌≤◌, true, false, ◌==◌, List, [], ◌∷◌, ◌++◌}
use Rattle.std.proofs.Common.{length, refl, ap, ◌∙◌, arith, lit<, add-one, ne_eqb}
use Rattle.std.specs.Char.{is_ascii_digit}
use Rattle.std.specs.Fmt.{decimal}
use Rattle.std.specs.List.{list_all}
use Rattle.std.proofs.Math.Nat.{pow-succ', pow-le-pow_right}
use Rattle.std.proofs.lemmas.Bool.{and_from}
use Rattle.std.proofs.lemmas.Fmt.{decimal_by_steps}
use Rattle.std.proofs.lemmas.List.{length_push}
use Rattle.std.proofs.lemmas.List.Folds.{list_all-append}
use Rattle.text_laws.specs.Digits.{IsDigit, value_of}
use Rattle.text_laws.proofs.TestLemmas.{by_bool}

-- a digit more at the end
pub value-push : (digits : List ℕ) (byte : ℕ) → value_of (digits ++ byte ∷ []) ≡ 10 * value_of digits + (byte - 48)
value-push [] byte = omega arith
value-push (digit ∷ digits) byte =
    let power : 10 ^ length (digits ++ byte ∷ []) ≡ 10 * 10 ^ length digits =
    ap (λ (n : ℕ). 10 ^ n) (length_push digits byte ∙ add-one (length digits)) ∙ pow-succ' 10 (length digits) in
    let first : (digit - 48) * 10 ^ length (digits ++ byte ∷ []) ≡ (digit - 48) * (10 * 10 ^ length digits) =
    ap (λ (n : ℕ). (digit - 48) * n) power in
    omega (arith, first, value-push digits byte)

-- a byte that passes the test is a digit
pub digit-yes : (byte : ℕ) → is_ascii_digit byte ≡ true → IsDigit byte
digit-yes byte h = grind arith

-- a byte that fails it is none
pub digit-no : (byte : ℕ) → is_ascii_digit byte ≡ false → IsDigit byte → ⊥
digit-no byte h is = grind arith

-- a digit passes the test
pub digit-is : (byte : ℕ) → IsDigit byte → is_ascii_digit byte ≡ true
digit-is byte h = grind arith

-- a byte that is none fails it
pub digit-isnt : (byte : ℕ) → (IsDigit byte → ⊥) → is_ascii_digit byte ≡ false
digit-isnt byte h = by_bool (is_ascii_digit byte) (λ yes. absurd (h (digit-yes byte yes))) (λ no. no)

-- a digit is no `#`
pub digit-no_hash : (byte : ℕ) → is_ascii_digit byte ≡ true → (byte == 35) ≡ false
digit-no_hash byte h = let is = digit-yes byte h in ne_eqb byte 35 (λ e. omega (arith, is.0))

-- the byte of a digit
pub digit-of : (d : ℕ) → d < 10 → is_ascii_digit (48 + d) ≡ true
digit-of d small = digit-is (48 + d) (omega arith, omega arith)

-- a number of at most eight digits
pub eight-digits : (count value : ℕ) → count < 9 → value < 10 ^ count → value < 10 ^ 8
eight-digits count value short small =
    let size : count ≤ 8 = omega arith in
    let top : 10 ^ count ≤ 10 ^ 8 = pow-le-pow_right (lit< tt) size in
    omega (arith, small, top)

-- The decimal text of a number.

-- these are digits, and this is their number
abbrev pub IsDecimal : ℕ → List ℕ → Type 0
IsDecimal n digits = (list_all is_ascii_digit digits ≡ true) × (n ≡ value_of digits)

one_digit : (n : ℕ) → n < 10 → IsDecimal n ((48 + n) ∷ [])
one_digit n small = (and_from (is_ascii_digit (48 + n)) true (digit-of n small) refl, omega arith)

more_digits : (n : ℕ) (digits : List ℕ) → 10 ≤ n → IsDecimal (n / 10) digits →
    IsDecimal n (digits ++ (48 + n % 10) ∷ [])
more_digits n digits large d = (
  list_all-append is_ascii_digit digits ((48 + n % 10) ∷ [])
      ∙ and_from (list_all is_ascii_digit digits) (list_all is_ascii_digit ((48 + n % 10) ∷ [])) d.0
      (and_from (is_ascii_digit (48 + n % 10)) true (digit-of (n % 10) (omega arith)) refl),
  omega (arith, d.1, value-push digits (48 + n % 10)),
)

-- the decimal text of a number is digits, and the number is theirs
pub decimal-is : (n : ℕ) → n < 2 ^ 64 → IsDecimal n (decimal n)
decimal-is n fits = decimal_by_steps IsDecimal one_digit more_digits n fits
