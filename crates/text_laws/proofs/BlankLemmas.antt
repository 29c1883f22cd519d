-- Whitespace and its test.
use Rattle.std.proofs.Common.{◌≡◌, ℕ, suc, ◌≤◌, true, false, List, [], ◌∷◌, ◌++◌, length, All, inl, inr, sym, ap, ◌∙◌}
use Rattle.std.proofs.Common.{subst, arith, length-append}
use Rattle.std.specs.Char.{is_ascii_digit}
use Rattle.std.proofs.lemmas.Bool.Decides.{nat_tests}
use Rattle.std.proofs.lemmas.List.Elements.{All-head}
use Rattle.text_laws.specs.Digits.{IsDigit}
use Rattle.text_laws.specs.Blanks.{IsWhite, is_white}
use Rattle.text_laws.proofs.TestLemmas.{by_bool}
use Rattle.text_laws.proofs.ListLemmas.{All-back}
use Rattle.text_laws.proofs.DigitLemmas.{digit-yes}

-- a byte that passes the test is whitespace
pub white-yes : (byte : ℕ) → is_white byte ≡ true → IsWhite byte
white-yes byte h = grind (arith, nat_tests)

-- a byte that fails it is none
pub white-no : (byte : ℕ) → is_white byte ≡ false → IsWhite byte → ⊥
white-no byte h is = grind (arith, nat_tests)

-- whitespace passes the test
pub white-is : (byte : ℕ) → IsWhite byte → is_white byte ≡ true
white-is byte (inl e) = ap is_white e
white-is byte (inr (inl e)) = ap is_white e
white-is byte (inr (inr (inl e))) = ap is_white e
white-is byte (inr (inr (inr e))) = ap is_white e

-- a byte that is none fails it
pub white-isnt : (byte : ℕ) → (IsWhite byte → ⊥) → is_white byte ≡ false
white-isnt byte h = by_bool (is_white byte) (λ yes. absurd (h (white-yes byte yes))) (λ no. no)

-- no digit is whitespace
pub digit-no_white : (byte : ℕ) → IsDigit byte → is_white byte ≡ false
digit-no_white byte h = white-isnt byte (λ s. no s)
  where
    no : IsWhite byte → ⊥
    no (inl e) = omega arith
    no (inr (inl e)) = omega arith
    no (inr (inr (inl e))) = omega arith
    no (inr (inr (inr e))) = omega arith

-- the same by the test of a digit
pub digit-not_white : (byte : ℕ) → is_ascii_digit byte ≡ true → is_white byte ≡ false
digit-not_white byte h = digit-no_white byte (digit-yes byte h)

-- a text that ends with a digit does not end with whitespace
pub digits-no_white : (front text before : List ℕ) (space : ℕ) → All IsDigit text → 1 ≤ length text → IsWhite space →
    before ++ space ∷ [] ≡ front ++ text → ⊥
digits-no_white [] text before space are some is whole =
    let digit : IsDigit space =
    All-head IsDigit space [] (All-back IsDigit before (space ∷ []) (subst (All IsDigit) (sym whole) are)) in
    let e : true ≡ false = sym (white-is space is) ∙ digit-no_white space digit in cc
digits-no_white (byte ∷ front) text [] space are some is whole =
    let size : 1 ≡ suc (length (front ++ text)) = ap length whole in omega (arith, size, length-append front text)
digits-no_white (byte ∷ front) text (other ∷ before) space are some is whole =
    digits-no_white front text before space are some is
    (same-rest (before ++ space ∷ []) (front ++ text) other byte whole)
  where
    same-rest : (xs ys : List ℕ) (x y : ℕ) → x ∷ xs ≡ y ∷ ys → xs ≡ ys
    same-rest xs ys x y e = cc
