-- What reading and writing have to do with one another.
use Rattle.std.specs.Prelude.{◌≡◌, ℕ, ◌*◌, ◌%◌, ◌^◌, ◌<◌, ◌≤◌, List, [], ◌∷◌, ◌++◌, length, All, Some, ℤ, FitsSigned}
use Rattle.std.specs.Prelude.{unsigned_abs, decimal}
use Rattle.std.specs.Fmt.{signed_decimal}
use Rattle.std.specs.Int.{w64}
use Rattle.text_laws.specs.Digits.{IsDigit, value_of}
use Rattle.text_laws.specs.Numbers.{number_in, signed_in, IsSignedTextOf}
use Rattle.roam_num.specs.Places.{fraction_digits}

-- the decimal text of a number of at most 19 digits is read as this number
abbrev pub NumbersAreReadBack : Type 0
NumbersAreReadBack = (n : ℕ) → n < 10 ^ 19 → number_in 19 (decimal n) ≡ Some n

-- the decimal text of a signed number of at most 18 digits is read as this number
abbrev pub SignedNumbersAreReadBack : Type 0
SignedNumbersAreReadBack = (v : ℤ) → unsigned_abs v < 10 ^ 18 → signed_in (signed_decimal v) ≡ Some v

-- no text is a text of two numbers
abbrev pub TextsHaveOneNumber : Type 0
TextsHaveOneNumber = (bytes : List ℕ) (v w : ℤ) → IsSignedTextOf bytes v → IsSignedTextOf bytes w → v ≡ w

-- no two numbers of 64 bits have the same decimal text
abbrev pub NumbersHaveOwnTexts : Type 0
NumbersHaveOwnTexts = (v w : ℤ) → FitsSigned w64 v → FitsSigned w64 w → signed_decimal v ≡ signed_decimal w → v ≡ w

-- the digits behind the point of an exact decimal: as many tenths of tenths as the fraction has, exactly; all are
-- digits, at most n of them, and the last is not 0
pub record IsFractionText (n rest : ℕ) (digits : List ℕ) : Type 0 where
  pub exact : value_of digits * 2 ^ n ≡ rest * 10 ^ length digits
  pub digits_all : All IsDigit digits
  pub short : length digits ≤ n
  pub shortest : (before : List ℕ) → digits ≡ before ++ 48 ∷ [] → ⊥

-- an exact decimal is the number that it is of
abbrev pub FractionsAreExact : Type 0
FractionsAreExact = (n count : ℕ) → IsFractionText n (count % 2 ^ n) (fraction_digits n (count % 2 ^ n) (2 ^ n))
