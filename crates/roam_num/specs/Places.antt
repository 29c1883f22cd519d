-- Numbers with a decimal point: thousandths as they are read, and fractions over 2 ^ n as they are written.
-- This project's own form. Words: until_point, with_places, thousandths_in, IsThousandthsOf, fraction_digits,
-- behind_point, exact_decimal.
use Rattle.std.specs.Prelude.{◌≡◌, ℕ, zero, suc, ◌+◌, ◌-◌, ◌*◌, ◌^◌, ◌/◌, ◌%◌, ◌==◌, ◌⊎◌, if◌then◌else◌, List, [], ◌∷◌}
use Rattle.std.specs.Prelude.{◌++◌, length, drop, Option, Some, None, decimal}
use Rattle.std.specs.Option.{option_map}
use Rattle.text_laws.specs.Digits.{value_of}
use Rattle.text_laws.specs.Numbers.{IsDecText, number_in}

-- the bytes before the first point (46), all of them where there is none
abbrev pub until_point : List ℕ → List ℕ
until_point [] = []
until_point (byte ∷ bytes) = if byte == 46 then [] else byte ∷ until_point bytes

-- the thousandths of a whole number, and of what stands behind it: nothing, or a point and 1 to 3 digits
abbrev pub with_places : Option ℕ → List ℕ → Option ℕ
with_places None behind = None
with_places (Some whole) [] = Some (1000 * whole)
with_places (Some whole) (point ∷ digits) =
    option_map (λ part. 1000 * whole + part * 10 ^ (3 - length digits)) (number_in 3 digits)

-- how many thousandths the bytes are, if they are 1 to 16 digits, or these, a point and 1 to 3 digits
unfoldable pub thousandths_in : List ℕ → Option ℕ
thousandths_in bytes = with_places (number_in 16 (until_point bytes)) (drop (length (until_point bytes)) bytes)

-- the bytes are 1 to 16 digits, or these, a point and 1 to 3 digits, and they are so many thousandths
abbrev pub IsThousandthsOf : List ℕ → ℕ → Type 0
IsThousandthsOf bytes count =
    (IsDecText 16 bytes × (count ≡ 1000 * value_of bytes))
    ⊎ ((whole digits : List ℕ) × (bytes ≡ whole ++ 46 ∷ digits) × IsDecText 16 whole × IsDecText 3 digits
    × (count ≡ 1000 * value_of whole + value_of digits * 10 ^ (3 - length digits)))

-- the digits behind the point of rest / over, a fraction below 1, as long division gives them until nothing is left,
-- and at most so many
abbrev pub fraction_digits : (most rest over : ℕ) → List ℕ
fraction_digits zero rest over = []
fraction_digits (suc most) zero over = []
fraction_digits (suc most) (suc rest) over =
    (48 + 10 * suc rest / over) ∷ fraction_digits most (10 * suc rest % over) over

-- these digits behind a point, and no point where there are none
abbrev pub behind_point : List ℕ → List ℕ
behind_point [] = []
behind_point (digit ∷ digits) = 46 ∷ (digit ∷ digits)

-- The decimal text of count / 2 ^ n, exact and as short as can be: n digits behind the point are enough.
unfoldable pub exact_decimal : (count n : ℕ) → List ℕ
exact_decimal count n = decimal (count / 2 ^ n) ++ behind_point (fraction_digits n (count % 2 ^ n) (2 ^ n))
