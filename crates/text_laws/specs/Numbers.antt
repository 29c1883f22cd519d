-- Decimal texts of numbers, and the numbers that they are. The digits are those of ASCII; the rest is
-- this project's own: which lengths are accepted, and one optional `-`.
--
-- Words: IsDecText, is_dec_text, number_in, IsPlainText, IsMinusText, IsSignedTextOf, signed_in.
use Rattle.std.specs.Prelude.{◌≡◌, ℕ, ◌≤◌, Bool, ◌&&◌, ◌==◌, if◌then◌else◌, List, [], ◌∷◌, length, All, ◌⊎◌, Option}
use Rattle.std.specs.Prelude.{Some, None, ℤ, pos, neg_ℤ, nat_le}
use Rattle.std.specs.Option.{option_map}
use Rattle.std.specs.Str.{all_ascii_digits}
use Rattle.text_laws.specs.Digits.{IsDigit, value_of}

-- the bytes are 1 to `longest` digits; zeros may lead
pub record IsDecText (longest : ℕ) (bytes : List ℕ) : Type 0 where
  pub some : 1 ≤ length bytes
  pub short : length bytes ≤ longest
  pub digits : All IsDigit bytes

-- the same as a test
abbrev pub is_dec_text : ℕ → List ℕ → Bool
is_dec_text longest bytes = nat_le 1 (length bytes) && (nat_le (length bytes) longest && all_ascii_digits bytes)

-- the number that the bytes are, if they are 1 to `longest` digits
unfoldable pub number_in : ℕ → List ℕ → Option ℕ
number_in longest bytes = if is_dec_text longest bytes then Some (value_of bytes) else None

-- the bytes are 1 to 18 digits, which are this number
pub record IsPlainText (bytes : List ℕ) (v : ℤ) : Type 0 where
  pub valid : IsDecText 18 bytes
  pub value : v ≡ pos (value_of bytes)

-- the bytes are a `-` (45) and then 1 to 18 digits, and this number is the opposite of what the digits are
pub record IsMinusText (bytes : List ℕ) (v : ℤ) : Type 0 where
  pub digits : List ℕ
  pub text : bytes ≡ 45 ∷ digits
  pub valid : IsDecText 18 digits
  pub value : v ≡ neg_ℤ (pos (value_of digits))

-- the bytes are a text of this number: an optional `-`, and then 1 to 18 digits
abbrev pub IsSignedTextOf : List ℕ → ℤ → Type 0
IsSignedTextOf bytes v = IsPlainText bytes v ⊎ IsMinusText bytes v

-- the number of which the bytes are a text, if there is one
unfoldable pub signed_in : List ℕ → Option ℤ
signed_in [] = None
signed_in (first ∷ rest) =
    if first == 45 then option_map (λ n. neg_ℤ (pos n)) (number_in 18 rest)
    else option_map (λ n. pos n) (number_in 18 (first ∷ rest))
