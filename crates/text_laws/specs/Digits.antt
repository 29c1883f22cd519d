-- Digits in ASCII, and the number that they are.
use Rattle.std.specs.Prelude.{ℕ, ◌+◌, ◌-◌, ◌*◌, ◌^◌, ◌≤◌, List, [], ◌∷◌, length}

-- the byte is one of `0` (48) to `9` (57); the test is std's `is_ascii_digit`
abbrev pub IsDigit : ℕ → Type 0
IsDigit byte = (48 ≤ byte) × (byte ≤ 57)

-- the number that these digits are: each counts ten times what it would count one place further right
abbrev pub value_of : List ℕ → ℕ
value_of [] = 0
value_of (digit ∷ rest) = (digit - 48) * 10 ^ length rest + value_of rest
