-- The name of the file of a mesh. This project's own words.
use Rattle.std.specs.Prelude.{ℕ, ◌+◌, ◌/◌, ◌%◌, List, [], ◌∷◌, ◌++◌, codes}

-- the code of the decimal digit of a number at a power of ten
abbrev pub digit : ℕ → ℕ → ℕ
digit number power = 48 + number / power % 10

-- a number below a million in six decimal digits, with leading zeros
abbrev pub six_digits : ℕ → List ℕ
six_digits number =
    digit number 100000 ∷ digit number 10000 ∷ digit number 1000 ∷ digit number 100
    ∷ digit number 10 ∷ digit number 1 ∷ []

-- the prefix, the number in six digits, and the ending of mesh files
abbrev pub file_name : List ℕ → ℕ → List ℕ
file_name prefix number = prefix ++ six_digits number ++ codes ".obj"
