-- Fields of a line: a blank and the digits of a number, and texts that are copied to a place. This project's own words.
-- Words: number_field, field_bytes, letter_line, IsFieldOf, IsWrittenAt.
use Rattle.std.specs.Prelude.{◌≡◌, ℕ, ◌+◌, ◌≤◌, List, [], ◌∷◌, ◌++◌, length, take, codes, decimal}
use Rattle.obj_write.specs.declared.field.Field.{Field}
use Rattle.obj_write.specs.declared.field.TheConstants.{LONGEST_FIELD}

-- one blank and the digits of a number
abbrev pub number_field : ℕ → List ℕ
number_field k = codes " " ++ decimal k

-- the bytes of a field that count
abbrev pub field_bytes : Field → List ℕ
field_bytes f = take f.len f.bytes

-- three fields behind a letter, and the line's end
abbrev pub letter_line : ℕ → Field → Field → Field → List ℕ
letter_line letter first second third =
    (letter ∷ []) ++ (field_bytes first ++ (field_bytes second ++ (field_bytes third ++ codes "\n")))

-- the field is that of the number
pub record IsFieldOf (f : Field) (k : ℕ) : Type 0 where
  pub short : f.len ≤ LONGEST_FIELD
  pub bytes : field_bytes f ≡ number_field k

-- Behind the first bytes of the old text, up to this place, the new one has these, up to that place.
pub record IsWrittenAt (old new : List ℕ) (at : ℕ) (bytes : List ℕ) (end : ℕ) : Type 0 where
  pub front : take end new ≡ take at old ++ bytes
  pub moved : end ≡ at + length bytes
  pub long : length new ≡ length old
