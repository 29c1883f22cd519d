-- Texts of lines whose fields have one blank between them. This project's own words.
-- Words: AreFrom, IsOneLine, lines_from, ended, field_text, line_of, number_below, address_in.
use Rattle.std.specs.Prelude.{◌≢◌, ℕ, ◌≤◌, All, ◌&&◌, nat_le, nat_lt, if◌then◌else◌, List, [], ◌∷◌, ◌++◌, length, decimal}
use Rattle.std.specs.Prelude.{Option, Some, None}
use Rattle.text_laws.specs.Numbers.{number_in}
use Rattle.text_laws.specs.Fields.{fields_of, without_last_cr}
use Rattle.roam_script.specs.declared.limits.TheConstants.{MOST_LINE_BYTES}

-- no byte is less than this
abbrev pub AreFrom : ℕ → List ℕ → Type 0
AreFrom low [] = Unit {0}
AreFrom low (byte ∷ bytes) = (low ≤ byte) × AreFrom low bytes

-- no byte is an LF (10)
abbrev pub IsOneLine : List ℕ → Type 0
IsOneLine line = All (λ byte. byte ≢ 10) line

-- behind these lines, where each may stand at its place: `step` tells what is behind one line more
abbrev pub lines_from : {S : Type 0} → (S → List ℕ → Option S) → S → List (List ℕ) → Option S
lines_from step read [] = Some read
lines_from {S = S} step read (bytes ∷ lines) =
    elim (step read bytes) as (λ _. Option S) [ None ↦ None | Some next ↦ lines_from step next lines ]

-- a line with its LF (10)
abbrev pub ended : List ℕ → List ℕ
ended line = line ++ 10 ∷ []

-- a blank (32) and a number
abbrev pub field_text : ℕ → List ℕ
field_text k = 32 ∷ decimal k

-- What a line says, by what its fields say; one that is too long says nothing. A CR at its end is part of no field.
abbrev pub line_of : {L : Type 0} → (List (List ℕ) → Option L) → List ℕ → Option L
line_of says bytes =
    if nat_lt MOST_LINE_BYTES (length bytes) then None else says (fields_of (without_last_cr bytes))

-- the number that a field is: of at most 19 digits, less than `end`
abbrev pub number_below : ℕ → List ℕ → Option ℕ
number_below end field = elim (number_in 19 field) as (λ _. Option ℕ) [
  | None ↦ None
  | Some k ↦ if nat_lt k end then Some k else None
]

-- the address that a field is: such a number, from 2 on
abbrev pub address_in : ℕ → List ℕ → Option ℕ
address_in end field = elim (number_in 19 field) as (λ _. Option ℕ) [
  | None ↦ None
  | Some a ↦ if nat_le 2 a && nat_lt a end then Some a else None
]
