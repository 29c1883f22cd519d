-- What it is to take the next field of a line as a number.
use Rattle.std.specs.Prelude.{◌≡◌, ℕ, List, ◌∷◌, Result, Ok, Err, ℤ, pos}
use Rattle.text_laws.specs.Numbers.{signed_in}
use Rattle.roam_script.specs.declared.script_fault.ScriptFault.{ScriptFault}
use Rattle.roam_script.specs.LineText.{Range, field_number}

-- the first of the fields, which has this number, was read under the range, and the others are left
pub record TakesNumber (before : List (List ℕ)) (number : ℕ) (range : Range) (after : List (List ℕ))
    (answer : Result ℤ ScriptFault) : Type 0 where
  pub field : List ℕ
  pub cut : before ≡ field ∷ after
  pub value : answer ≡ field_number range number (signed_in field)

-- an answer of a number without a sign, as one of a number
abbrev pub signed_answer : Result ℕ ScriptFault → Result ℤ ScriptFault
signed_answer (Ok v) = Ok (pos v)
signed_answer (Err fault) = Err fault
