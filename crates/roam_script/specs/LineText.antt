-- The line that bytes of a script are, or the first test that refuses them. This project's own format.
--
-- Words: command_in, Range, from_to, around, is_in_range, number_of_field, size_at, ranges_of, field_number,
-- fields_fault, line_with, line_of, counted_line, checked_line, is_comment, fields_line, line_in.
use Rattle.std.specs.Prelude.{ℕ, zero, suc, ◌+◌, ◌^◌, Bool, false, ◌==◌, ◌&&◌, nat_lt, if◌then◌else◌, List, [], ◌∷◌}
use Rattle.std.specs.Prelude.{length, Option, Some, None, unwrap_or, Result, Ok, Err, codes, bytes_eq, ℤ, pos, neg_ℤ}
use Rattle.std.specs.Prelude.{int_le, unsigned_abs}
use Rattle.text_laws.specs.Numbers.{signed_in}
use Rattle.text_laws.specs.Fields.{fields_of, without_last_cr}
use Rattle.roam_script.specs.declared.limits.Limits.{Limits}
use Rattle.roam_script.specs.declared.limits.TheConstants.{MOST_LINES, MOST_LINE_BYTES, MOST_FRAMES, MOST_PLANES}
use Rattle.roam_script.specs.declared.limits.TheConstants.{CAMERA_REACH, GREATEST_SLOPE, GREATEST_OFFSET, LEAST_BUDGET}
use Rattle.roam_script.specs.declared.limits.TheConstants.{GREATEST_RAISE}
use Rattle.roam_script.specs.declared.command.Command.{Command}
use Rattle.roam_script.specs.declared.command.Command.TheVariants as command
use Rattle.roam_script.specs.declared.line.Line.{Line}
use Rattle.roam_script.specs.declared.line.Line.TheVariants.{Blank, Camera, Set, Frame, Plane, NoPlanes, Budget, Raise}
use Rattle.roam_script.specs.declared.script_fault.ScriptFault.{ScriptFault}
use Rattle.roam_script.specs.declared.script_fault.ScriptFault.TheVariants.{LineTooLong, UnknownCommand, WrongFields}
use Rattle.roam_script.specs.declared.script_fault.ScriptFault.TheVariants.{BadNumber, OutOfRange, TooManyLines}
use Rattle.roam_script.specs.declared.script_fault.ScriptFault.TheVariants.{TooManyFrames, TooManyPlanes}

-- the command that a field is
abbrev pub command_in : List ℕ → Option Command
command_in word =
    if bytes_eq word (codes "frame") then Some command.Frame
    else (if bytes_eq word (codes "camera") then Some command.Camera
    else (if bytes_eq word (codes "set") then Some command.Set
    else (if bytes_eq word (codes "plane") then Some command.Plane
    else (if bytes_eq word (codes "noplanes") then Some command.NoPlanes
    else (if bytes_eq word (codes "budget") then Some command.Budget
    else (if bytes_eq word (codes "raise") then Some command.Raise else None))))))

-- the numbers from `low` to `high`
pub record Range : Type 0 where
  pub low : ℤ
  pub high : ℤ

abbrev pub from_to : ℤ → ℤ → Range
from_to least greatest = record { low = least; high = greatest }

-- the numbers of at most this size
abbrev pub around : ℤ → Range
around size = from_to (neg_ℤ size) size

-- the number of the field at this place, counted from 0; 0 where it is none
abbrev pub number_of_field : List (List ℕ) → ℕ → ℤ
number_of_field [] k = pos 0
number_of_field (field ∷ fields) zero = unwrap_or (signed_in field) (pos 0)
number_of_field (field ∷ fields) (suc k) = number_of_field fields k

-- the same where it is at least 0
abbrev pub size_at : List (List ℕ) → ℕ → ℕ
size_at fields k = unsigned_abs (number_of_field fields k)

-- The ranges of the fields behind a command. An area ends at the column X0 and the row Y0 where it begins, or
-- beyond.
abbrev pub ranges_of : Limits → Command → List (List ℕ) → List Range
ranges_of limits command.Frame fields = []
ranges_of limits command.Camera fields = around CAMERA_REACH ∷ around CAMERA_REACH ∷ around CAMERA_REACH ∷ []
ranges_of limits command.Set fields =
    from_to (pos 0) (pos (2 ^ limits.n)) ∷ from_to (pos 0) (pos (2 ^ limits.n)) ∷ from_to (pos 0)
    (pos limits.maxval) ∷ []
ranges_of limits command.Plane fields =
    around GREATEST_SLOPE ∷ around GREATEST_SLOPE ∷ around GREATEST_SLOPE ∷ around GREATEST_OFFSET ∷ []
ranges_of limits command.NoPlanes fields = []
ranges_of limits command.Budget fields = from_to (pos LEAST_BUDGET) (pos limits.budget) ∷ []
ranges_of limits command.Raise fields =
    from_to (pos 0) (pos (2 ^ limits.n)) ∷ from_to (pos 0) (pos (2 ^ limits.n))
    ∷ from_to (number_of_field fields 0) (pos (2 ^ limits.n)) ∷ from_to (number_of_field fields 1)
    (pos (2 ^ limits.n)) ∷ around GREATEST_RAISE ∷ []

-- the number lies in the range
abbrev pub is_in_range : Range → ℤ → Bool
is_in_range range v = int_le range.low v && int_le v range.high

-- for what the field with this number is a text of: the number, or what is wrong with the field
abbrev pub field_number : Range → ℕ → Option ℤ → Result ℤ ScriptFault
field_number range number None = Err (BadNumber number)
field_number range number (Some v) = if is_in_range range v then Ok v else Err (OutOfRange number)

-- the first fault of as many fields as ranges, the first of which has this number
abbrev pub fields_fault : ℕ → List Range → List (List ℕ) → Option ScriptFault
fields_fault number [] fields = None
fields_fault number (range ∷ ranges) [] = None
fields_fault number (range ∷ ranges) (field ∷ fields) =
    elim (field_number range number (signed_in field)) as (λ _. Option ScriptFault) [
      | Err fault ↦ Some fault
      | Ok v ↦ fields_fault (number + 1) ranges fields
    ]

-- the line of a command and its fields, which are numbers
abbrev pub line_with : Command → List (List ℕ) → Line
line_with command.Frame fields = Frame
line_with command.Camera fields =
    Camera (number_of_field fields 0) (number_of_field fields 1) (number_of_field fields 2)
line_with command.Set fields = Set (size_at fields 0) (size_at fields 1) (size_at fields 2)
line_with command.Plane fields =
    Plane (number_of_field fields 0) (number_of_field fields 1) (number_of_field fields 2) (number_of_field fields 3)
line_with command.NoPlanes fields = NoPlanes
line_with command.Budget fields = Budget (size_at fields 0)
line_with command.Raise fields =
    Raise (size_at fields 0) (size_at fields 1) (size_at fields 2) (size_at fields 3) (number_of_field fields 4)

-- the line of a command and as many fields as it has, or the first fault of a field
abbrev pub line_of : Limits → Command → List (List ℕ) → Result Line ScriptFault
line_of limits word fields =
    elim (fields_fault 1 (ranges_of limits word fields) fields) as (λ _. Result Line ScriptFault) [
      | Some fault ↦ Err fault
      | None ↦ Ok (line_with word fields)
    ]

-- the line, unless it is one plane or one frame too many
abbrev pub counted_line : Limits → Result Line ScriptFault → Result Line ScriptFault
counted_line limits (Ok (Plane a b c d)) =
    if nat_lt limits.planes MOST_PLANES then Ok (Plane a b c d) else Err TooManyPlanes
counted_line limits (Ok Frame) = if nat_lt limits.frames MOST_FRAMES then Ok Frame else Err TooManyFrames
counted_line limits answer = answer

-- the line of what the first field is and of the fields behind it, or the first test that fails
abbrev pub checked_line : Limits → Option Command → List (List ℕ) → Result Line ScriptFault
checked_line limits None fields = Err UnknownCommand
checked_line limits (Some word) fields =
    if length fields == length (ranges_of limits word fields)
    then counted_line limits (line_of limits word fields) else Err WrongFields

-- the field begins with `#` (35)
abbrev pub is_comment : List ℕ → Bool
is_comment [] = false
is_comment (byte ∷ bytes) = byte == 35

-- the line of these fields: Blank without one, or where the first begins a comment
abbrev pub fields_line : Limits → List (List ℕ) → Result Line ScriptFault
fields_line limits [] = Ok Blank
fields_line limits (word ∷ fields) = if is_comment word then Ok Blank else checked_line limits (command_in word) fields

-- The line that these bytes are, or the first test that refuses them.
unfoldable pub line_in : Limits → List ℕ → Result Line ScriptFault
line_in limits bytes =
    if nat_lt MOST_LINES limits.line then Err TooManyLines
    else (if nat_lt MOST_LINE_BYTES (length bytes) then Err LineTooLong
    else fields_line limits (fields_of (without_last_cr bytes)))
