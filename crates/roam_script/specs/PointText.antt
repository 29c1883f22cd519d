-- The grid point that a line of a file of points is, or the first test that refuses it. This project's own format, cut
-- and refused as a line of a script.
-- Words: most_points, point_ranges, point_of, point_with, counted_point, point_fields, point_in,
-- PointsAreInGrid, LatePointsAreTooMany, LongPointsAreTooLong.
use Rattle.std.specs.Prelude.{◌≡◌, ◌↔◌, ℕ, ◌+◌, ◌*◌, ◌^◌, ◌<◌, ◌≤◌, ◌==◌, nat_lt, if◌then◌else◌, List, [], ◌∷◌, length}
use Rattle.std.specs.Prelude.{Option, Some, None, Result, Ok, Err, pos}
use Rattle.text_laws.specs.Fields.{fields_of, without_last_cr}
use Rattle.mesh_defs.specs.declared.point.Point.{Point}
use Rattle.roam_script.specs.declared.limits.TheConstants.{MOST_LINE_BYTES}
use Rattle.roam_script.specs.declared.script_fault.ScriptFault.{ScriptFault}
use Rattle.roam_script.specs.declared.script_fault.ScriptFault.TheVariants.{LineTooLong, WrongFields, TooManyLines}
use Rattle.roam_script.specs.LineText.{Range, from_to, size_at, fields_fault, is_comment}

-- the most lines of a file of points: as many as the grid with this n has points
abbrev pub most_points : ℕ → ℕ
most_points n = (2 ^ n + 1) * (2 ^ n + 1)

-- the columns and the rows of the grid with this n
abbrev pub point_ranges : ℕ → List Range
point_ranges n = from_to (pos 0) (pos (2 ^ n)) ∷ from_to (pos 0) (pos (2 ^ n)) ∷ []

-- the point of two fields, a column and a row, or the first fault of a field
abbrev pub point_of : ℕ → List (List ℕ) → Result Point ScriptFault
point_of n fields = elim (fields_fault 1 (point_ranges n) fields) as (λ _. Result Point ScriptFault) [
  | Some fault ↦ Err fault
  | None ↦ Ok (record { x = size_at fields 0; y = size_at fields 1 })
]

-- the same as what a line may say
abbrev pub point_with : Result Point ScriptFault → Result (Option Point) ScriptFault
point_with (Ok at) = Ok (Some at)
point_with (Err fault) = Err fault

-- the point of these fields, which have to be two
abbrev pub counted_point : ℕ → List (List ℕ) → Result (Option Point) ScriptFault
counted_point n fields = if length fields == 2 then point_with (point_of n fields) else Err WrongFields

-- the same of all fields of a line; none without a field, or where the first begins a comment
abbrev pub point_fields : ℕ → List (List ℕ) → Result (Option Point) ScriptFault
point_fields n [] = Ok None
point_fields n (word ∷ fields) = if is_comment word then Ok None else counted_point n (word ∷ fields)

-- The point that these bytes are as the line with this number, counted from 1, none where they are blank or a comment,
-- or the first test that refuses them.
unfoldable pub point_in : ℕ → ℕ → List ℕ → Result (Option Point) ScriptFault
point_in n line bytes =
    if nat_lt (most_points n) line then Err TooManyLines
    else (if nat_lt MOST_LINE_BYTES (length bytes) then Err LineTooLong
    else point_fields n (fields_of (without_last_cr bytes)))

-- each point that is read is one of the grid
abbrev pub PointsAreInGrid : Type 0
PointsAreInGrid = (n line : ℕ) (bytes : List ℕ) (at : Point) → point_in n line bytes ≡ Ok (Some at) →
    (at.x ≤ 2 ^ n) × (at.y ≤ 2 ^ n)

-- a line behind as many as there may be is one too many, whatever it holds, and no other is
abbrev pub LatePointsAreTooMany : Type 0
LatePointsAreTooMany =
    (n line : ℕ) (bytes : List ℕ) → (point_in n line bytes ≡ Err TooManyLines) ↔ (most_points n < line)

-- else one of more than 200 bytes is too long
abbrev pub LongPointsAreTooLong : Type 0
LongPointsAreTooLong =
    (n line : ℕ) (bytes : List ℕ) → line ≤ most_points n →
    (point_in n line bytes ≡ Err LineTooLong) ↔ (MOST_LINE_BYTES < length bytes)
