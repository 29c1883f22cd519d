-- What the line of some bytes is, and where each refusal comes, in the words of the format.
-- Words: line_fields, IsShort, SaysNothing, word_of, fields_behind, HasCommand, AreWithin, FailsFirst, IsSoundLine,
-- IsOfSize, LiesInRange, and a law a word.
use Rattle.std.specs.Prelude.{◌≡◌, ◌≢◌, ◌↔◌, ⊤, ℕ, ◌+◌, ◌<◌, ◌≤◌, ◌^◌, true, false, List, [], ◌∷◌, ◌++◌, length, Some}
use Rattle.std.specs.Prelude.{None, Ok, Err, codes, ℤ, unsigned_abs}
use Rattle.text_laws.specs.Numbers.{signed_in}
use Rattle.roam_script.specs.declared.limits.Limits.{Limits}
use Rattle.roam_script.specs.declared.limits.TheConstants.{MOST_LINES, MOST_LINE_BYTES, MOST_FRAMES, MOST_PLANES}
use Rattle.roam_script.specs.declared.limits.TheConstants.{LEAST_BUDGET}
use Rattle.roam_script.specs.declared.command.Command.{Command}
use Rattle.roam_script.specs.declared.command.Command.TheVariants as command
use Rattle.roam_script.specs.declared.line.Line.{Line}
use Rattle.roam_script.specs.declared.line.Line.TheVariants.{Blank, Camera, Set, Frame, Plane, NoPlanes, Budget, Raise}
use Rattle.roam_script.specs.declared.script_fault.ScriptFault.{ScriptFault}
use Rattle.roam_script.specs.declared.script_fault.ScriptFault.TheVariants.{LineTooLong, UnknownCommand, WrongFields}
use Rattle.roam_script.specs.declared.script_fault.ScriptFault.TheVariants.{BadNumber, OutOfRange, TooManyLines}
use Rattle.roam_script.specs.declared.script_fault.ScriptFault.TheVariants.{TooManyFrames, TooManyPlanes}
use Rattle.text_laws.specs.Fields.{without_last_cr, fields_of}
use Rattle.roam_script.specs.LineText.{command_in, Range, is_in_range, ranges_of, line_with, is_comment, line_in}

-- the fields of a line
abbrev pub line_fields : List ℕ → List (List ℕ)
line_fields bytes = fields_of (without_last_cr bytes)

-- the line's number and its length are accepted
pub record IsShort (limits : Limits) (bytes : List ℕ) : Type 0 where
  pub in_script : limits.line ≤ MOST_LINES
  pub few : length bytes ≤ MOST_LINE_BYTES

-- there is no field, or the first begins a comment
abbrev pub SaysNothing : List (List ℕ) → Type 0
SaysNothing [] = ⊤
SaysNothing (word ∷ fields) = is_comment word ≡ true

-- the word of a command
abbrev pub word_of : Command → List ℕ
word_of command.Frame = codes "frame"
word_of command.Camera = codes "camera"
word_of command.Set = codes "set"
word_of command.Plane = codes "plane"
word_of command.NoPlanes = codes "noplanes"
word_of command.Budget = codes "budget"
word_of command.Raise = codes "raise"

-- the number of fields behind a command
abbrev pub fields_behind : Command → ℕ
fields_behind command.Frame = 0
fields_behind command.Camera = 3
fields_behind command.Set = 3
fields_behind command.Plane = 4
fields_behind command.NoPlanes = 0
fields_behind command.Budget = 1
fields_behind command.Raise = 5

-- the line's first field is the word of this command, and these stand behind it
pub record HasCommand (limits : Limits) (bytes : List ℕ) (word : Command) (fields : List (List ℕ)) : Type 0 where
  pub short : IsShort limits bytes
  pub cut : line_fields bytes ≡ word_of word ∷ fields

-- there are as many fields as the command has
pub record HasFields (limits : Limits) (bytes : List ℕ) (word : Command) (fields : List (List ℕ)) : Type 0 where
  pub begins : HasCommand limits bytes word fields
  pub count : length fields ≡ fields_behind word

-- each field is a text of a number in its range
pub data AreWithin : List Range → List (List ℕ) → Type 0 where
  NoneIsLeft : AreWithin [] []
  IsAndMore : (range : Range) (ranges : List Range) (field : List ℕ) (fields : List (List ℕ)) (v : ℤ)
      (is : signed_in field ≡ Some v) (within : is_in_range range v ≡ true)
      (more : AreWithin ranges fields) → AreWithin (range ∷ ranges) (field ∷ fields)

-- the first field that fails is no number, or one out of its range; the first field of all has this number
pub data FailsFirst : ℕ → List Range → List (List ℕ) → ScriptFault → Type 0 where
  IsNoNumber : (number : ℕ) (range : Range) (ranges : List Range) (field : List ℕ) (fields : List (List ℕ))
      (none : signed_in field ≡ None)
      → FailsFirst number (range ∷ ranges) (field ∷ fields) (BadNumber number)
  IsOutside : (number : ℕ) (range : Range) (ranges : List Range) (field : List ℕ) (fields : List (List ℕ)) (v : ℤ)
      (is : signed_in field ≡ Some v) (outside : is_in_range range v ≡ false)
      → FailsFirst number (range ∷ ranges) (field ∷ fields) (OutOfRange number)
  FailsLater : (number : ℕ) (range : Range) (ranges : List Range) (field : List ℕ) (fields : List (List ℕ))
      (fault : ScriptFault) (v : ℤ) (is : signed_in field ≡ Some v)
      (within : is_in_range range v ≡ true) (later : FailsFirst (number + 1) ranges fields fault) →
      FailsFirst number (range ∷ ranges) (field ∷ fields) fault

-- the line passes all tests of its fields
pub record IsSoundLine (limits : Limits) (bytes : List ℕ) (word : Command) (fields : List (List ℕ)) : Type 0 where
  pub counted : HasFields limits bytes word fields
  pub within : AreWithin (ranges_of limits word fields) fields

-- no more planes or frames than may be
abbrev pub IsWithinCounts : Limits → Command → Type 0
IsWithinCounts limits command.Plane = limits.planes < MOST_PLANES
IsWithinCounts limits command.Frame = limits.frames < MOST_FRAMES
IsWithinCounts limits _ = ⊤

-- line 10,000,001 and each later one, whatever it holds
abbrev pub LateLinesAreTooMany : Type 0
LateLinesAreTooMany =
    (limits : Limits) (bytes : List ℕ) → (line_in limits bytes ≡ Err TooManyLines) ↔ (MOST_LINES < limits.line)

-- more than 200 bytes
abbrev pub LongLinesAreTooLong : Type 0
LongLinesAreTooLong =
    (limits : Limits) (bytes : List ℕ) →
    (line_in limits bytes ≡ Err LineTooLong) ↔ ((limits.line ≤ MOST_LINES) × (MOST_LINE_BYTES < length bytes))

-- what follows the 201st byte of a line changes no answer
abbrev pub LongLinesAreSettled : Type 0
LongLinesAreSettled =
    (limits : Limits) (bytes more : List ℕ) → MOST_LINE_BYTES < length bytes →
    line_in limits (bytes ++ more) ≡ line_in limits bytes

-- Blank exactly without a field, or where the first begins with `#`
abbrev pub BlankLinesSayNothing : Type 0
BlankLinesSayNothing =
    (limits : Limits) (bytes : List ℕ) →
    (line_in limits bytes ≡ Ok Blank) ↔ (IsShort limits bytes × SaysNothing (line_fields bytes))

-- else an unknown command exactly where the first field is the word of none
abbrev pub OtherWordsAreUnknown : Type 0
OtherWordsAreUnknown = (limits : Limits) (bytes : List ℕ) → (line_in limits bytes ≡ Err UnknownCommand)
    ↔ ((first : List ℕ) × (fields : List (List ℕ)) × IsShort limits bytes × (line_fields bytes ≡ first ∷ fields)
    × (is_comment first ≡ false)
    × ((word : Command) → first ≢ word_of word))

-- else wrong fields exactly where there are not as many as the command has
abbrev pub OtherCountsAreWrong : Type 0
OtherCountsAreWrong = (limits : Limits) (bytes : List ℕ) → (line_in limits bytes ≡ Err WrongFields)
    ↔ ((word : Command) × (fields : List (List ℕ)) × HasCommand limits bytes word fields
    × (length fields ≢ fields_behind word))

-- else a bad number in the first field that fails, exactly where it is none
abbrev pub BadNumbersAreRefused : Type 0
BadNumbersAreRefused = (limits : Limits) (bytes : List ℕ) (number : ℕ) → (line_in limits bytes ≡ Err (BadNumber number))
    ↔ ((word : Command) × (fields : List (List ℕ)) × HasFields limits bytes word fields
    × FailsFirst 1 (ranges_of limits word fields) fields (BadNumber number))

-- and a number out of its range in the first field that fails, exactly where it is one
abbrev pub OutsideNumbersAreRefused : Type 0
OutsideNumbersAreRefused =
    (limits : Limits) (bytes : List ℕ) (number : ℕ) → (line_in limits bytes ≡ Err (OutOfRange number))
    ↔ ((word : Command) × (fields : List (List ℕ)) × HasFields limits bytes word fields
    × FailsFirst 1 (ranges_of limits word fields) fields (OutOfRange number))

-- else too many planes exactly for a plane behind six
abbrev pub SeventhPlanesAreTooMany : Type 0
SeventhPlanesAreTooMany = (limits : Limits) (bytes : List ℕ) → (line_in limits bytes ≡ Err TooManyPlanes)
    ↔ ((fields : List (List ℕ)) × IsSoundLine limits bytes command.Plane fields × (MOST_PLANES ≤ limits.planes))

-- and too many frames exactly for a frame behind 999,999
abbrev pub LateFramesAreTooMany : Type 0
LateFramesAreTooMany = (limits : Limits) (bytes : List ℕ) → (line_in limits bytes ≡ Err TooManyFrames)
    ↔ ((fields : List (List ℕ)) × IsSoundLine limits bytes command.Frame fields × (MOST_FRAMES ≤ limits.frames))

-- a line that passes all tests is accepted as what it says, and no other one is
abbrev pub SoundLinesAreAccepted : Type 0
SoundLinesAreAccepted =
    (limits : Limits) (bytes : List ℕ) (line : Line) → line ≢ Blank → (line_in limits bytes ≡ Ok line)
    ↔ ((word : Command) × (fields : List (List ℕ)) × IsSoundLine limits bytes word fields × IsWithinCounts limits word
    × (line ≡ line_with word fields))

-- the number is of at most this size
abbrev pub IsOfSize : ℕ → ℤ → Type 0
IsOfSize most v = unsigned_abs v ≤ most

-- the numbers of a line lie in their ranges
abbrev pub LiesInRange : Limits → Line → Type 0
LiesInRange limits Blank = ⊤
LiesInRange limits (Camera x y z) = IsOfSize (2 ^ 30) x × IsOfSize (2 ^ 30) y × IsOfSize (2 ^ 30) z
LiesInRange limits (Set x y h) = (x ≤ 2 ^ limits.n) × (y ≤ 2 ^ limits.n) × (h ≤ limits.maxval)
LiesInRange limits Frame = limits.frames < MOST_FRAMES
LiesInRange limits (Plane a b c d) =
    IsOfSize (2 ^ 20) a × IsOfSize (2 ^ 20) b × IsOfSize (2 ^ 20) c × IsOfSize (2 ^ 50) d
    × (limits.planes < MOST_PLANES)
LiesInRange limits NoPlanes = ⊤
LiesInRange limits (Budget n) = (LEAST_BUDGET ≤ n) × (n ≤ limits.budget)
LiesInRange limits (Raise x0 y0 x1 y1 dz) =
    (x0 ≤ x1) × (x1 ≤ 2 ^ limits.n) × (y0 ≤ y1) × (y1 ≤ 2 ^ limits.n) × IsOfSize 65535 dz

-- an accepted line lies in its ranges
abbrev pub AcceptedLinesLieInRange : Type 0
AcceptedLinesLieInRange =
    (limits : Limits) (bytes : List ℕ) (line : Line) → line_in limits bytes ≡ Ok line → LiesInRange limits line

-- a field is a command exactly where it is its word
abbrev pub CommandsAreWords : Type 0
CommandsAreWords = (first : List ℕ) (word : Command) → (command_in first ≡ Some word) ↔ (first ≡ word_of word)
