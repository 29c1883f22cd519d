-- Why a line is answered as it is: each answer of `line_in` with its cause, both ways.
use Rattle.std.proofs.Common.{◌≡◌, ℕ, zero, suc, ◌+◌, ◌<◌, ◌≤◌, Bool, true, false, List, [], ◌∷◌, ◌++◌, length, Option}
use Rattle.std.proofs.Common.{Some, None, Result, Ok, Err, ℤ, pos, refl, sym, ap, ◌∙◌, subst, arith, eqb, ltb}
use Rattle.std.proofs.Common.{length-append, ◌^◌, lit<}
use Rattle.std.specs.Prelude.{◌≢◌, ◌↔◌, ⊤, if◌then◌else◌, codes, bytes_eq, unwrap_or, unsigned_abs, ◌≤ℤ◌}
use Rattle.std.proofs.lemmas.Bool.{ltb-true, ltb-false, lt-ltb, eqb-true, eqb-false, eq-eqb, cond_both, cond-true}
use Rattle.std.proofs.lemmas.Bool.{cond-false, le-ltb, ne_eqb}
use Rattle.std.proofs.lemmas.Slice.Eq.{bytes_eq-Decides}
use Rattle.std.proofs.lemmas.Int.{ints}
use Rattle.text_laws.specs.Numbers.{signed_in}
use Rattle.roam_script.specs.declared.limits.Limits.{Limits}
use Rattle.roam_script.specs.declared.limits.TheConstants.{MOST_LINES, MOST_LINE_BYTES, MOST_FRAMES, MOST_PLANES}
use Rattle.roam_script.specs.declared.limits.TheConstants.{LEAST_BUDGET}
use Rattle.roam_script.specs.declared.command.Command.{Command}
use Rattle.roam_script.specs.declared.command.Command.TheVariants as command
use Rattle.roam_script.specs.declared.line.Line.{Line}
use Rattle.roam_script.specs.declared.line.Line.TheVariants.{Blank, Camera, Set, Frame, Plane, NoPlanes, Budget, Raise}
use Rattle.roam_script.specs.declared.script_fault.ScriptFault.{ScriptFault}
use Rattle.roam_script.specs.declared.script_fault.ScriptFault.TheVariants.{LineTooLong, UnknownCommand, WrongFields}
use Rattle.roam_script.specs.declared.script_fault.ScriptFault.TheVariants.{BadNumber, OutOfRange, TooManyLines}
use Rattle.roam_script.specs.declared.script_fault.ScriptFault.TheVariants.{TooManyFrames, TooManyPlanes}
use Rattle.roam_script.specs.LineText.{command_in, Range, from_to, around, is_in_range, number_of_field, size_at}
use Rattle.roam_script.specs.LineText.{ranges_of, field_number, fields_fault, line_with, line_of, counted_line}
use Rattle.roam_script.specs.LineText.{checked_line, is_comment, fields_line, line_in}
use Rattle.roam_script.specs.Laws.{line_fields, IsShort, SaysNothing, word_of, fields_behind, HasCommand, HasFields}
use Rattle.roam_script.specs.Laws.{AreWithin, NoneIsLeft, IsAndMore, FailsFirst, IsNoNumber, IsOutside, FailsLater}
use Rattle.roam_script.specs.Laws.{IsSoundLine, IsWithinCounts, LiesInRange}

-- Fields

-- a field that passes, then the faults of the others
fault-passed : (number : ℕ) (range : Range) (ranges : List Range) (field : List ℕ) (fields : List (List ℕ)) (v : ℤ) →
    signed_in field ≡ Some v → is_in_range range v ≡ true
    → fields_fault number (range ∷ ranges) (field ∷ fields) ≡ fields_fault (number + 1) ranges fields
fault-passed number range ranges field fields v is within =
    ap (λ (r : Result ℤ ScriptFault). elim r as (λ _. Option ScriptFault) [
      | Err fault ↦ Some fault
      | Ok w ↦ fields_fault (number + 1) ranges fields
    ])
    (ap (field_number range number) is ∙ cond-true (is_in_range range v) (Ok v) (Err (OutOfRange number)) within)

-- a field that is no number
fault-no_number : (number : ℕ) (range : Range) (ranges : List Range) (field : List ℕ) (fields : List (List ℕ)) →
    signed_in field ≡ None
    → fields_fault number (range ∷ ranges) (field ∷ fields) ≡ Some (BadNumber number)
fault-no_number number range ranges field fields none =
    ap (λ (r : Result ℤ ScriptFault). elim r as (λ _. Option ScriptFault) [
      | Err fault ↦ Some fault
      | Ok w ↦ fields_fault (number + 1) ranges fields
    ])
    (ap (field_number range number) none)

-- a field whose number is out of its range
fault-outside : (number : ℕ) (range : Range) (ranges : List Range) (field : List ℕ) (fields : List (List ℕ)) (v : ℤ) →
    signed_in field ≡ Some v → is_in_range range v ≡ false
    → fields_fault number (range ∷ ranges) (field ∷ fields) ≡ Some (OutOfRange number)
fault-outside number range ranges field fields v is outside =
    ap (λ (r : Result ℤ ScriptFault). elim r as (λ _. Option ScriptFault) [
      | Err fault ↦ Some fault
      | Ok w ↦ fields_fault (number + 1) ranges fields
    ])
    (ap (field_number range number) is ∙ cond-false (is_in_range range v) (Ok v) (Err (OutOfRange number)) outside)

-- the first fault of fields is that of the first field that fails
fault-of_fails : (number : ℕ) (ranges : List Range) (fields : List (List ℕ)) (fault : ScriptFault) →
    FailsFirst number ranges fields fault → fields_fault number ranges fields ≡ Some fault
fault-of_fails _ _ _ _ (IsNoNumber number range ranges field fields none) =
    fault-no_number number range ranges field fields none
fault-of_fails _ _ _ _ (IsOutside number range ranges field fields v is outside) =
    fault-outside number range ranges field fields v is outside
fault-of_fails _ _ _ _ (FailsLater number range ranges field fields fault v is within later) =
    fault-passed number range ranges field fields v is within ∙ fault-of_fails (number + 1) ranges fields fault later

-- fields that all pass have no fault
fault-of_within : (number : ℕ) (ranges : List Range) (fields : List (List ℕ)) → AreWithin ranges fields →
    fields_fault number ranges fields ≡ None
fault-of_within number _ _ NoneIsLeft = refl
fault-of_within number _ _ (IsAndMore range ranges field fields v is within more) =
    fault-passed number range ranges field fields v is within ∙ fault-of_within (number + 1) ranges fields more

-- what as many fields as ranges come to: they all pass, or one fails first
abbrev pub FieldsCome : ℕ → List Range → List (List ℕ) → Option ScriptFault → Type 0
FieldsCome number ranges fields None = AreWithin ranges fields
FieldsCome number ranges fields (Some fault) = FailsFirst number ranges fields fault

-- for what those behind a field that passes come to
come-later : (number : ℕ) (range : Range) (ranges : List Range) (field : List ℕ) (fields : List (List ℕ)) (v : ℤ) →
    signed_in field ≡ Some v → is_in_range range v ≡ true
    → (fault : Option ScriptFault) → FieldsCome (number + 1) ranges fields fault →
    FieldsCome number (range ∷ ranges) (field ∷ fields) fault
come-later number range ranges field fields v is within None more = IsAndMore range ranges field fields v is within more
come-later number range ranges field fields v is within (Some fault) later =
    FailsLater number range ranges field fields fault v is within later

-- the same, for what the first field is
fields-come_first : (number : ℕ) (range : Range) (ranges : List Range) (field : List ℕ) (fields : List (List ℕ))
    (read : Option ℤ) → signed_in field ≡ read
    → FieldsCome (number + 1) ranges fields (fields_fault (number + 1) ranges fields)
    → FieldsCome number (range ∷ ranges) (field ∷ fields)
    (elim (field_number range number read) as (λ _. Option ScriptFault) [
      | Err fault ↦ Some fault
      | Ok w ↦ fields_fault (number + 1) ranges fields
    ])
fields-come_first number range ranges field fields None is more = IsNoNumber number range ranges field fields is
fields-come_first number range ranges field fields (Some v) is more =
    cond_both (is_in_range range v) (Ok v) (Err (OutOfRange number)) (λ (r : Result ℤ ScriptFault).
    FieldsCome number (range ∷ ranges) (field ∷ fields) (elim r as (λ _. Option ScriptFault) [
      | Err fault ↦ Some fault
      | Ok w ↦ fields_fault (number + 1) ranges fields
    ]))
    (λ within. come-later number range ranges field fields v is within (fields_fault (number + 1) ranges fields) more)
    (λ outside. IsOutside number range ranges field fields v is outside)

-- so for as many fields as ranges
pub fields-come : (number : ℕ) (ranges : List Range) (fields : List (List ℕ)) → length fields ≡ length ranges →
    FieldsCome number ranges fields (fields_fault number ranges fields)
fields-come number [] [] count = NoneIsLeft
fields-come number [] (field ∷ fields) count = absurd (omega arith)
fields-come number (range ∷ ranges) [] count = absurd (omega arith)
fields-come number (range ∷ ranges) (field ∷ fields) count =
    fields-come_first number range ranges field fields (signed_in field) refl
    (fields-come (number + 1) ranges fields (omega arith))

-- Words

-- the word of a command is no comment
word-no_comment : (word : Command) → is_comment (word_of word) ≡ false
word-no_comment command.Frame = refl
word-no_comment command.Camera = refl
word-no_comment command.Set = refl
word-no_comment command.Plane = refl
word-no_comment command.NoPlanes = refl
word-no_comment command.Budget = refl
word-no_comment command.Raise = refl

-- it is read as the command
pub command-of_word : (word : Command) → command_in (word_of word) ≡ Some word
command-of_word command.Frame = refl
command-of_word command.Camera = refl
command-of_word command.Set = refl
command-of_word command.Plane = refl
command-of_word command.NoPlanes = refl
command-of_word command.Budget = refl
command-of_word command.Raise = refl

-- a test of bytes tells that they are the same
bytes-same : (first text : List ℕ) → bytes_eq first text ≡ true → first ≡ text
bytes-same first text same = (bytes_eq-Decides first text).0 same

-- what the answer of `command_in` says of the field
abbrev pub IsCommand : List ℕ → Option Command → Type 0
IsCommand first None = ⊤
IsCommand first (Some word) = first ≡ word_of word

-- only the word of a command is read as it
pub word-of_command : (first : List ℕ) → IsCommand first (command_in first)
word-of_command first =
    let P = IsCommand first in
    cond_both (bytes_eq first (codes "frame")) _ _ P (λ e. bytes-same first (codes "frame") e)
    (λ a. cond_both (bytes_eq first (codes "camera")) _ _ P (λ e. bytes-same first (codes "camera") e)
    (λ b. cond_both (bytes_eq first (codes "set")) _ _ P (λ e. bytes-same first (codes "set") e)
    (λ c. cond_both (bytes_eq first (codes "plane")) _ _ P (λ e. bytes-same first (codes "plane") e)
    (λ d. cond_both (bytes_eq first (codes "noplanes")) _ _ P (λ e. bytes-same first (codes "noplanes") e)
    (λ f. cond_both (bytes_eq first (codes "budget")) _ _ P (λ e. bytes-same first (codes "budget") e)
    (λ g. cond_both (bytes_eq first (codes "raise")) _ _ P (λ e. bytes-same first (codes "raise") e)
    (λ h. tt)))))))

-- a command has as many ranges as fields
ranges-count : (limits : Limits) (word : Command) (fields : List (List ℕ)) →
    length (ranges_of limits word fields) ≡ fields_behind word
ranges-count limits command.Frame fields = refl
ranges-count limits command.Camera fields = refl
ranges-count limits command.Set fields = refl
ranges-count limits command.Plane fields = refl
ranges-count limits command.NoPlanes fields = refl
ranges-count limits command.Budget fields = refl
ranges-count limits command.Raise fields = refl

-- Causes

-- a line of this word passes all tests
abbrev pub Accepts : Limits → List ℕ → Line → Type 0
Accepts limits bytes line =
    (word : Command) × (fields : List (List ℕ)) × IsSoundLine limits bytes word fields × IsWithinCounts limits word
    × (line ≡ line_with word fields)

-- the first field that fails has this fault
abbrev pub Fails : Limits → List ℕ → ScriptFault → Type 0
Fails limits bytes fault =
    (word : Command) × (fields : List (List ℕ)) × HasFields limits bytes word fields
    × FailsFirst 1 (ranges_of limits word fields) fields fault

-- why a line is answered so
abbrev pub Why : Limits → List ℕ → Result Line ScriptFault → Type 0
Why limits bytes (Ok Blank) = IsShort limits bytes × SaysNothing (line_fields bytes)
Why limits bytes (Ok line) = Accepts limits bytes line
Why limits bytes (Err TooManyLines) = MOST_LINES < limits.line
Why limits bytes (Err LineTooLong) = (limits.line ≤ MOST_LINES) × (MOST_LINE_BYTES < length bytes)
Why limits bytes (Err UnknownCommand) =
    (first : List ℕ) × (fields : List (List ℕ)) × IsShort limits bytes × (line_fields bytes ≡ first ∷ fields)
    × (is_comment first ≡ false) × ((word : Command) → first ≢ word_of word)
Why limits bytes (Err WrongFields) =
    (word : Command) × (fields : List (List ℕ)) × HasCommand limits bytes word fields
    × (length fields ≢ fields_behind word)
Why limits bytes (Err (BadNumber number)) = Fails limits bytes (BadNumber number)
Why limits bytes (Err (OutOfRange number)) = Fails limits bytes (OutOfRange number)
Why limits bytes (Err TooManyPlanes) =
    (fields : List (List ℕ)) × IsSoundLine limits bytes command.Plane fields × (MOST_PLANES ≤ limits.planes)
Why limits bytes (Err TooManyFrames) =
    (fields : List (List ℕ)) × IsSoundLine limits bytes command.Frame fields × (MOST_FRAMES ≤ limits.frames)

-- a fault of a field is one of its number
abbrev pub IsOfNumber : ScriptFault → Type 0
IsOfNumber (BadNumber _) = ⊤
IsOfNumber (OutOfRange _) = ⊤
IsOfNumber _ = ⊥

fails-number : (number : ℕ) (ranges : List Range) (fields : List (List ℕ)) (fault : ScriptFault) →
    FailsFirst number ranges fields fault → IsOfNumber fault
fails-number _ _ _ _ (IsNoNumber number range ranges field fields none) = tt
fails-number _ _ _ _ (IsOutside number range ranges field fields v is outside) = tt
fails-number _ _ _ _ (FailsLater number range ranges field fields fault v is within later) =
    fails-number (number + 1) ranges fields fault later

why-fails : (limits : Limits) (bytes : List ℕ) (fault : ScriptFault) → IsOfNumber fault → Fails limits bytes fault →
    Why limits bytes (Err fault)
why-fails limits bytes (BadNumber number) of_number fails = fails
why-fails limits bytes (OutOfRange number) of_number fails = fails
why-fails limits bytes LineTooLong of_number fails = absurd of_number
why-fails limits bytes UnknownCommand of_number fails = absurd of_number
why-fails limits bytes WrongFields of_number fails = absurd of_number
why-fails limits bytes TooManyLines of_number fails = absurd of_number
why-fails limits bytes TooManyFrames of_number fails = absurd of_number
why-fails limits bytes TooManyPlanes of_number fails = absurd of_number

why-sound : (limits : Limits) (bytes : List ℕ) (word : Command) (fields : List (List ℕ)) →
    IsSoundLine limits bytes word fields → Why limits bytes (counted_line limits (Ok (line_with word fields)))
why-sound limits bytes command.Frame fields sound =
    cond_both (ltb limits.frames MOST_FRAMES) (Ok Frame) (Err TooManyFrames) (Why limits bytes)
    (λ e. (command.Frame, fields, sound, ltb-true limits.frames MOST_FRAMES e, refl))
    (λ e. (fields, sound, ltb-false limits.frames MOST_FRAMES e))
why-sound limits bytes command.Plane fields sound =
    cond_both (ltb limits.planes MOST_PLANES) (Ok (line_with command.Plane fields))
    (Err TooManyPlanes) (Why limits bytes)
    (λ e. (command.Plane, fields, sound, ltb-true limits.planes MOST_PLANES e, refl))
    (λ e. (fields, sound, ltb-false limits.planes MOST_PLANES e))
why-sound limits bytes command.Camera fields sound = (command.Camera, fields, sound, tt, refl)
why-sound limits bytes command.Set fields sound = (command.Set, fields, sound, tt, refl)
why-sound limits bytes command.NoPlanes fields sound = (command.NoPlanes, fields, sound, tt, refl)
why-sound limits bytes command.Budget fields sound = (command.Budget, fields, sound, tt, refl)
why-sound limits bytes command.Raise fields sound = (command.Raise, fields, sound, tt, refl)

why-faults : (limits : Limits) (bytes : List ℕ) (word : Command) (fields : List (List ℕ)) (fault : Option ScriptFault) →
    HasFields limits bytes word fields
    → FieldsCome 1 (ranges_of limits word fields) fields fault
    → Why limits bytes (counted_line limits (elim fault as (λ _. Result Line ScriptFault) [
      | Some why ↦ Err why
      | None ↦ Ok (line_with word fields)
    ]))
why-faults limits bytes word fields None counted within =
    why-sound limits bytes word fields (record { counted = counted; within = within })
why-faults limits bytes word fields (Some fault) counted fails =
    why-fails limits bytes fault (fails-number 1 (ranges_of limits word fields) fields fault fails)
    (word, fields, counted, fails)

why-word : (limits : Limits) (bytes first : List ℕ) (fields : List (List ℕ)) (word : Option Command) →
    IsShort limits bytes → line_fields bytes ≡ first ∷ fields
    → is_comment first ≡ false → command_in first ≡ word → Why limits bytes (checked_line limits word fields)
why-word limits bytes first fields None short cut other is =
    (first, fields, short, cut, other, (λ word same. let e = command-of_word word in let f = ap command_in same in cc))
why-word limits bytes first fields (Some word) short cut other is =
    let same : first ≡ word_of word = subst (IsCommand first) is (word-of_command first) in
    let begins : HasCommand limits bytes word fields =
    record { short = short; cut = cut ∙ ap (λ w. w ∷ fields) same } in
    let count = ranges-count limits word fields in
    cond_both (eqb (length fields) (length (ranges_of limits word fields)))
    (counted_line limits (line_of limits word fields)) (Err WrongFields) (Why limits bytes)
    (λ e. let as_many = eqb-true (length fields) (length (ranges_of limits word fields)) e in
    why-faults limits bytes word fields (fields_fault 1 (ranges_of limits word fields) fields)
    (record { begins = begins; count = as_many ∙ count })
    (fields-come 1 (ranges_of limits word fields) fields as_many))
    (λ e. (
      word,
      fields,
      begins,
      (λ same. eqb-false (length fields) (length (ranges_of limits word fields)) e (same ∙ sym count)),
    ))

why-fields : (limits : Limits) (bytes : List ℕ) (fields : List (List ℕ)) → IsShort limits bytes →
    line_fields bytes ≡ fields → Why limits bytes (fields_line limits fields)
why-fields limits bytes [] short cut = (short, subst SaysNothing (sym cut) tt)
why-fields limits bytes (first ∷ fields) short cut =
    cond_both (is_comment first) (Ok Blank) (checked_line limits (command_in first) fields) (Why limits bytes)
    (λ e. (short, subst SaysNothing (sym cut) e))
    (λ e. why-word limits bytes first fields (command_in first) short cut e refl)

-- each answer has its cause
pub why : (limits : Limits) (bytes : List ℕ) → Why limits bytes (line_in limits bytes)
unfolding line_in
why limits bytes =
    cond_both (ltb MOST_LINES limits.line) _ _ (Why limits bytes) (λ e. ltb-true MOST_LINES limits.line e)
    (λ e. let line = ltb-false MOST_LINES limits.line e in
    cond_both (ltb MOST_LINE_BYTES (length bytes)) _ _ (Why limits bytes)
    (λ d. (line, ltb-true MOST_LINE_BYTES (length bytes) d))
    (λ d. why-fields limits bytes (line_fields bytes) (record {
      in_script = line;
      few = ltb-false MOST_LINE_BYTES (length bytes) d;
    }) refl))

-- the cause of an answer
pub cause : (limits : Limits) (bytes : List ℕ) (answer : Result Line ScriptFault) →
    line_in limits bytes ≡ answer → Why limits bytes answer
cause limits bytes answer e = subst (Why limits bytes) e (why limits bytes)

-- a line in the script of at most 200 bytes is that of its fields
in-short : (limits : Limits) (bytes : List ℕ) → IsShort limits bytes →
    line_in limits bytes ≡ fields_line limits (line_fields bytes)
unfolding line_in
in-short limits bytes short =
    cond-false (ltb MOST_LINES limits.line) _ _ (le-ltb MOST_LINES limits.line short.in_script)
    ∙ cond-false (ltb MOST_LINE_BYTES (length bytes)) _ _ (le-ltb MOST_LINE_BYTES (length bytes) short.few)

-- of a line with a command the count of fields decides
in-command : (limits : Limits) (bytes : List ℕ) (word : Command) (fields : List (List ℕ)) →
    HasCommand limits bytes word fields
    → line_in limits bytes ≡ checked_line limits (Some word) fields
in-command limits bytes word fields begins =
    in-short limits bytes begins.short ∙ ap (fields_line limits) begins.cut
    ∙ cond-false (is_comment (word_of word)) _ _ (word-no_comment word)
    ∙ ap (λ w. checked_line limits w fields) (command-of_word word)

-- with as many fields as the command has, their numbers
in-fields : (limits : Limits) (bytes : List ℕ) (word : Command) (fields : List (List ℕ)) →
    HasFields limits bytes word fields
    → line_in limits bytes ≡ counted_line limits (line_of limits word fields)
in-fields limits bytes word fields counted =
    in-command limits bytes word fields counted.begins
    ∙ cond-true (eqb (length fields) (length (ranges_of limits word fields))) _ _
    (eq-eqb (length fields) (length (ranges_of limits word fields))
    (counted.count ∙ sym (ranges-count limits word fields)))

-- and where they all pass, the counts of planes and frames
in-sound : (limits : Limits) (bytes : List ℕ) (word : Command) (fields : List (List ℕ)) →
    IsSoundLine limits bytes word fields
    → line_in limits bytes ≡ counted_line limits (Ok (line_with word fields))
in-sound limits bytes word fields sound =
    in-fields limits bytes word fields sound.counted
    ∙ ap (λ (o : Option ScriptFault). counted_line limits (elim o as (λ _. Result Line ScriptFault) [
      | Some fault ↦ Err fault
      | None ↦ Ok (line_with word fields)
    ]))
    (fault-of_within 1 (ranges_of limits word fields) fields sound.within)

counted-accepts : (limits : Limits) (word : Command) (fields : List (List ℕ)) → IsWithinCounts limits word →
    counted_line limits (Ok (line_with word fields)) ≡ Ok (line_with word fields)
counted-accepts limits command.Frame fields few =
    cond-true (ltb limits.frames MOST_FRAMES) _ _ (lt-ltb limits.frames MOST_FRAMES few)
counted-accepts limits command.Plane fields few =
    cond-true (ltb limits.planes MOST_PLANES) _ _ (lt-ltb limits.planes MOST_PLANES few)
counted-accepts limits command.Camera fields few = refl
counted-accepts limits command.Set fields few = refl
counted-accepts limits command.NoPlanes fields few = refl
counted-accepts limits command.Budget fields few = refl
counted-accepts limits command.Raise fields few = refl

-- a line that passes all tests is accepted
pub in-accepted : (limits : Limits) (bytes : List ℕ) (line : Line) → Accepts limits bytes line →
    line_in limits bytes ≡ Ok line
in-accepted limits bytes line (word, fields, sound, few, is) =
    in-sound limits bytes word fields sound ∙ counted-accepts limits word fields few ∙ ap (λ l. Ok l) (sym is)

-- a line with a field that fails is refused so
in-fails : (limits : Limits) (bytes : List ℕ) (fault : ScriptFault) → Fails limits bytes fault →
    line_in limits bytes ≡ Err fault
in-fails limits bytes fault (word, fields, counted, fails) =
    in-fields limits bytes word fields counted
    ∙ ap (λ (o : Option ScriptFault). counted_line limits (elim o as (λ _. Result Line ScriptFault) [
      | Some why ↦ Err why
      | None ↦ Ok (line_with word fields)
    ]))
    (fault-of_fails 1 (ranges_of limits word fields) fields fault fails)

in-nothing : (limits : Limits) (fields : List (List ℕ)) → SaysNothing fields → fields_line limits fields ≡ Ok Blank
in-nothing limits [] nothing = refl
in-nothing limits (first ∷ fields) nothing = cond-true (is_comment first) _ _ nothing

in-unknown : (limits : Limits) (bytes first : List ℕ) (fields : List (List ℕ)) (word : Option Command) →
    command_in first ≡ word → ((w : Command) → first ≢ word_of w) → command_in first ≡ None
in-unknown limits bytes first fields None is differs = is
in-unknown limits bytes first fields (Some word) is differs =
    absurd (differs word (subst (IsCommand first) is (word-of_command first)))

-- and each cause its answer
pub because : (limits : Limits) (bytes : List ℕ) (answer : Result Line ScriptFault) → Why limits bytes answer →
    line_in limits bytes ≡ answer
unfolding line_in
because limits bytes (Ok Blank) w = in-short limits bytes w.0 ∙ in-nothing limits (line_fields bytes) w.1
because limits bytes (Ok (Camera x y z)) w = in-accepted limits bytes (Camera x y z) w
because limits bytes (Ok (Set x y h)) w = in-accepted limits bytes (Set x y h) w
because limits bytes (Ok Frame) w = in-accepted limits bytes Frame w
because limits bytes (Ok (Plane a b c d)) w = in-accepted limits bytes (Plane a b c d) w
because limits bytes (Ok NoPlanes) w = in-accepted limits bytes NoPlanes w
because limits bytes (Ok (Budget n)) w = in-accepted limits bytes (Budget n) w
because limits bytes (Ok (Raise x0 y0 x1 y1 dz)) w = in-accepted limits bytes (Raise x0 y0 x1 y1 dz) w
because limits bytes (Err TooManyLines) w = cond-true (ltb MOST_LINES limits.line) _ _ (lt-ltb MOST_LINES limits.line w)
because limits bytes (Err LineTooLong) w =
    cond-false (ltb MOST_LINES limits.line) _ _ (le-ltb MOST_LINES limits.line w.0)
    ∙ cond-true (ltb MOST_LINE_BYTES (length bytes)) _ _ (lt-ltb MOST_LINE_BYTES (length bytes) w.1)
because limits bytes (Err UnknownCommand) (first, fields, short, cut, not_comment, unknown) =
    in-short limits bytes short ∙ ap (fields_line limits) cut ∙ cond-false (is_comment first) _ _ not_comment
    ∙ ap (λ w. checked_line limits w fields) (in-unknown limits bytes first fields (command_in first) refl unknown)
because limits bytes (Err WrongFields) (word, fields, begins, differ) =
    in-command limits bytes word fields begins
    ∙ cond-false (eqb (length fields) (length (ranges_of limits word fields))) _ _
    (ne_eqb (length fields) (length (ranges_of limits word fields))
    (λ same. differ (same ∙ ranges-count limits word fields)))
because limits bytes (Err (BadNumber number)) w = in-fails limits bytes (BadNumber number) w
because limits bytes (Err (OutOfRange number)) w = in-fails limits bytes (OutOfRange number) w
because limits bytes (Err TooManyPlanes) (fields, sound, many) =
    in-sound limits bytes command.Plane fields sound
    ∙ cond-false (ltb limits.planes MOST_PLANES) _ _ (le-ltb limits.planes MOST_PLANES many)
because limits bytes (Err TooManyFrames) (fields, sound, many) =
    in-sound limits bytes command.Frame fields sound
    ∙ cond-false (ltb limits.frames MOST_FRAMES) _ _ (le-ltb limits.frames MOST_FRAMES many)

-- a line other than a blank one is accepted because it passes all tests
pub accepted-cause : (limits : Limits) (bytes : List ℕ) (line : Line) → line ≢ Blank → Why limits bytes (Ok line) →
    Accepts limits bytes line
accepted-cause limits bytes Blank told w = absurd (told refl)
accepted-cause limits bytes (Camera x y z) told w = w
accepted-cause limits bytes (Set x y h) told w = w
accepted-cause limits bytes Frame told w = w
accepted-cause limits bytes (Plane a b c d) told w = w
accepted-cause limits bytes NoPlanes told w = w
accepted-cause limits bytes (Budget n) told w = w
accepted-cause limits bytes (Raise x0 y0 x1 y1 dz) told w = w

-- what stands behind more than 200 bytes changes no answer
pub settled : (limits : Limits) (bytes more : List ℕ) → MOST_LINE_BYTES < length bytes →
    line_in limits (bytes ++ more) ≡ line_in limits bytes
unfolding line_in
settled limits bytes more long =
    let longer : MOST_LINE_BYTES < length (bytes ++ more) = omega (arith, long, length-append bytes more) in
    ap (λ (v : Bool). if ltb MOST_LINES limits.line then Err TooManyLines
    else (if v then Err LineTooLong else fields_line limits (line_fields (bytes ++ more))))
    (lt-ltb MOST_LINE_BYTES (length (bytes ++ more)) longer)
    ∙ sym (ap (λ (v : Bool). if ltb MOST_LINES limits.line then Err TooManyLines
    else (if v then Err LineTooLong else fields_line limits (line_fields bytes)))
    (lt-ltb MOST_LINE_BYTES (length bytes) long))

-- Ranges

-- the range of the field at this place
abbrev pub range_at : List Range → ℕ → Range
range_at [] k = record { low = pos 0; high = pos 0 }
range_at (range ∷ ranges) zero = range
range_at (range ∷ ranges) (suc k) = range_at ranges k

-- fields that pass have numbers in their ranges
pub within-at : (ranges : List Range) (fields : List (List ℕ)) (k : ℕ) → AreWithin ranges fields → k < length ranges →
    is_in_range (range_at ranges k) (number_of_field fields k) ≡ true
within-at _ _ k NoneIsLeft below = absurd (omega arith)
within-at _ _ zero (IsAndMore range ranges field fields v is within more) below =
    ap (λ (o : Option ℤ). is_in_range range (unwrap_or o (pos 0))) is ∙ within
within-at _ _ (suc k) (IsAndMore range ranges field fields v is within more) below =
    within-at ranges fields k more (omega arith)

-- a test of a range tells both ends
within-ends : (range : Range) (v : ℤ) → is_in_range range v ≡ true → (range.low ≤ℤ v) × (v ≤ℤ range.high)
within-ends range v within = (grind (arith, ints), grind (arith, ints))

-- a number around 0 is of at most this size
around-size : (size : ℕ) (v : ℤ) → is_in_range (around (pos size)) v ≡ true → unsigned_abs v ≤ size
around-size size v within = let ends = within-ends (around (pos size)) v within in omega (arith, ints, ends.0, ends.1)

-- a number between two that are not below 0
pub between-sizes : (low high : ℕ) (v : ℤ) → is_in_range (from_to (pos low) (pos high)) v ≡ true →
    (low ≤ unsigned_abs v) × (unsigned_abs v ≤ high) × (v ≡ pos (unsigned_abs v))
between-sizes low high v within =
    let ends = within-ends (from_to (pos low) (pos high)) v within in
    (omega (arith, ints, ends.0, ends.1), omega (arith, ints, ends.0, ends.1), omega (arith, ints, ends.0, ends.1))

-- a line that passes all tests lies in its ranges
lies : (limits : Limits) (bytes : List ℕ) (word : Command) (fields : List (List ℕ)) →
    AreWithin (ranges_of limits word fields) fields → IsWithinCounts limits word
    → LiesInRange limits (line_with word fields)
lies limits bytes command.Frame fields within few = few
lies limits bytes command.Camera fields within few = (
  around-size (2 ^ 30) (number_of_field fields 0) (within-at _ fields 0 within (lit< tt)),
  around-size (2 ^ 30) (number_of_field fields 1) (within-at _ fields 1 within (lit< tt)),
  around-size (2 ^ 30) (number_of_field fields 2) (within-at _ fields 2 within (lit< tt)),
)
lies limits bytes command.Set fields within few = (
  (between-sizes 0 (2 ^ limits.n) (number_of_field fields 0) (within-at _ fields 0 within (lit< tt))).1,
  (between-sizes 0 (2 ^ limits.n) (number_of_field fields 1) (within-at _ fields 1 within (lit< tt))).1,
  (between-sizes 0 limits.maxval (number_of_field fields 2) (within-at _ fields 2 within (lit< tt))).1,
)
lies limits bytes command.Plane fields within few = (
  around-size (2 ^ 20) (number_of_field fields 0) (within-at _ fields 0 within (lit< tt)),
  around-size (2 ^ 20) (number_of_field fields 1) (within-at _ fields 1 within (lit< tt)),
  around-size (2 ^ 20) (number_of_field fields 2) (within-at _ fields 2 within (lit< tt)),
  around-size (2 ^ 50) (number_of_field fields 3) (within-at _ fields 3 within (lit< tt)),
  few,
)
lies limits bytes command.NoPlanes fields within few = tt
lies limits bytes command.Budget fields within few =
    let size =
    between-sizes LEAST_BUDGET limits.budget (number_of_field fields 0) (within-at _ fields 0 within (lit< tt)) in
    (size.0, size.1)
lies limits bytes command.Raise fields within few =
    let x0 = between-sizes 0 (2 ^ limits.n) (number_of_field fields 0) (within-at _ fields 0 within (lit< tt)) in
    let y0 = between-sizes 0 (2 ^ limits.n) (number_of_field fields 1) (within-at _ fields 1 within (lit< tt)) in
    let in_x1 = subst (λ (v : ℤ). is_in_range (from_to v (pos (2 ^ limits.n))) (number_of_field fields 2) ≡ true) x0.2
    (within-at _ fields 2 within (lit< tt)) in
    let in_y1 = subst (λ (v : ℤ). is_in_range (from_to v (pos (2 ^ limits.n))) (number_of_field fields 3) ≡ true) y0.2
    (within-at _ fields 3 within (lit< tt)) in
    let x1 = between-sizes (size_at fields 0) (2 ^ limits.n) (number_of_field fields 2) in_x1 in
    let y1 = between-sizes (size_at fields 1) (2 ^ limits.n) (number_of_field fields 3) in_y1 in
    (x1.0, x1.1, y1.0, y1.1, around-size 65535 (number_of_field fields 4) (within-at _ fields 4 within (lit< tt)))

accepts-lies : (limits : Limits) (bytes : List ℕ) (line : Line) → Accepts limits bytes line → LiesInRange limits line
accepts-lies limits bytes line (word, fields, sound, few, is) =
    subst (LiesInRange limits) (sym is) (lies limits bytes word fields sound.within few)

-- an accepted line lies in its ranges
pub in-range : (limits : Limits) (bytes : List ℕ) (line : Line) → Why limits bytes (Ok line) → LiesInRange limits line
in-range limits bytes Blank w = tt
in-range limits bytes (Camera x y z) w = accepts-lies limits bytes (Camera x y z) w
in-range limits bytes (Set x y h) w = accepts-lies limits bytes (Set x y h) w
in-range limits bytes Frame w = accepts-lies limits bytes Frame w
in-range limits bytes (Plane a b c d) w = accepts-lies limits bytes (Plane a b c d) w
in-range limits bytes NoPlanes w = tt
in-range limits bytes (Budget n) w = accepts-lies limits bytes (Budget n) w
in-range limits bytes (Raise x0 y0 x1 y1 dz) w = accepts-lies limits bytes (Raise x0 y0 x1 y1 dz) w

-- a field is a command exactly where it is its word
pub command-word : (first : List ℕ) (word : Command) → (command_in first ≡ Some word) ↔ (first ≡ word_of word)
command-word first word =
    ((λ e. subst (IsCommand first) e (word-of_command first)), (λ same. ap command_in same ∙ command-of_word word))
