-- The point of a line of a file of points: it is one of the grid, and where a line is one too many or too long.
use Rattle.std.proofs.Common.{◌≡◌, ◌≢◌, ◌⊎◌, ℕ, ◌+◌, ◌^◌, ◌<◌, ◌≤◌, Bool, true, false, List, [], ◌∷◌, length, Option}
use Rattle.std.proofs.Common.{Some}
use Rattle.std.proofs.Common.{None, Result, Ok, Err, if◌then◌else◌, ◌==◌, nat_lt, refl, sym, ◌∙◌, ap, subst, ⊎_elim}
use Rattle.std.proofs.Common.{eqb-true, lit<}
use Rattle.std.proofs.lemmas.Bool.{lt-ltb, le-ltb, cases_lt}
use Rattle.mesh_defs.specs.declared.point.Point.{Point}
use Rattle.text_laws.specs.Fields.{fields_of, without_last_cr}
use Rattle.roam_script.specs.declared.limits.TheConstants.{MOST_LINE_BYTES}
use Rattle.roam_script.specs.declared.script_fault.ScriptFault.{ScriptFault}
use Rattle.roam_script.specs.declared.script_fault.ScriptFault.TheVariants.{LineTooLong, WrongFields, TooManyLines}
use Rattle.roam_script.specs.LineText.{Range, number_of_field, size_at, fields_fault, is_comment}
use Rattle.roam_script.specs.Laws.{FailsFirst}
use Rattle.roam_script.specs.Laws.FailsFirst.{IsNoNumber, IsOutside, FailsLater}
use Rattle.roam_script.specs.PointText.{most_points, point_ranges, point_of, point_with, counted_point, point_fields}
use Rattle.roam_script.specs.PointText.{point_in, PointsAreInGrid, LatePointsAreTooMany, LongPointsAreTooLong}
use Rattle.roam_script.proofs.LineLemmas.{FieldsCome, fields-come, within-at, between-sizes}

-- the answer of a line
abbrev Said : Type 0
Said = Result (Option Point) ScriptFault

-- it is of a point of the grid, or a refusal of a field
abbrev IsSound : ℕ → Said → Type 0
IsSound n (Ok None) = Unit {0}
IsSound n (Ok (Some at)) = (at.x ≤ 2 ^ n) × (at.y ≤ 2 ^ n)
IsSound n (Err why) = (why ≢ TooManyLines) × (why ≢ LineTooLong)

-- a field that fails is no line that is one too many or too long
fails-field : (number : ℕ) (ranges : List Range) (fields : List (List ℕ)) (why : ScriptFault) →
    FailsFirst number ranges fields why → (why ≢ TooManyLines) × (why ≢ LineTooLong)
fails-field _ _ _ _ (IsNoNumber number range ranges field fields none) = ((λ e. cc), (λ e. cc))
fails-field _ _ _ _ (IsOutside number range ranges field fields v is outside) = ((λ e. cc), (λ e. cc))
fails-field _ _ _ _ (FailsLater number range ranges field fields why v is within later) =
    fails-field (number + 1) ranges fields why later

-- two fields are a point of the grid, or one of them fails
fields-sound : (n : ℕ) (fields : List (List ℕ)) (fault : Option ScriptFault) →
    FieldsCome 1 (point_ranges n) fields fault
    → IsSound n (point_with (elim fault as (λ _. Result Point ScriptFault) [
      | Some why ↦ Err why
      | None ↦ Ok (record { x = size_at fields 0; y = size_at fields 1 })
    ]))
fields-sound n fields None within = (
  (between-sizes 0 (2 ^ n) (number_of_field fields 0) (within-at _ fields 0 within (lit< tt))).1,
  (between-sizes 0 (2 ^ n) (number_of_field fields 1) (within-at _ fields 1 within (lit< tt))).1,
)
fields-sound n fields (Some why) fails = fails-field 1 (point_ranges n) fields why fails

counted-sound : (n : ℕ) (fields : List (List ℕ)) (b : Bool) → (length fields == 2) ≡ b →
    IsSound n (if b then point_with (point_of n fields) else Err WrongFields)
counted-sound n fields true two =
    fields-sound n fields (fields_fault 1 (point_ranges n) fields)
    (fields-come 1 (point_ranges n) fields (eqb-true (length fields) 2 two))
counted-sound n fields false two = ((λ e. cc), (λ e. cc))

all-sound : (n : ℕ) (fields : List (List ℕ)) → IsSound n (point_fields n fields)
all-sound n [] = tt
all-sound n (word ∷ fields) = commented (is_comment word)
  where
    commented : (b : Bool) → IsSound n (if b then Ok None else counted_point n (word ∷ fields))
    commented true = tt
    commented false = counted-sound n (word ∷ fields) (length (word ∷ fields) == 2) refl

-- a line behind as many as there may be
point-many : (n line : ℕ) (bytes : List ℕ) → most_points n < line → point_in n line bytes ≡ Err TooManyLines
unfolding point_in
point-many n line bytes many =
    ap (λ (b : Bool). let a : Said = if b then Err TooManyLines
    else (if nat_lt MOST_LINE_BYTES (length bytes) then Err LineTooLong
    else point_fields n (fields_of (without_last_cr bytes))) in a)
    (lt-ltb (most_points n) line many)

-- or none such
point-few : (n line : ℕ) (bytes : List ℕ) → line ≤ most_points n →
    point_in n line bytes ≡ (if nat_lt MOST_LINE_BYTES (length bytes) then Err LineTooLong
    else point_fields n (fields_of (without_last_cr bytes)))
unfolding point_in
point-few n line bytes few =
    ap (λ (b : Bool). let a : Said = if b then Err TooManyLines
    else (if nat_lt MOST_LINE_BYTES (length bytes) then Err LineTooLong
    else point_fields n (fields_of (without_last_cr bytes))) in a)
    (le-ltb (most_points n) line few)

-- that is too long
point-long : (n line : ℕ) (bytes : List ℕ) → line ≤ most_points n → MOST_LINE_BYTES < length bytes →
    point_in n line bytes ≡ Err LineTooLong
point-long n line bytes few long =
    point-few n line bytes few
    ∙ ap (λ (b : Bool). let a : Said = if b then Err LineTooLong
    else point_fields n (fields_of (without_last_cr bytes)) in a)
    (lt-ltb MOST_LINE_BYTES (length bytes) long)

-- or not
point-short : (n line : ℕ) (bytes : List ℕ) → line ≤ most_points n → length bytes ≤ MOST_LINE_BYTES →
    point_in n line bytes ≡ point_fields n (fields_of (without_last_cr bytes))
point-short n line bytes few short =
    point-few n line bytes few
    ∙ ap (λ (b : Bool). let a : Said = if b then Err LineTooLong
    else point_fields n (fields_of (without_last_cr bytes)) in a)
    (le-ltb MOST_LINE_BYTES (length bytes) short)

no-sound : (n : ℕ) (why : ScriptFault) (answer : Said) → IsSound n answer → answer ≡ Err why →
    (why ≢ TooManyLines) × (why ≢ LineTooLong)
no-sound n why answer sound is = subst (IsSound n) is sound

other-refusal : (let a : Said = Err LineTooLong in a) ≡ Err TooManyLines → ⊥
other-refusal e = cc

no-point : (why : ScriptFault) (at : Point) → (let a : Said = Err why in a) ≡ Ok (Some at) → ⊥
no-point why at e = cc

-- a line that says something of the points is short, and not behind as many as there may be
module _ (n line : ℕ) (bytes : List ℕ) where
  abbrev plain : Said
  plain = point_fields n (fields_of (without_last_cr bytes))

  all-is-sound : IsSound n plain
  all-is-sound = all-sound n (fields_of (without_last_cr bytes))

  pub point-in_grid : (at : Point) → point_in n line bytes ≡ Ok (Some at) → (at.x ≤ 2 ^ n) × (at.y ≤ 2 ^ n)
  point-in_grid at is = ⊎_elim
      (λ many. absurd (no-point TooManyLines at (sym (point-many n line bytes many) ∙ is)))
      (λ few. ⊎_elim
      (λ long. absurd (no-point LineTooLong at (sym (point-long n line bytes few long) ∙ is)))
      (λ short. subst (IsSound n) (sym (point-short n line bytes few short) ∙ is) all-is-sound)
      (cases_lt MOST_LINE_BYTES (length bytes)))
      (cases_lt (most_points n) line)

  pub late-point : point_in n line bytes ≡ Err TooManyLines → most_points n < line
  late-point is = ⊎_elim
      (λ many. many)
      (λ few. ⊎_elim
      (λ long. absurd (other-refusal (sym (point-long n line bytes few long) ∙ is)))
      (λ short. absurd ((no-sound n TooManyLines plain all-is-sound
      (sym (point-short n line bytes few short) ∙ is)).0 refl))
      (cases_lt MOST_LINE_BYTES (length bytes)))
      (cases_lt (most_points n) line)

  pub long-point : line ≤ most_points n → point_in n line bytes ≡ Err LineTooLong → MOST_LINE_BYTES < length bytes
  long-point few is = ⊎_elim
      (λ long. long)
      (λ short. absurd ((no-sound n LineTooLong plain all-is-sound
      (sym (point-short n line bytes few short) ∙ is)).1 refl))
      (cases_lt MOST_LINE_BYTES (length bytes))

pub in-grid : PointsAreInGrid
in-grid n line bytes at is = point-in_grid n line bytes at is

pub late : LatePointsAreTooMany
late n line bytes = (late-point n line bytes, point-many n line bytes)

pub long : LongPointsAreTooLong
long n line bytes few = (long-point n line bytes few, point-long n line bytes few)
