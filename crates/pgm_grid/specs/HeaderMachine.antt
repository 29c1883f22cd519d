-- The header as a machine of bytes, without places and without a limit of length. The laws of `Laws` say
-- in the format's own words what it reads.
--
-- Words: letter_step, gap_step, number_ended, number_step, step_of, IsState, IsStep.
use Rattle.std.specs.Prelude.{ℕ, ◌+◌, ◌-◌, ◌*◌, ◌^◌, ◌<◌, ◌≤◌, true, false, ◌==◌, ◌&&◌, nat_lt, if◌then◌else◌, ⊤}
use Rattle.std.specs.Char.{is_ascii_digit}
use Rattle.text_laws.specs.Blanks.{is_white, is_line_end}
use Rattle.pgm_grid.specs.declared.header_machine.Fields.{Fields}
use Rattle.pgm_grid.specs.declared.header_machine.Fields.TheVariants as fields
use Rattle.pgm_grid.specs.declared.header_machine.State.{State}
use Rattle.pgm_grid.specs.declared.header_machine.State.TheVariants.{Start, Letter, Named, Gap, Comment, Number}
use Rattle.pgm_grid.specs.declared.header_machine.Step.{Step}
use Rattle.pgm_grid.specs.declared.header_machine.Step.TheVariants.{Goes, Ends, Fails}

-- a byte after the `P` of the magic
abbrev pub letter_step : ℕ → Step
letter_step byte = if byte == 50 then Goes (Named true) else if byte == 53 then Goes (Named false) else Fails

-- a byte in the gap after these fields, outside comments
abbrev pub gap_step : Fields → ℕ → Step
gap_step before byte =
    if is_white byte then Goes (Gap before) else if byte == 35 then Goes (Comment before) else if is_ascii_digit byte
    then Goes (Number before 1 (byte - 48))
    else Fails

-- whitespace after the number that follows these fields
abbrev pub number_ended : Fields → ℕ → Step
number_ended (fields.Magic plain) value = Goes (Gap (fields.Width plain value))
number_ended (fields.Width plain width) value = Goes (Gap (fields.Height plain width value))
number_ended (fields.Height plain width height) value =
    Ends (record { plain = plain; width = width; height = height; maxval = value })

-- a byte after some digits of the number that follows these fields
abbrev pub number_step : Fields → ℕ → ℕ → ℕ → Step
number_step before digits value byte =
    if is_white byte then number_ended before value
    else if is_ascii_digit byte && nat_lt digits 9
    then Goes (Number before (digits + 1) (10 * value + (byte - 48))) else Fails

-- a byte
abbrev pub step_of : State → ℕ → Step
step_of Start byte = if byte == 80 then Goes Letter else Fails
step_of Letter byte = letter_step byte
step_of (Named plain) byte = if is_white byte then Goes (Gap (fields.Magic plain)) else Fails
step_of (Gap before) byte = gap_step before byte
step_of (Comment before) byte = if is_line_end byte then Goes (Gap before) else Goes (Comment before)
step_of (Number before digits value) byte = number_step before digits value byte

-- a number has 1 to 9 digits, and no more than they hold
pub record IsNumber (digits value : ℕ) : Type 0 where
  pub some : 1 ≤ digits
  pub short : digits ≤ 9
  pub fits : value < 10 ^ digits

-- the numbers of a state are in their ranges
abbrev pub IsState : State → Type 0
IsState (Number before digits value) = IsNumber digits value
IsState _ = ⊤

-- so are those after a step
abbrev pub IsStep : Step → Type 0
IsStep (Goes state) = IsState state
IsStep _ = ⊤
