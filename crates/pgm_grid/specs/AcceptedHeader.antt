-- Which headers are accepted, and what is answered for the others: this project's own profile of PGM files.
--
-- Words: IsLevel, IsMaxval, IsHeader, Accepts, side_level, with_level, judged, HeaderAnswer.
use Rattle.std.specs.Prelude.{◌≡◌, ℕ, ◌≤◌, ◌==◌, ◌||◌, not, nat_lt, if◌then◌else◌, List, Option, Some, None, Result, Ok}
use Rattle.std.specs.Prelude.{Err}
use Rattle.pgm_grid.specs.declared.accepted_header.TheConstants.{GREATEST_MAXVAL}
use Rattle.mesh_defs.specs.declared.level.TheConstants.{GREATEST_FILE_LEVEL}
use Rattle.mesh_defs.specs.HeightField.{side_of}
use Rattle.pgm_grid.specs.declared.header_machine.HeaderValues.{HeaderValues}
use Rattle.pgm_grid.specs.declared.accepted_header.Header.{Header}
use Rattle.pgm_grid.specs.declared.header_fault.HeaderFault.{HeaderFault}
use Rattle.pgm_grid.specs.declared.header_fault.HeaderFault.TheVariants.{BadMaxval, NotSquare, BadSide}

-- a grid may have this n: its side is 3, 5, 9, 17, 33, 65, 129, 257, 513, 1025 or 2049
pub record IsLevel (n : ℕ) : Type 0 where
  pub low : 1 ≤ n
  pub high : n ≤ GREATEST_FILE_LEVEL

-- a grid may have this maxval
pub record IsMaxval (maxval : ℕ) : Type 0 where
  pub low : 1 ≤ maxval
  pub high : maxval ≤ GREATEST_MAXVAL

-- the numbers of a header that is accepted
pub record IsHeader (header : Header) : Type 0 where
  pub level : IsLevel header.n
  pub maxval : IsMaxval header.maxval

-- the values are accepted as this header
pub record Accepts (values : HeaderValues) (header : Header) : Type 0 where
  pub valid : IsHeader header
  pub plain : header.plain ≡ values.plain
  pub maxval : header.maxval ≡ values.maxval
  pub width : values.width ≡ side_of header.n
  pub height : values.height ≡ side_of header.n

-- the n of an accepted side
abbrev pub side_level : ℕ → Option ℕ
side_level side =
    if side == 3 then Some 1 else if side == 5 then Some 2 else if side == 9 then Some 3 else if side == 17 then Some 4
    else if side == 33 then Some 5
    else if side == 65 then Some 6 else if side == 129 then Some 7 else if side == 257 then Some 8
    else if side == 513 then Some 9
    else if side == 1025 then Some 10 else if side == 2049 then Some GREATEST_FILE_LEVEL else None

-- the header of these values with this n
abbrev pub with_level : HeaderValues → Option ℕ → Result Header HeaderFault
with_level values None = Err BadSide
with_level values (Some n) = Ok (record { plain = values.plain; n = n; maxval = values.maxval })

-- the header of these values, or the first of the three tests that fails
abbrev pub judged : HeaderValues → Result Header HeaderFault
judged values =
    if values.maxval == 0 || nat_lt GREATEST_MAXVAL values.maxval then Err BadMaxval
    else if not (values.width == values.height) then Err NotSquare
    else with_level values (side_level values.width)

-- what is answered for bytes: they are a part of a header; a whole one with what follows it; or refused
pub data HeaderAnswer : Type 0 where
  Part : HeaderAnswer
  Whole : (header : Header) (rest : List ℕ) → HeaderAnswer
  Bad : (fault : HeaderFault) → HeaderAnswer
