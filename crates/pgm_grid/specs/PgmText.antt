-- The text of a grid in a file: a header, then a raster. Source: Netpbm manual, "pgm"; the sides, where
-- comments may stand and the limits of length are this project's own.
--
-- Words: point_count, form_of, most_file_bytes, IsFileText, HasHeader, HasWholeHeader.
use Rattle.std.specs.Prelude.{◌≡◌, ℕ, ◌*◌, ◌≤◌, Bool, true, false, nat_lt, if◌then◌else◌, List, ◌++◌, length}
use Rattle.pgm_grid.specs.declared.header_reader.TheConstants.{MOST_HEADER_BYTES}
use Rattle.mesh_defs.specs.HeightField.{HeightField, side_of}
use Rattle.mesh_defs.specs.declared.level.TheConstants.{GREATEST_FILE_LEVEL}
use Rattle.pgm_grid.specs.declared.header_machine.HeaderValues.{HeaderValues}
use Rattle.pgm_grid.specs.declared.accepted_header.Header.{Header}
use Rattle.pgm_grid.specs.HeaderText.{IsHeaderText}
use Rattle.pgm_grid.specs.AcceptedHeader.{Accepts}
use Rattle.pgm_grid.specs.declared.raster_form.RasterForm.{RasterForm}
use Rattle.pgm_grid.specs.declared.raster_form.RasterForm.TheVariants as form
use Rattle.pgm_grid.specs.RasterProgress as raster
use Rattle.pgm_grid.specs.RasterText.{IsRaster}

-- the number of points of a grid with this n
abbrev pub point_count : ℕ → ℕ
point_count n = side_of n * side_of n

-- the form of the raster: plain; or raw, with one byte a sample where the maxval is below 256, else two
abbrev pub form_of : Bool → ℕ → RasterForm
form_of true maxval = form.Plain
form_of false maxval = if nat_lt maxval 256 then form.Bytes else form.Words

-- the greatest number of bytes of a file, 2 ^ 28
abbrev pub most_file_bytes : ℕ
most_file_bytes = raster.most_bytes

-- The bytes are a file text of the grid, which has one of the sides of a file: a header of at most `MOST_HEADER_BYTES` with
-- its side and its maxval, and a raster of its heights; and they are not too many.
pub record IsFileText (g : HeightField) (bytes : List ℕ) : Type 0 where
  pub level : g.n ≤ GREATEST_FILE_LEVEL
  pub header : List ℕ
  pub raster : List ℕ
  pub values : HeaderValues
  pub is_header : IsHeaderText header values
  pub short_header : length header ≤ MOST_HEADER_BYTES
  pub width : values.width ≡ side_of g.n
  pub height : values.height ≡ side_of g.n
  pub maxval : values.maxval ≡ g.maxval
  pub is_raster : IsRaster (form_of values.plain g.maxval) g.heights raster
  pub text : bytes ≡ header ++ raster
  pub short : length bytes ≤ most_file_bytes

-- the bytes begin with the text of an accepted header, behind which, from place `at` on, this is left
pub record HasHeader (bytes : List ℕ) (header : Header) (at : ℕ) (rest : List ℕ) : Type 0 where
  pub text : List ℕ
  pub values : HeaderValues
  pub is_text : IsHeaderText text values
  pub short : length text ≤ MOST_HEADER_BYTES
  pub accepts : Accepts values header
  pub cut : bytes ≡ text ++ rest
  pub place : at ≡ length text

-- the bytes begin with the text of an accepted header
abbrev pub HasWholeHeader : List ℕ → Type 0
HasWholeHeader bytes = (header : Header) × (at : ℕ) × (rest : List ℕ) × HasHeader bytes header at rest
