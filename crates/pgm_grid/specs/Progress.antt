-- What a reader of files has come to, and what it answers: the header's answer, and behind an accepted
-- header the raster's. The laws of `Laws` say in the format's own words what these answers are.
--
-- Words: Progress, header_fault, raster_fault, grid_with, grid_answer, samples_at, file_answer, resume, grid_of, taken,
-- StaysRefused, StandsFor, EndsHeaderOf, EndsHeader.
use Rattle.std.specs.Prelude.{◌≡◌, ℕ, ◌+◌, ◌-◌, ◌<◌, List, ◌++◌, length, Result, Ok, Err}
use Rattle.pgm_grid.specs.declared.header_reader.TheConstants.{MOST_HEADER_BYTES}
use Rattle.mesh_defs.specs.HeightField.{HeightField}
use Rattle.pgm_grid.specs.declared.accepted_header.Header.{Header}
use Rattle.pgm_grid.specs.declared.header_fault.HeaderFault.{HeaderFault}
use Rattle.pgm_grid.specs.declared.header_fault.HeaderFault.TheVariants as header
use Rattle.pgm_grid.specs.AcceptedHeader.{HeaderAnswer, Part, Whole, Bad}
use Rattle.pgm_grid.specs.HeaderReading as reading
use Rattle.pgm_grid.specs.declared.raster_fault.RasterFault.{RasterFault}
use Rattle.pgm_grid.specs.declared.raster_fault.RasterFault.TheVariants as raster
use Rattle.pgm_grid.specs.RasterProgress as samples
use Rattle.pgm_grid.specs.declared.fault.PgmFault.{PgmFault}
use Rattle.pgm_grid.specs.declared.fault.PgmFault.TheVariants.{BadMagic, BadHeader, HeaderTooLong, BadMaxval, NotSquare}
use Rattle.pgm_grid.specs.declared.fault.PgmFault.TheVariants.{BadSide, Truncated, BadSample, AboveMaxval, Trailing}
use Rattle.pgm_grid.specs.declared.fault.PgmFault.TheVariants.{TooLong}
use Rattle.pgm_grid.specs.PgmText.{point_count, form_of, HasHeader}

-- what a reader has come to: a part of a header; an accepted header and a part of its raster; or a refusal
pub data Progress : Type 0 where
  InHeader : (reader : reading.HeaderProgress) → Progress
  InRaster : (header : Header) (reader : samples.RasterProgress) → Progress
  HasRefused : (fault : PgmFault) → Progress

-- a refusal of the header is one of the file
abbrev pub header_fault : HeaderFault → PgmFault
header_fault header.BadMagic = BadMagic
header_fault (header.BadHeader at) = BadHeader at
header_fault header.HeaderTooLong = HeaderTooLong
header_fault header.BadMaxval = BadMaxval
header_fault header.NotSquare = NotSquare
header_fault header.BadSide = BadSide

-- a refusal of the raster is one of the file
abbrev pub raster_fault : RasterFault → PgmFault
raster_fault (raster.BadSample at) = BadSample at
raster_fault (raster.AboveMaxval index) = AboveMaxval index
raster_fault (raster.Trailing at) = Trailing at
raster_fault raster.Truncated = Truncated
raster_fault raster.TooLong = TooLong

-- the grid of a header and its heights
abbrev pub grid_with : Header → List ℕ → HeightField
grid_with h heights = record { n = h.n; maxval = h.maxval; heights = heights }

-- the answer of the raster behind a header
abbrev pub grid_answer : Header → samples.RasterAnswer → Result HeightField PgmFault
grid_answer h (Ok heights) = Ok (grid_with h heights)
grid_answer h (Err fault) = Err (raster_fault fault)

-- the samples of these bytes, from a place of the file on, behind this header
abbrev pub samples_at : Header → ℕ → List ℕ → samples.RasterAnswer
samples_at h at bytes = samples.raster_of (form_of h.plain h.maxval) (point_count h.n) h.maxval at bytes

-- the answer for a file of so many bytes whose header is answered so: a raster begins where what follows
-- the header does
abbrev pub file_answer : ℕ → HeaderAnswer → Result HeightField PgmFault
file_answer total Part = Err Truncated
file_answer total (Whole h rest) = grid_answer h (samples_at h (total - length rest) rest)
file_answer total (Bad fault) = Err (header_fault fault)

-- what a reader answers if exactly these bytes still come
unfoldable pub resume : Progress → List ℕ → Result HeightField PgmFault
resume (InHeader reader) more =
    file_answer (reading.header_taken reader + length more) (reading.resume_header reader more)
resume (InRaster h reader) more = grid_answer h (samples.resume_raster reader more)
resume (HasRefused fault) more = Err fault

-- the grid of which the bytes are a file text, or the refusal of the bytes
unfoldable pub grid_of : List ℕ → Result HeightField PgmFault
grid_of bytes = file_answer (length bytes) (reading.header_of bytes)

-- how many bytes a reader has taken that has refused none
unfoldable pub taken : Progress → ℕ
taken (InHeader reader) = reading.header_taken reader
taken (InRaster h reader) = samples.next_place reader
taken (HasRefused fault) = 0

-- whatever still comes, the answer is this refusal
unfoldable pub StaysRefused : Progress → PgmFault → Type 0
StaysRefused reader fault = (more : List ℕ) → resume reader more ≡ Err fault

-- these bytes have brought a reader so far: it answers what they and the bytes that still come mean
abbrev pub StandsFor : Progress → List ℕ → Type 0
StandsFor reader bytes = (more : List ℕ) → resume reader more ≡ grid_of (bytes ++ more)

-- behind these bytes, among which its end is not, the piece ends the text of an accepted header
pub record EndsHeaderOf (before piece : List ℕ) : Type 0 where
  pub header : Header
  pub at : ℕ
  pub rest : List ℕ
  pub has : HasHeader (before ++ piece) header at rest
  pub later : length before < at

-- the reader was still in its header, of which fewer than `MOST_HEADER_BYTES` had come, and the piece ends it
pub record EndsHeader (reader : Progress) (piece : List ℕ) : Type 0 where
  pub early : taken reader < MOST_HEADER_BYTES
  pub ends : (before : List ℕ) → StandsFor reader before → EndsHeaderOf before piece
