-- The fields of a reader: what they have come to, and what holds of them.
-- Words: progress_of, IsOpenHeader, IsReaderFor, HasReadGrid, IsStage, BeginsRaster, Takes, Stops.
use Rattle.std.specs.Prelude.{◌≡◌, ◌≢◌, ℕ, ◌+◌, ◌≤◌, List, [], ◌++◌, length, All, Err, IfOk, ⊤, ◌⊎◌}
use Rattle.pgm_grid.specs.declared.header_reader.TheConstants.{LAST_PLACE}
use Rattle.pgm_grid.specs.declared.raster_plain.TheConstants.{MOST_BYTES}
use Rattle.pgm_grid.specs.declared.accepted_header.Header.{Header}
use Rattle.pgm_grid.specs.declared.header_fault.HeaderFault.{HeaderFault}
use Rattle.pgm_grid.specs.AcceptedHeader.{IsHeader, Part, Bad}
use Rattle.pgm_grid.specs.HeaderReading as reading
use Rattle.pgm_grid.specs.declared.raster_fault.RasterFault.{RasterFault}
use Rattle.pgm_grid.specs.RasterProgress as samples
use Rattle.pgm_grid.specs.declared.fault.PgmFault.{PgmFault}
use Rattle.pgm_grid.specs.declared.fault.PgmFault.TheVariants.{NoMemory}
use Rattle.pgm_grid.specs.declared.stage.Stage.{Stage}
use Rattle.pgm_grid.specs.declared.stage.Stage.TheVariants as stage
use Rattle.pgm_grid.specs.PgmText.{point_count}
use Rattle.pgm_grid.specs.Progress.{Progress, InHeader, InRaster, HasRefused, samples_at, grid_answer, resume, taken}
use Rattle.pgm_grid.specs.Progress.{StaysRefused, EndsHeader}

-- what a stage has come to
abbrev pub progress_of : Stage → Progress
progress_of (stage.InHeader reader) = InHeader reader
progress_of (stage.InRaster header reader) = InRaster header reader
progress_of (stage.Stopped fault) = HasRefused fault

-- a header goes on: it is no whole one, and some bytes would be refused
pub record IsOpenHeader (reader : reading.HeaderProgress) : Type 0 where
  pub part : reading.resume_header reader [] ≡ Part
  pub small : reading.header_taken reader ≤ LAST_PLACE
  pub refusable : (more : List ℕ) × (fault : HeaderFault) × (reading.resume_header reader more ≡ Bad fault)

-- the reader reads the heights that this header wants
pub record IsReaderFor (header : Header) (reader : samples.RasterProgress) : Type 0 where
  pub valid : IsHeader header
  pub wanted : (more : List ℕ) → IfOk (samples.resume_raster reader more)
      (λ heights. (length heights ≡ point_count header.n) × All (λ h. h ≤ header.maxval) heights)
  pub small : samples.next_place reader ≤ MOST_BYTES

-- and it has refused no byte
pub record HasReadGrid (header : Header) (reader : samples.RasterProgress) : Type 0 where
  pub behind : IsReaderFor header reader
  pub unsettled : (fault : RasterFault) → samples.RasterStaysRefused reader fault → ⊥

-- the fields of a stage agree
abbrev pub IsStage : Stage → Type 0
IsStage (stage.InHeader reader) = IsOpenHeader reader
IsStage (stage.InRaster header reader) = HasReadGrid header reader
IsStage (stage.Stopped fault) = ⊤

-- the first bytes of a raster, from a place on, have come to this behind a header
pub record BeginsRaster (header : Header) (at : ℕ) (rest : List ℕ) (new : Progress) : Type 0 where
  pub means : (more : List ℕ) → grid_answer header (samples_at header at (rest ++ more)) ≡ resume new more
  pub unsettled : (fault : PgmFault) → StaysRefused new fault → ⊥
  pub count : taken new ≡ at + length rest
  pub limit : taken new ≤ MOST_BYTES

-- the piece was taken: what still comes is answered as before, and the bytes are counted
pub record Takes (old new : Progress) (piece : List ℕ) : Type 0 where
  pub means : (more : List ℕ) → resume old (piece ++ more) ≡ resume new more
  pub unsettled : (fault : PgmFault) → StaysRefused new fault → ⊥
  pub count : taken new ≡ taken old + length piece
  pub limit : taken new ≤ MOST_BYTES

-- the piece was refused, or there was no room where it ended the header
pub record Stops (old : Progress) (piece : List ℕ) (fault : PgmFault) : Type 0 where
  pub refusal : fault ≢ NoMemory → (more : List ℕ) → resume old (piece ++ more) ≡ Err fault
  pub no_memory : fault ≡ NoMemory → StaysRefused old NoMemory ⊎ EndsHeader old piece
  pub sticks : (before : PgmFault) → StaysRefused old before → before ≡ fault
