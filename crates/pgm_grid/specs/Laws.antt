-- What the whole bytes of a file mean, in the words of the format. Places are counted from 0. A file of
-- any length is refused by the first byte that is wrong; in plain files a byte at place 2 ^ 28 is wrong itself.
-- Words: AreBytes, and a law a word.
use Rattle.std.specs.Prelude.{◌≡◌, ◌≢◌, ◌↔◌, ◌⊎◌, ℕ, ◌+◌, ◌-◌, ◌<◌, ◌≤◌, true, List, length, take, All, Ok, Err, IfErr}
use Rattle.pgm_grid.specs.declared.header_reader.TheConstants.{MOST_HEADER_BYTES}
use Rattle.mesh_defs.specs.HeightField.{HeightField, IsHeightField, side_of}
use Rattle.pgm_grid.specs.declared.accepted_header.Header.{Header}
use Rattle.pgm_grid.specs.declared.header_machine.HeaderValues.{HeaderValues}
use Rattle.pgm_grid.specs.HeaderText.{IsProperPrefix, IsUnfitAt, BeginsWithHeader}
use Rattle.pgm_grid.specs.AcceptedHeader.{IsLevel, IsMaxval}
use Rattle.pgm_grid.specs.RasterText.{IsRasterCutShort, IsTrailingAt, IsBadSampleAt}
use Rattle.pgm_grid.specs.RasterLaws.{IsBelowLimit, IsAboveWithin, NoneIsRefused}
use Rattle.pgm_grid.specs.declared.fault.PgmFault.TheVariants.{BadMagic, BadHeader, HeaderTooLong, BadMaxval, NotSquare}
use Rattle.pgm_grid.specs.declared.fault.PgmFault.TheVariants.{BadSide, Truncated, BadSample, AboveMaxval, Trailing}
use Rattle.pgm_grid.specs.declared.fault.PgmFault.TheVariants.{NoMemory, TooLong}
use Rattle.pgm_grid.specs.PgmText.{point_count, form_of, most_file_bytes, IsFileText, HasHeader}
use Rattle.pgm_grid.specs.Progress.{grid_of}

-- the bytes are those of a file
abbrev pub AreBytes : List ℕ → Type 0
AreBytes bytes = All (λ b. b < 256) bytes

-- a file text of a grid is read as that grid
abbrev pub TextsAreRead : Type 0
TextsAreRead = (g : HeightField) (bytes : List ℕ) → IsHeightField g → IsFileText g bytes → grid_of bytes ≡ Ok g

-- bytes that are read as a grid are a file text of it
abbrev pub GridsHaveTexts : Type 0
GridsHaveTexts =
    (g : HeightField) (bytes : List ℕ) → AreBytes bytes → grid_of bytes ≡ Ok g → IsHeightField g × IsFileText g bytes

-- bytes that are read as a grid begin with the text of an accepted header, which has its level and its maxval
abbrev pub GridsHaveHeaders : Type 0
GridsHaveHeaders = (g : HeightField) (bytes : List ℕ) → grid_of bytes ≡ Ok g
    → (header : Header) × (at : ℕ) × (rest : List ℕ) × HasHeader bytes header at rest × (header.n ≡ g.n)
    × (header.maxval ≡ g.maxval)

-- BadMagic exactly where the first or the second byte continues no header
abbrev pub BadMagicsAreRefused : Type 0
BadMagicsAreRefused =
    (bytes : List ℕ) → (grid_of bytes ≡ Err BadMagic) ↔ ((place : ℕ) × (place < 2) × IsUnfitAt bytes place)

-- a bad header exactly at the place of the byte that continues none
abbrev pub BadHeadersAreRefused : Type 0
BadHeadersAreRefused =
    (bytes : List ℕ) (place : ℕ) →
    (grid_of bytes ≡ Err (BadHeader place)) ↔ ((2 ≤ place) × (place < MOST_HEADER_BYTES) × IsUnfitAt bytes place)

-- a header is too long exactly where 65,536 bytes are a part of one
abbrev pub LongHeadersAreRefused : Type 0
LongHeadersAreRefused =
    (bytes : List ℕ) → (grid_of bytes ≡ Err HeaderTooLong)
    ↔ ((MOST_HEADER_BYTES ≤ length bytes) × IsProperPrefix (take MOST_HEADER_BYTES bytes))

-- a bad maxval exactly where a whole header has one
abbrev pub BadMaxvalsAreRefused : Type 0
BadMaxvalsAreRefused =
    (bytes : List ℕ) → (grid_of bytes ≡ Err BadMaxval)
    ↔ ((values : HeaderValues) × BeginsWithHeader bytes values × (IsMaxval values.maxval → ⊥))

-- else not square exactly where its width and height differ
abbrev pub OblongsAreRefused : Type 0
OblongsAreRefused = (bytes : List ℕ) → (grid_of bytes ≡ Err NotSquare)
    ↔ ((values : HeaderValues) × BeginsWithHeader bytes values × IsMaxval values.maxval
    × (values.width ≢ values.height))

-- else a bad side exactly where the side is none of the eleven
abbrev pub BadSidesAreRefused : Type 0
BadSidesAreRefused = (bytes : List ℕ) → (grid_of bytes ≡ Err BadSide)
    ↔ ((values : HeaderValues) × BeginsWithHeader bytes values × IsMaxval values.maxval × (values.width ≡ values.height)
    × ((n : ℕ) → IsLevel n → values.width ≢ side_of n))

-- truncated exactly where the bytes end before their header does, or before their samples do
abbrev pub CutTextsAreRefused : Type 0
CutTextsAreRefused = (bytes : List ℕ) → AreBytes bytes → (grid_of bytes ≡ Err Truncated)
    ↔ ((IsProperPrefix bytes × (length bytes < MOST_HEADER_BYTES))
    ⊎ ((header : Header) × (at : ℕ) × (rest : List ℕ) × HasHeader bytes header at rest
    × (IsRasterCutShort (form_of header.plain header.maxval) (point_count header.n) header.maxval rest
    × IsBelowLimit (form_of header.plain header.maxval) (at + length rest))))

-- a trailing byte exactly at the place of the first that may not stand behind the last sample
abbrev pub TrailingBytesAreRefused : Type 0
TrailingBytesAreRefused = (bytes : List ℕ) (p : ℕ) → AreBytes bytes → (grid_of bytes ≡ Err (Trailing p))
    ↔ ((header : Header) × (at : ℕ) × (rest : List ℕ) × HasHeader bytes header at rest
    × ((place : ℕ) × (p ≡ at + place)
    × IsTrailingAt (form_of header.plain header.maxval) (point_count header.n) header.maxval rest place
    × IsBelowLimit (form_of header.plain header.maxval) (p + 1)))

-- above maxval exactly at the index of the first sample that is
abbrev pub GreatSamplesAreRefused : Type 0
GreatSamplesAreRefused = (bytes : List ℕ) (index : ℕ) → AreBytes bytes → (grid_of bytes ≡ Err (AboveMaxval index))
    ↔ ((header : Header) × (at : ℕ) × (rest : List ℕ) × HasHeader bytes header at rest
    × IsAboveWithin (form_of header.plain header.maxval) (point_count header.n) header.maxval at rest index)

-- a bad sample exactly at the place of the byte that continues none, in plain rasters alone
abbrev pub BadSamplesAreRefused : Type 0
BadSamplesAreRefused = (bytes : List ℕ) (p : ℕ) → AreBytes bytes → (grid_of bytes ≡ Err (BadSample p))
    ↔ ((header : Header) × (at : ℕ) × (rest : List ℕ) × HasHeader bytes header at rest
    × ((header.plain ≡ true) × (place : ℕ) × (p ≡ at + place)
    × IsBadSampleAt (point_count header.n) header.maxval rest place
    × (p < most_file_bytes)))

-- too long exactly where a plain file has more than 2 ^ 28 bytes, of whose first 2 ^ 28 none is refused
abbrev pub LongFilesAreRefused : Type 0
LongFilesAreRefused = (bytes : List ℕ) → (grid_of bytes ≡ Err TooLong)
    ↔ ((header : Header) × (at : ℕ) × (rest : List ℕ) × HasHeader bytes header at rest
    × ((header.plain ≡ true) × (most_file_bytes < length bytes)
    × NoneIsRefused (point_count header.n) header.maxval at (take (most_file_bytes - at) rest)))

-- no bytes of a file are out of memory
abbrev pub OthersAreAbsent : Type 0
OthersAreAbsent = (bytes : List ℕ) → IfErr (grid_of bytes) (λ fault. fault ≢ NoMemory)
