-- What the bytes of a raster mean, in the words of the format. Places are counted from the file's
-- beginning, and the raster begins at place `at`. A file has at most 2 ^ 28 bytes.
use Rattle.std.specs.Prelude.{◌≡◌, ◌↔◌, ℕ, ◌+◌, ◌-◌, ◌<◌, ◌≤◌, ⊤, List, [], ◌∷◌, ◌++◌, length, take, All, Ok, Err, IfOk}
use Rattle.pgm_grid.specs.declared.raster_fault.RasterFault.{RasterFault}
use Rattle.pgm_grid.specs.declared.raster_fault.RasterFault.TheVariants.{BadSample, AboveMaxval, Trailing, Truncated}
use Rattle.pgm_grid.specs.declared.raster_fault.RasterFault.TheVariants.{TooLong}
use Rattle.pgm_grid.specs.declared.raster_form.RasterForm.{RasterForm}
use Rattle.pgm_grid.specs.declared.raster_form.RasterForm.TheVariants.{Bytes, Words, Plain}
use Rattle.pgm_grid.specs.RasterText.{IsRaster, IsRasterCutShort, IsTrailingAt, IsAboveAt, IsBadSampleAt}
use Rattle.pgm_grid.specs.RasterText.{IsRasterOpen}
use Rattle.pgm_grid.specs.RasterProgress.{most_bytes, raster_of}

-- a raster of so many samples, none above maxval, is read as its samples
abbrev pub RastersAreRead : Type 0
RastersAreRead =
    (form : RasterForm) (count maxval at : ℕ) (samples bytes : List ℕ) → at + length bytes ≤ most_bytes →
    IsRaster form samples bytes → length samples ≡ count → All (λ h. h ≤ maxval) samples →
    raster_of form count maxval at bytes ≡ Ok samples

-- bytes that are read are a raster of what is read: so many samples, none above maxval
abbrev pub ReadBytesAreRasters : Type 0
ReadBytesAreRasters =
    (form : RasterForm) (count maxval at : ℕ) (samples bytes : List ℕ) → All (λ b. b < 256) bytes →
    raster_of form count maxval at bytes ≡ Ok samples →
    IsRaster form samples bytes × (length samples ≡ count) × All (λ h. h ≤ maxval) samples

-- what is read are so many samples, none above maxval, whatever the bytes are
abbrev pub OnlyWantedSamplesAreRead : Type 0
OnlyWantedSamplesAreRead =
    (form : RasterForm) (count maxval at : ℕ) (bytes : List ℕ) → IfOk (raster_of form count maxval at bytes)
    (λ samples. (length samples ≡ count) × All (λ h. h ≤ maxval) samples)

-- bytes that end at this place come to no limit: plain rasters alone have one, the most bytes of a file
abbrev pub IsBelowLimit : RasterForm → ℕ → Type 0
IsBelowLimit Bytes end = ⊤
IsBelowLimit Words end = ⊤
IsBelowLimit Plain end = end ≤ most_bytes

-- how many bytes end the text of a sample, where these follow it
abbrev pub ending : List ℕ → ℕ
ending [] = 0
ending (byte ∷ more) = 1

-- the sample of this index is above maxval, and its text ends before the limit, with the byte that ends it
pub record IsAboveWithin (form : RasterForm) (count maxval at : ℕ) (bytes : List ℕ) (index : ℕ) : Type 0 where
  pub above : IsAboveAt form count maxval bytes index
  pub within : IsBelowLimit form (at + length above.front + length above.text + ending above.more)

-- bytes are truncated exactly where they end too early, and before the limit
abbrev pub CutRastersAreRefused : Type 0
CutRastersAreRefused =
    (form : RasterForm) (count maxval at : ℕ) (bytes : List ℕ) → at ≤ most_bytes → All (λ b. b < 256) bytes →
    (raster_of form count maxval at bytes ≡ Err Truncated)
    ↔ (IsRasterCutShort form count maxval bytes × IsBelowLimit form (at + length bytes))

-- a trailing byte is answered exactly at its place, before the limit
abbrev pub RastersRefuseTrailingBytes : Type 0
RastersRefuseTrailingBytes =
    (form : RasterForm) (count maxval at : ℕ) (bytes : List ℕ) (p : ℕ) → at ≤ most_bytes → All (λ b. b < 256) bytes →
    (raster_of form count maxval at bytes ≡ Err (Trailing p))
    ↔ ((place : ℕ) × (p ≡ at + place) × IsTrailingAt form count maxval bytes place × IsBelowLimit form (p + 1))

-- a sample above maxval is answered exactly at its index, where its text ends before the limit
abbrev pub RastersRefuseGreatSamples : Type 0
RastersRefuseGreatSamples =
    (form : RasterForm) (count maxval at : ℕ) (bytes : List ℕ) (index : ℕ) → at ≤ most_bytes →
    All (λ b. b < 256) bytes →
    (raster_of form count maxval at bytes ≡ Err (AboveMaxval index)) ↔ IsAboveWithin form count maxval at bytes index

-- a byte that continues no sample is answered exactly at its place, before the limit, and in plain rasters alone
abbrev pub RastersRefuseBadSamples : Type 0
RastersRefuseBadSamples =
    (form : RasterForm) (count maxval at : ℕ) (bytes : List ℕ) (p : ℕ) → at ≤ most_bytes → All (λ b. b < 256) bytes →
    (raster_of form count maxval at bytes ≡ Err (BadSample p))
    ↔ ((form ≡ Plain) × (place : ℕ) × (p ≡ at + place) × IsBadSampleAt count maxval bytes place × (p < most_bytes))

-- a plain raster that is read ends within the most bytes of a file
abbrev pub ReadRastersAreShort : Type 0
ReadRastersAreShort =
    (count maxval at : ℕ) (samples bytes : List ℕ) →
    raster_of Plain count maxval at bytes ≡ Ok samples → at ≤ most_bytes → at + length bytes ≤ most_bytes

-- none of these bytes of a plain raster is refused: what follows them decides
abbrev pub NoneIsRefused : (count maxval at : ℕ) → List ℕ → Type 0
NoneIsRefused count maxval at front =
    (fault : RasterFault) → ((more : List ℕ) → raster_of Plain count maxval at (front ++ more) ≡ Err fault) → ⊥

-- none is refused exactly where the bytes are samples, each of them ended, and digits of one that is still wanted
abbrev pub OpenRastersAreUnrefused : Type 0
OpenRastersAreUnrefused =
    (count maxval at : ℕ) (front : List ℕ) → at + length front ≤ most_bytes →
    NoneIsRefused count maxval at front ↔ IsRasterOpen count maxval front

-- a raster is too long exactly where a byte stands behind the most that a file has, in plain rasters alone, and none
-- before it is refused
abbrev pub LongRastersAreRefused : Type 0
LongRastersAreRefused = (form : RasterForm) (count maxval at : ℕ) (bytes : List ℕ) → at ≤ most_bytes →
    (raster_of form count maxval at bytes ≡ Err TooLong) ↔ ((form ≡ Plain) × (most_bytes < at + length bytes)
    × NoneIsRefused count maxval at (take (most_bytes - at) bytes))
