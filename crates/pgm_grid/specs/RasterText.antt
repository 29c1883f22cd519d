-- The raster of a PGM file: what stands behind its header. The forms are those of the Netpbm manual,
-- "pgm": raw (`P5`) with one or two bytes a sample, and plain (`P2`) with decimal texts.
--
-- Words: IsSampleText, IsTextOfSample, AreEndedTexts, AreEnded, HasOpenEnd, IsRaster; IsSampleCut, IsRasterCutShort,
-- IsStray, IsTrailingAt, EndsThere, IsAboveAt, IsBadSampleAt, IsRasterOpen.
use Rattle.std.specs.Prelude.{◌≡◌, ℕ, ◌+◌, ◌<◌, ◌≤◌, ⊤, ◌⊎◌, List, [], ◌∷◌, ◌++◌, length, All}
use Rattle.std.specs.List.{flat_map}
use Rattle.text_laws.specs.Digits.{IsDigit, value_of}
use Rattle.text_laws.specs.Blanks.{IsWhite}
use Rattle.text_laws.specs.Words.{two_bytes}
use Rattle.pgm_grid.specs.declared.raster_form.RasterForm.{RasterForm}
use Rattle.pgm_grid.specs.declared.raster_form.RasterForm.TheVariants as form

-- the text is 1 to 9 digits, which are this sample; zeros may lead
pub record IsSampleText (text : List ℕ) (sample : ℕ) : Type 0 where
  pub some : 1 ≤ length text
  pub short : length text ≤ 9
  pub digits : All IsDigit text
  pub value : value_of text ≡ sample

-- the text of one sample
abbrev pub IsTextOfSample : RasterForm → List ℕ → ℕ → Type 0
IsTextOfSample form.Bytes text sample = text ≡ sample ∷ []
IsTextOfSample form.Words text sample = text ≡ two_bytes sample
IsTextOfSample form.Plain text sample = IsSampleText text sample

-- the texts of samples, a whitespace byte behind each, and any whitespace before and behind
abbrev pub AreEndedTexts : List ℕ → List ℕ → Type 0
AreEndedTexts [] bytes = All IsWhite bytes
AreEndedTexts (sample ∷ samples) bytes =
    (gap : List ℕ) × (text : List ℕ) × (space : ℕ) × (rest : List ℕ) × (bytes ≡ gap ++ (text ++ space ∷ rest))
    × All IsWhite gap × IsSampleText text sample × IsWhite space × AreEndedTexts samples rest

-- the bytes are these samples, each of them ended
abbrev pub AreEnded : RasterForm → List ℕ → List ℕ → Type 0
AreEnded form.Bytes samples bytes = bytes ≡ samples
AreEnded form.Words samples bytes = bytes ≡ flat_map two_bytes samples
AreEnded form.Plain samples bytes = AreEndedTexts samples bytes

-- the text of the last sample stands at the end of the file, with no whitespace behind it
abbrev pub HasOpenEnd : List ℕ → List ℕ → Type 0
HasOpenEnd samples bytes =
    (before : List ℕ) × (last : ℕ) × (front : List ℕ) × (text : List ℕ) × (samples ≡ before ++ last ∷ [])
    × (bytes ≡ front ++ text)
    × AreEndedTexts before front × IsSampleText text last

-- the bytes are a raster of these samples: in the plain form whitespace may stand behind the last or not
abbrev pub IsRaster : RasterForm → List ℕ → List ℕ → Type 0
IsRaster form.Bytes samples bytes = AreEnded form.Bytes samples bytes
IsRaster form.Words samples bytes = AreEnded form.Words samples bytes
IsRaster form.Plain samples bytes = AreEndedTexts samples bytes ⊎ HasOpenEnd samples bytes

-- ---- rasters that are refused: so many samples are wanted, none above maxval

-- a sample has begun that is not whole: the first of its two bytes has come, or nothing
abbrev pub IsSampleCut : RasterForm → List ℕ → Type 0
IsSampleCut form.Bytes cut = cut ≡ []
IsSampleCut form.Words cut = length cut ≤ 1
IsSampleCut form.Plain cut = cut ≡ []

-- the bytes are a raster of fewer samples, and a sample that is not whole
pub record IsRasterCutShort (form : RasterForm) (count maxval : ℕ) (bytes : List ℕ) : Type 0 where
  pub samples : List ℕ
  pub text : List ℕ
  pub cut : List ℕ
  pub whole : bytes ≡ text ++ cut
  pub raster : IsRaster form samples text
  pub part : IsSampleCut form cut
  pub bound : All (λ h. h ≤ maxval) samples
  pub fewer : length samples < count

-- the byte is none that may stand behind the last sample
abbrev pub IsStray : RasterForm → ℕ → Type 0
IsStray form.Bytes byte = ⊤
IsStray form.Words byte = ⊤
IsStray form.Plain byte = IsWhite byte → ⊥

-- behind all samples, each of them ended, a byte stands at this place that may not stand there
pub record IsTrailingAt (form : RasterForm) (count maxval : ℕ) (bytes : List ℕ) (place : ℕ) : Type 0 where
  pub samples : List ℕ
  pub front : List ℕ
  pub byte : ℕ
  pub more : List ℕ
  pub whole : bytes ≡ front ++ byte ∷ more
  pub at : place ≡ length front
  pub ended : AreEnded form samples front
  pub stray : IsStray form byte
  pub bound : All (λ h. h ≤ maxval) samples
  pub all : length samples ≡ count

-- the text of a sample ends there: in the plain form at whitespace, or at the end of the file
abbrev pub EndsThere : RasterForm → List ℕ → Type 0
EndsThere form.Bytes more = ⊤
EndsThere form.Words more = ⊤
EndsThere form.Plain [] = ⊤
EndsThere form.Plain (byte ∷ more) = IsWhite byte

-- behind so many samples stands the text of one that is above maxval
pub record IsAboveAt (form : RasterForm) (count maxval : ℕ) (bytes : List ℕ) (index : ℕ) : Type 0 where
  pub samples : List ℕ
  pub front : List ℕ
  pub sample : ℕ
  pub text : List ℕ
  pub more : List ℕ
  pub whole : bytes ≡ front ++ (text ++ more)
  pub at : index ≡ length samples
  pub ended : AreEnded form samples front
  pub next : IsTextOfSample form text sample
  pub ends : EndsThere form more
  pub bound : All (λ h. h ≤ maxval) samples
  pub above : maxval < sample
  pub wanted : length samples < count

-- behind fewer samples and some digits a byte stands at this place that is no whitespace, and no digit or the tenth
pub record IsBadSampleAt (count maxval : ℕ) (bytes : List ℕ) (place : ℕ) : Type 0 where
  pub samples : List ℕ
  pub front : List ℕ
  pub digits : List ℕ
  pub byte : ℕ
  pub more : List ℕ
  pub whole : bytes ≡ front ++ (digits ++ byte ∷ more)
  pub at : place ≡ length front + length digits
  pub ended : AreEndedTexts samples front
  pub short : length digits ≤ 9
  pub are : All IsDigit digits
  pub no_space : IsWhite byte → ⊥
  pub bad : (IsDigit byte → ⊥) ⊎ (length digits ≡ 9)
  pub bound : All (λ h. h ≤ maxval) samples
  pub wanted : length samples < count

-- ---- plain rasters none of whose bytes is refused

-- the bytes are samples, each of them ended, and up to nine digits of one that is still wanted
pub record IsRasterOpen (count maxval : ℕ) (bytes : List ℕ) : Type 0 where
  pub samples : List ℕ
  pub front : List ℕ
  pub digits : List ℕ
  pub whole : bytes ≡ front ++ digits
  pub ended : AreEndedTexts samples front
  pub short : length digits ≤ 9
  pub are : All IsDigit digits
  pub bound : All (λ h. h ≤ maxval) samples
  pub room : length samples ≤ count
  pub wanted : 0 < length digits → length samples < count
