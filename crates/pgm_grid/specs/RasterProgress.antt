-- What further bytes of a raster mean, read byte by byte: the samples, or the first refusal. The laws of
-- `Laws` say in the format's own words what these answers are.
--
-- Words: most_bytes, RasterAnswer, after, sample_then, samples_then, end_at, bytes_from, words_from, no_digits,
-- with_digit, ended_then, plain_from, rest_of, reads, nothing_of, raster_of, RasterProgress, resume_raster, next_place,
-- refusal_of, RasterStaysRefused.
use Rattle.std.specs.Prelude.{◌≡◌, ℕ, ◌+◌, ◌-◌, ◌*◌, ◌&&◌, cond, List, [], ◌∷◌, ◌++◌, length, Option, Some, None}
use Rattle.std.specs.Prelude.{Result, Ok, Err, nat_eq, nat_lt}
use Rattle.std.specs.Char.{is_ascii_digit}
use Rattle.pgm_grid.specs.declared.raster_plain.TheConstants.{MOST_BYTES}
use Rattle.text_laws.specs.Blanks.{is_white}
use Rattle.pgm_grid.specs.declared.raster_fault.RasterFault.{RasterFault}
use Rattle.pgm_grid.specs.declared.raster_fault.RasterFault.TheVariants.{BadSample, AboveMaxval, Trailing, Truncated}
use Rattle.pgm_grid.specs.declared.raster_fault.RasterFault.TheVariants.{TooLong}
use Rattle.pgm_grid.specs.declared.raster_form.RasterForm.{RasterForm}
use Rattle.pgm_grid.specs.declared.raster_form.RasterForm.TheVariants as form
use Rattle.pgm_grid.specs.declared.raster_part.Limits.{Limits}
use Rattle.pgm_grid.specs.declared.raster_part.Digits.{Digits}
use Rattle.pgm_grid.specs.declared.raster_part.Part.{Part}
use Rattle.pgm_grid.specs.declared.raster_part.Part.TheVariants as part

-- a file has at most so many bytes, 2 ^ 28: a limit of this project's own
abbrev pub most_bytes : ℕ
most_bytes = MOST_BYTES

-- the samples that bytes are, or why they are refused
abbrev pub RasterAnswer : Type 0
RasterAnswer = Result (List ℕ) RasterFault

-- these samples came before
abbrev pub after : List ℕ → RasterAnswer → RasterAnswer
after samples (Ok rest) = Ok (samples ++ rest)
after samples (Err fault) = Err fault

-- a sample has come, as number `index` from 0, and then the rest
abbrev pub sample_then : Limits → ℕ → ℕ → RasterAnswer → RasterAnswer
sample_then l index sample rest = cond (nat_lt l.maxval sample) (Err (AboveMaxval index)) (after (sample ∷ []) rest)

-- the file ends behind so many samples
abbrev pub end_at : Limits → ℕ → RasterAnswer
end_at l index = cond (nat_lt index l.count) (Err Truncated) (Ok [])

-- samples have come, the first as number `index`, and then the rest
abbrev pub samples_then : Limits → ℕ → List ℕ → RasterAnswer → RasterAnswer
samples_then l index [] rest = rest
samples_then l index (sample ∷ samples) rest = sample_then l index sample (samples_then l (index + 1) samples rest)

-- Raw, one byte a sample: the bytes from place `at` on, behind so many samples.
abbrev pub bytes_from : Limits → ℕ → ℕ → List ℕ → RasterAnswer
bytes_from l index at [] = end_at l index
bytes_from l index at (byte ∷ more) =
    cond (nat_lt index l.count) (sample_then l index byte (bytes_from l (index + 1) (at + 1) more)) (Err (Trailing at))

-- Raw, two bytes a sample: the same, where `high` is the first byte of a sample that is not whole.
abbrev pub words_from : Limits → ℕ → Option ℕ → ℕ → List ℕ → RasterAnswer
words_from l index high at [] = end_at l index
words_from l index None at (byte ∷ more) =
    cond (nat_lt index l.count) (words_from l index (Some byte) (at + 1) more) (Err (Trailing at))
words_from l index (Some high) at (byte ∷ more) =
    sample_then l index (256 * high + byte) (words_from l (index + 1) None (at + 1) more)

-- no digit of a sample has come
abbrev pub no_digits : Digits
no_digits = record { count = 0; value = 0 }

-- one more digit has come
abbrev pub with_digit : Digits → ℕ → Digits
with_digit digits byte = record { count = digits.count + 1; value = 10 * digits.value + (byte - 48) }

-- the digits, if there are any, are ended: what comes of the rest behind so many samples
abbrev pub ended_then : Limits → ℕ → Digits → (ℕ → RasterAnswer) → RasterAnswer
ended_then l index digits rest =
    cond (nat_eq digits.count 0) (rest index) (sample_then l index digits.value (rest (index + 1)))

-- Plain: the same, where `digits` are those of a sample that is not ended. The bytes of a raw raster end
-- long before the most that a file has, those of a plain one need not.
abbrev pub plain_from : Limits → ℕ → Digits → ℕ → List ℕ → RasterAnswer
plain_from l index digits at [] = ended_then l index digits (λ i. end_at l i)
plain_from l index digits at (byte ∷ more) =
    cond (nat_eq at most_bytes) (Err TooLong)
    (cond (is_white byte) (ended_then l index digits (λ i. plain_from l i no_digits (at + 1) more))
    (cond (nat_lt index l.count)
    (cond (is_ascii_digit byte && nat_lt digits.count 9)
    (plain_from l index (with_digit digits byte) (at + 1) more) (Err (BadSample at)))
    (Err (Trailing at))))

-- the bytes from place `at` on, behind so many samples and a part of the next
abbrev pub rest_of : Limits → ℕ → Part → ℕ → List ℕ → RasterAnswer
rest_of l index part.Bytes at more = bytes_from l index at more
rest_of l index (part.Words high) at more = words_from l index high at more
rest_of l index (part.Plain digits) at more = plain_from l index digits at more

-- the answer for these samples, a part of the next, and the bytes that still come
abbrev pub reads : Limits → List ℕ → Part → ℕ → List ℕ → RasterAnswer
reads l samples part at more = after samples (rest_of l (length samples) part at more)

-- no part of a sample has come
abbrev pub nothing_of : RasterForm → Part
nothing_of form.Bytes = part.Bytes
nothing_of form.Words = part.Words None
nothing_of form.Plain = part.Plain no_digits

-- the samples of which the bytes are a raster, from place `at` of the file on, or the refusal of the bytes
unfoldable pub raster_of : RasterForm → (count maxval at : ℕ) → List ℕ → RasterAnswer
raster_of form count maxval at bytes = rest_of (record { count = count; maxval = maxval }) 0 (nothing_of form) at bytes

-- what a reader has come to: samples, a part of the next and the place of the next byte, or a refusal
pub data RasterProgress : Type 0 where
  ReadingSamples : (limits : Limits) (samples : List ℕ) (part : Part) (at : ℕ) → RasterProgress
  HasRefused : (fault : RasterFault) → RasterProgress

-- what a reader answers if exactly these bytes still come
unfoldable pub resume_raster : RasterProgress → List ℕ → RasterAnswer
resume_raster (ReadingSamples l samples part at) more = reads l samples part at more
resume_raster (HasRefused fault) more = Err fault

-- the place of the next byte in the file, of a reader that has refused none
unfoldable pub next_place : RasterProgress → ℕ
next_place (ReadingSamples l samples part at) = at
next_place (HasRefused fault) = 0

-- what a reader has refused
unfoldable pub refusal_of : RasterProgress → Option RasterFault
refusal_of (ReadingSamples l samples part at) = None
refusal_of (HasRefused fault) = Some fault

-- whatever still comes, the answer is this refusal
unfoldable pub RasterStaysRefused : RasterProgress → RasterFault → Type 0
RasterStaysRefused reader fault = (more : List ℕ) → resume_raster reader more ≡ Err fault
