-- What an answer for a whole file tells of its header and its raster.
use Rattle.std.proofs.Common.{◌≡◌, ◌≢◌, ℕ, ◌+◌, ◌-◌, ◌<◌, ◌≤◌, ◌⊎◌, ◌↔◌, Bool, true, false, nat_lt, if◌then◌else◌, List}
use Rattle.std.proofs.Common.{length, take, Result, Ok, Err, IfErr, refl, sym, ap, ◌∙◌, inl, inr, subst, arith}
use Rattle.std.proofs.Common.{length-append}
use Rattle.text_laws.proofs.WordLemmas.{length-flat}
use Rattle.text_laws.proofs.AnswerLemmas.{err-same, ok-err}
use Rattle.text_laws.proofs.ListLemmas.{All-back}
use Rattle.mesh_defs.specs.HeightField.{HeightField, IsHeightField}
use Rattle.pgm_grid.specs.declared.accepted_header.Header.{Header}
use Rattle.pgm_grid.specs.declared.header_fault.HeaderFault.{HeaderFault}
use Rattle.pgm_grid.specs.AcceptedHeader.{IsHeader, Accepts, HeaderAnswer, Part, Whole, Bad}
use Rattle.pgm_grid.specs.HeaderReading as reading
use Rattle.pgm_grid.specs.HeaderLaws as head
use Rattle.pgm_grid.specs.declared.raster_fault.RasterFault.{RasterFault}
use Rattle.pgm_grid.specs.declared.raster_fault.RasterFault.TheVariants as raster
use Rattle.pgm_grid.specs.declared.raster_form.RasterForm.{RasterForm}
use Rattle.pgm_grid.specs.declared.raster_form.RasterForm.TheVariants as form
use Rattle.pgm_grid.specs.RasterText.{IsRaster, IsRasterCutShort, IsTrailingAt, IsBadSampleAt}
use Rattle.pgm_grid.specs.RasterLaws as laws
use Rattle.pgm_grid.specs.RasterProgress as samples
use Rattle.pgm_grid.specs.declared.fault.PgmFault.{PgmFault}
use Rattle.pgm_grid.specs.declared.fault.PgmFault.TheVariants.{Truncated, NoMemory}
use Rattle.pgm_grid.specs.PgmText.{point_count, form_of, most_file_bytes, IsFileText, HasHeader}
use Rattle.pgm_grid.specs.Progress.{header_fault, raster_fault, grid_with, grid_answer, samples_at, file_answer}
use Rattle.pgm_grid.specs.Progress.{grid_of}
use Rattle.pgm_grid.specs.Laws.{AreBytes, TextsAreRead, GridsHaveTexts, GridsHaveHeaders, CutTextsAreRefused}
use Rattle.pgm_grid.specs.Laws.{TrailingBytesAreRefused, GreatSamplesAreRefused, BadSamplesAreRefused}
use Rattle.pgm_grid.specs.Laws.{LongFilesAreRefused, OthersAreAbsent}
use Rattle.pgm_grid.proofs.GridLemmas.{file_points_small}
use Rattle.pgm_grid.proofs.FaultLemmas.{apart, no_header-memory, header-truncated, same_header, no_raster-memory}
use Rattle.pgm_grid.proofs.FaultLemmas.{same_raster}
use Rattle.pgm_grid.proofs.ReaderLemmas.{raster-refused}

-- Answers.

-- a refusal of the header
pub file-header : (total : ℕ) (answer : HeaderAnswer) (fault : HeaderFault) →
    file_answer total answer ≡ Err (header_fault fault) → answer ≡ Bad fault
file-header total Part fault e = absurd (header-truncated fault (sym (err-same _ _ e)))
file-header total (Whole h rest) fault e =
    let found = raster-refused h (samples_at h (total - length rest) rest) (header_fault fault) e in
    absurd (apart fault found.0 (sym found.2))
file-header total (Bad other) fault e = ap Bad (same_header other fault (err-same _ _ e))

-- a refusal of the raster
pub file-raster : (total : ℕ) (answer : HeaderAnswer) (fault : RasterFault) → (raster_fault fault ≡ Truncated → ⊥)
    → file_answer total answer ≡ Err (raster_fault fault)
    → (h : Header) × (rest : List ℕ) × (answer ≡ Whole h rest) × (samples_at h (total - length rest) rest ≡ Err fault)
file-raster total Part fault other e = absurd (other (sym (err-same _ _ e)))
file-raster total (Whole h rest) fault other e =
    let found = raster-refused h (samples_at h (total - length rest) rest) (raster_fault fault) e in
    (h, rest, refl, found.1 ∙ ap Err (same_raster found.0 fault found.2))
file-raster total (Bad fault') fault other e = absurd (apart fault' fault (err-same _ _ e))

-- the file ends too early
pub file-truncated : (total : ℕ) (answer : HeaderAnswer) → file_answer total answer ≡ Err Truncated
    → (answer ≡ Part) ⊎ ((h : Header) × (rest : List ℕ) × (answer ≡ Whole h rest)
    × (samples_at h (total - length rest) rest ≡ Err raster.Truncated))
file-truncated total Part e = inl refl
file-truncated total (Whole h rest) e =
    let found = raster-refused h (samples_at h (total - length rest) rest) Truncated e in
    inr (h, rest, refl, found.1 ∙ ap Err (same_raster found.0 raster.Truncated found.2))
file-truncated total (Bad fault) e = absurd (header-truncated fault (err-same _ _ e))

answer-ok : (h : Header) (answer : samples.RasterAnswer) (g : HeightField) → grid_answer h answer ≡ Ok g →
    (answer ≡ Ok g.heights) × (g ≡ grid_with h g.heights)
answer-ok h (Ok heights) g e = (
  ap Ok (ap (λ (f : HeightField). f.heights) (ok-same _ _ e)),
  sym (ok-same _ _ e) ∙ ap (grid_with h) (ap (λ (f : HeightField). f.heights) (ok-same _ _ e)),
)
  where
    ok-same : (one other : HeightField) → ◌≡◌ {A = Result HeightField PgmFault} (Ok one) (Ok other) → one ≡ other
    ok-same one other same = cc
answer-ok h (Err fault) g e = absurd (ok-err g (raster_fault fault) (sym e))

-- a grid
pub file-ok : (total : ℕ) (answer : HeaderAnswer) (g : HeightField) → file_answer total answer ≡ Ok g
    → (h : Header) × (rest : List ℕ) × (answer ≡ Whole h rest)
    × (samples_at h (total - length rest) rest ≡ Ok g.heights) × (g ≡ grid_with h g.heights)
file-ok total Part g e = absurd (ok-err g Truncated (sym e))
file-ok total (Whole h rest) g e =
    (let found = answer-ok h (samples_at h (total - length rest) rest) g e in (h, rest, refl, found.0, found.1))
file-ok total (Bad fault) g e = absurd (ok-err g (header_fault fault) (sym e))

-- whatever the header's answer is, the file's is not that it is out of memory
pub file-memory : (total : ℕ) (answer : HeaderAnswer) → file_answer total answer ≡ Err NoMemory → ⊥
file-memory total Part e = cc
file-memory total (Whole h rest) e =
    let found = raster-refused h (samples_at h (total - length rest) rest) NoMemory e in
    no_raster-memory found.0 found.2
file-memory total (Bad fault) e = no_header-memory fault (err-same _ _ e)

-- Headers of files.

module _ (bytes : List ℕ) (h : Header) where
  -- behind the header of a file there are bytes
  pub has-bytes : (at : ℕ) (rest : List ℕ) → HasHeader bytes h at rest → AreBytes bytes → AreBytes rest
  has-bytes at rest has all =
      let P : List ℕ → Type 0 = λ b. AreBytes b in All-back (λ b. b < 256) has.text rest (subst P has.cut all)

  -- the header and what follows are the file
  pub has-length : (at : ℕ) (rest : List ℕ) → HasHeader bytes h at rest → at + length rest ≡ length bytes
  has-length at rest has =
      let sum : length bytes ≡ length has.text + length rest = ap length has.cut ∙ length-append has.text rest in
      omega (arith, sum, has.place)

  -- the header of a file is read, and what it leaves begins where the header ends
  pub has-whole : head.HeaderTextsAreRead → (at : ℕ) (rest : List ℕ) → HasHeader bytes h at rest
      → (reading.header_of bytes ≡ Whole h rest) × (length bytes - length rest ≡ at)
  has-whole texts at rest has = (
    ap reading.header_of has.cut ∙ texts has.text rest has.values h has.is_text has.short has.accepts,
    omega (arith, has-length at rest has),
  )

  -- a header that is read is the header of the file, and what it leaves is what follows
  pub whole-has : head.ReadTextsAreHeaders → (rest : List ℕ) → reading.header_of bytes ≡ Whole h rest →
      HasHeader bytes h (length bytes - length rest) rest
  whole-has read rest e =
      let found = read bytes rest h e in
      record {
        text = found.0;
        values = found.1;
        is_text = found.2;
        short = found.3;
        accepts = found.4;
        cut = found.5;
        place = (let sum : length bytes ≡ length found.0 + length rest =
            ap length found.5 ∙ length-append found.0 rest in omega (arith, sum));
      }

-- the same words of a file and of its header
pub header-law : (bytes : List ℕ) (fault : HeaderFault) (Q : Type 0) → (reading.header_of bytes ≡ Bad fault) ↔ Q →
    (grid_of bytes ≡ Err (header_fault fault)) ↔ Q
unfolding grid_of
header-law bytes fault Q law = (
  λ e. law.0 (file-header (length bytes) (reading.header_of bytes) fault e),
  λ q. ap (file_answer (length bytes)) (law.1 q),
)

module _ (texts : head.HeaderTextsAreRead) (read : head.ReadTextsAreHeaders) (bytes : List ℕ) where
  -- the same words of a file and of its raster
  pub raster-law : (fault : RasterFault) (Q : Header → ℕ → List ℕ → Type 0) → (raster_fault fault ≡ Truncated → ⊥)
      → ((h : Header) (at : ℕ) (rest : List ℕ) → HasHeader bytes h at rest →
      (samples_at h at rest ≡ Err fault) ↔ Q h at rest)
      → (grid_of bytes ≡ Err (raster_fault fault))
      ↔ ((h : Header) × (at : ℕ) × (rest : List ℕ) × HasHeader bytes h at rest × Q h at rest)
  unfolding grid_of
  raster-law fault Q other law = (
    λ e.
        let found = file-raster (length bytes) (reading.header_of bytes) fault other e in
        let has = whole-has bytes found.0 read found.1 found.2 in (
          found.0,
          length bytes - length found.1,
          found.1,
          has,
          (law found.0 (length bytes - length found.1) found.1 has).0 found.3,
        ),
    λ x.
        let whole = has-whole bytes x.0 texts x.1 x.2 x.3 in
        ap (file_answer (length bytes)) whole.0 ∙ ap (λ k. grid_answer x.0 (samples_at x.0 k x.2)) whole.1
        ∙ ap (grid_answer x.0) ((law x.0 x.1 x.2 x.3).1 x.4),
  )

  -- the file ends too early, in its header or in its raster
  pub truncated-law : (Part' : Type 0) (Q : Header → ℕ → List ℕ → Type 0) → (reading.header_of bytes ≡ Part) ↔ Part'
      → ((h : Header) (at : ℕ) (rest : List ℕ) → HasHeader bytes h at rest →
      (samples_at h at rest ≡ Err raster.Truncated) ↔ Q h at rest)
      → (grid_of bytes ≡ Err Truncated)
      ↔ (Part' ⊎ ((h : Header) × (at : ℕ) × (rest : List ℕ) × HasHeader bytes h at rest × Q h at rest))
  unfolding grid_of
  truncated-law Part' Q part law = (
    λ e. elim (file-truncated (length bytes) (reading.header_of bytes) e) [
      | inl p ↦ inl (part.0 p)
      | inr found ↦
          let has = whole-has bytes found.0 read found.1 found.2 in
          inr (
            found.0,
            length bytes - length found.1,
            found.1,
            has,
            (law found.0 (length bytes - length found.1) found.1 has).0 found.3,
          )
    ],
    λ either. elim either [
      | inl p ↦ ap (file_answer (length bytes)) (part.1 p)
      | inr x ↦
          let whole = has-whole bytes x.0 texts x.1 x.2 x.3 in
          ap (file_answer (length bytes)) whole.0 ∙ ap (λ k. grid_answer x.0 (samples_at x.0 k x.2)) whole.1
          ∙ ap (grid_answer x.0) ((law x.0 x.1 x.2 x.3).1 x.4)
    ],
  )

-- The form of a raster.

plain-form : (plain : Bool) (maxval : ℕ) → (form_of plain maxval ≡ form.Plain) ↔ (plain ≡ true)
plain-form true maxval = (λ e. refl, λ e. refl)
plain-form false maxval = (λ e. absurd (raw-form (nat_lt maxval 256) e), λ e. absurd cc)
  where
    raw-form : (small : Bool) → (if small then form.Bytes else form.Words) ≡ form.Plain → ⊥
    raw-form true e = cc
    raw-form false e = cc

-- a raster that is read is not too long
raster-short : laws.ReadRastersAreShort → (h : Header) (at : ℕ) (heights rest : List ℕ) → IsHeader h → at ≤ 65536 →
    length heights ≡ point_count h.n
    → IsRaster (form_of h.plain h.maxval) heights rest →
    samples_at h at rest ≡ Ok heights → at + length rest ≤ most_file_bytes
unfolding samples.raster_of
raster-short short h at heights rest valid near many is e = by-form (form_of h.plain h.maxval) is e
  where
    few : length heights ≤ 4198401
    few = omega (arith, many, file_points_small h.n valid.level.high)

    by-form : (f : RasterForm) → IsRaster f heights rest →
        samples.raster_of f (point_count h.n) h.maxval at rest ≡ Ok heights → at + length rest ≤ most_file_bytes
    by-form form.Bytes is e = (let same = ap length is in omega (arith, same, few, near))
    by-form form.Words is e = (let same = ap length is ∙ length-flat heights in omega (arith, same, few, near))
    by-form form.Plain is e = omega (arith, short (point_count h.n) h.maxval at heights rest e (omega (arith, near)))

-- The laws.

-- a file text of a grid is read as that grid
pub law-texts : head.HeaderTextsAreRead → laws.RastersAreRead → TextsAreRead
unfolding grid_of
law-texts texts rasters g bytes valid is =
    let h : Header = record { plain = is.values.plain; n = g.n; maxval = g.maxval } in
    let accepts : Accepts is.values h = record {
      valid = record {
        level = record { low = valid.n_low; high = is.level };
        maxval = record { low = valid.maxval_low; high = valid.maxval_high };
      };
      plain = refl;
      maxval = sym is.maxval;
      width = is.width;
      height = is.height;
    } in
    let has : HasHeader bytes h (length is.header) is.raster =
    record {
      text = is.header;
      values = is.values;
      is_text = is.is_header;
      short = is.short_header;
      accepts = accepts;
      cut = is.text;
      place = refl;
    } in
    let whole = has-whole bytes h texts (length is.header) is.raster has in
    ap (file_answer (length bytes)) whole.0 ∙ ap (λ k. grid_answer h (samples_at h k is.raster)) whole.1
    ∙ ap (grid_answer h)
    (rasters (form_of is.values.plain g.maxval) (point_count g.n) g.maxval (length is.header) g.heights is.raster
    (omega (arith, has-length bytes h (length is.header) is.raster has, is.short)) is.is_raster
    valid.count valid.bounded)

-- bytes that are read as a grid are a file text of it
pub law-grids : head.ReadTextsAreHeaders → laws.ReadBytesAreRasters → laws.ReadRastersAreShort → GridsHaveTexts
unfolding grid_of
law-grids read rasters short g bytes all e =
    let found = file-ok (length bytes) (reading.header_of bytes) g e in
    let h : Header = found.0 in
    let rest : List ℕ = found.1 in
    let has = whole-has bytes h read rest found.2 in
    let raster = rasters (form_of h.plain h.maxval) (point_count h.n) h.maxval
    (length bytes - length rest) g.heights rest (has-bytes bytes h _ rest has all) found.3 in
    let near : length bytes - length rest ≤ 65536 = omega (arith, has.place, has.short) in
    let within = raster-short short h
    (length bytes - length rest) g.heights rest has.accepts.valid near raster.1 raster.0 found.3 in
    let P : HeightField → Type 0 = λ f. IsHeightField f × IsFileText f bytes in
    subst P (sym found.4) (
      record {
        n_low = has.accepts.valid.level.low;
        n_high = omega (arith, has.accepts.valid.level.high);
        maxval_low = has.accepts.valid.maxval.low;
        maxval_high = has.accepts.valid.maxval.high;
        count = raster.1;
        bounded = raster.2;
      },
      record {
        level = has.accepts.valid.level.high;
        header = has.text;
        raster = rest;
        values = has.values;
        is_header = has.is_text;
        short_header = has.short;
        width = has.accepts.width;
        height = has.accepts.height;
        maxval = sym has.accepts.maxval;
        is_raster = subst (λ plain. IsRaster (form_of plain h.maxval) g.heights rest) has.accepts.plain raster.0;
        text = has.cut;
        short = omega (arith, within, has-length bytes h _ rest has);
      },
    )

-- bytes that are read as a grid begin with an accepted header, which has its level and its maxval
pub law-headers : head.ReadTextsAreHeaders → GridsHaveHeaders
unfolding grid_of
law-headers read g bytes e =
    let found = file-ok (length bytes) (reading.header_of bytes) g e in (
      found.0,
      length bytes - length found.1,
      found.1,
      whole-has bytes found.0 read found.1 found.2,
      sym (ap (λ (f : HeightField). f.n) found.4),
      sym (ap (λ (f : HeightField). f.maxval) found.4),
    )

-- no bytes of a file are refused as out of memory
pub law-others : OthersAreAbsent
unfolding grid_of
law-others bytes = no-memory (grid_of bytes) (file-memory (length bytes) (reading.header_of bytes))
  where
    no-memory : (answer : Result HeightField PgmFault) → (answer ≡ Err NoMemory → ⊥) →
        IfErr answer (λ fault. fault ≢ NoMemory)
    no-memory (Ok g) other = tt
    no-memory (Err fault) other = λ is. other (ap Err is)

module _ (texts : head.HeaderTextsAreRead) (read : head.ReadTextsAreHeaders) where
  -- an accepted header ends before the limit
  raster-place : (bytes : List ℕ) (h : Header) (at : ℕ) (rest : List ℕ) → HasHeader bytes h at rest → at ≤ 268435456
  raster-place bytes h at rest has = omega (arith, has.place, has.short)

  -- a file is truncated exactly where its bytes end before its header does, or before its samples do
  pub law-truncated : head.PartsArePrefixes → laws.CutRastersAreRefused → CutTextsAreRefused
  law-truncated parts cut bytes all = truncated-law texts read bytes _
      (λ h at rest. IsRasterCutShort (form_of h.plain h.maxval) (point_count h.n) h.maxval rest
      × laws.IsBelowLimit (form_of h.plain h.maxval) (at + length rest)) (parts bytes)
      (λ h at rest has. cut (form_of h.plain h.maxval) (point_count h.n) h.maxval at rest
      (raster-place bytes h at rest has) (has-bytes bytes h at rest has all))

  -- a trailing byte is answered exactly at the place of the first that may not stand behind the last sample
  pub law-trailing : laws.RastersRefuseTrailingBytes → TrailingBytesAreRefused
  law-trailing law bytes p all = raster-law texts read bytes (raster.Trailing p)
      (λ h at rest. (place : ℕ) × (p ≡ at + place) × IsTrailingAt (form_of h.plain h.maxval)
      (point_count h.n) h.maxval rest place × laws.IsBelowLimit (form_of h.plain h.maxval) (p + 1)) (λ e. cc)
      (λ h at rest has. law (form_of h.plain h.maxval) (point_count h.n) h.maxval at rest p
      (raster-place bytes h at rest has) (has-bytes bytes h at rest has all))

  -- a sample above maxval is answered exactly at the index of the first that is
  pub law-above : laws.RastersRefuseGreatSamples → GreatSamplesAreRefused
  law-above law bytes index all = raster-law texts read bytes (raster.AboveMaxval index)
      (λ h at rest. laws.IsAboveWithin (form_of h.plain h.maxval) (point_count h.n) h.maxval at rest index) (λ e. cc)
      (λ h at rest has. law (form_of h.plain h.maxval) (point_count h.n) h.maxval at rest index
      (raster-place bytes h at rest has) (has-bytes bytes h at rest has all))

  -- a bad sample is answered exactly at the place of the byte that continues none, in plain rasters alone
  pub law-bad_sample : laws.RastersRefuseBadSamples → BadSamplesAreRefused
  law-bad_sample law bytes p all = raster-law texts read bytes (raster.BadSample p)
      (λ h at rest. (h.plain ≡ true) × (place : ℕ) × (p ≡ at + place)
      × IsBadSampleAt (point_count h.n) h.maxval rest place × (p < most_file_bytes)) (λ e. cc)
      (λ h at rest has.
      let there = law (form_of h.plain h.maxval) (point_count h.n) h.maxval at rest p (raster-place bytes h at rest has)
      (has-bytes bytes h at rest has all) in (
        λ e. (let x = there.0 e in ((plain-form h.plain h.maxval).0 x.0, x.1, x.2, x.3, x.4)),
        λ x. there.1 ((plain-form h.plain h.maxval).1 x.0, x.1, x.2, x.3, x.4),
      ))

  -- a file is too long exactly where it is plain, goes beyond the limit, and none of its bytes before it is refused
  pub law-too_long : laws.LongRastersAreRefused → LongFilesAreRefused
  law-too_long law bytes = raster-law texts read bytes raster.TooLong
      (λ h at rest. (h.plain ≡ true) × (most_file_bytes < length bytes)
      × laws.NoneIsRefused (point_count h.n) h.maxval at (take (most_file_bytes - at) rest)) (λ e. cc)
      (λ h at rest has.
      let sum = has-length bytes h at rest has in
      let there =
      law (form_of h.plain h.maxval) (point_count h.n) h.maxval at rest (omega (arith, has.place, has.short)) in (
        λ e. (let x = there.0 e in ((plain-form h.plain h.maxval).0 x.0, omega (arith, x.1, sum), x.2)),
        λ x. there.1 ((plain-form h.plain h.maxval).1 x.0, omega (arith, x.1, sum), x.2),
      ))
