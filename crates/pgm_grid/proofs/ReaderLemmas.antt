-- What a reader answers: the header's answer, and behind it the raster's.
use Rattle.std.proofs.Common.{◌≡◌, ℕ, ◌+◌, ◌-◌, ◌^◌, ◌<◌, ◌≤◌, List, [], ◌∷◌, ◌++◌, length, take, get_or, All, Ok, Err}
use Rattle.std.proofs.Common.{IfOk, refl, sym, ap, ◌∙◌, inl, subst, arith, length-append, append_assoc}
use Rattle.std.proofs.lemmas.Result.{IfOk-at_ok}
use Rattle.std.proofs.lemmas.List.{take_more}
use Rattle.text_laws.proofs.AnswerLemmas.{err-same, ok-err}
use Rattle.mesh_defs.specs.HeightField.{IsHeightField}
use Rattle.pgm_grid.specs.declared.accepted_header.Header.{Header}
use Rattle.pgm_grid.specs.declared.header_fault.HeaderFault.{HeaderFault}
use Rattle.pgm_grid.specs.AcceptedHeader.{IsHeader, Whole, Bad}
use Rattle.pgm_grid.specs.HeaderReading as reading
use Rattle.pgm_grid.specs.declared.raster_fault.RasterFault.{RasterFault}
use Rattle.pgm_grid.specs.declared.raster_form.RasterForm.{RasterForm}
use Rattle.pgm_grid.specs.RasterLaws.{OnlyWantedSamplesAreRead}
use Rattle.pgm_grid.specs.RasterProgress as samples
use Rattle.pgm_grid.specs.declared.fault.PgmFault.{PgmFault}
use Rattle.pgm_grid.specs.declared.fault.PgmFault.TheVariants.{Truncated, NoMemory}
use Rattle.pgm_grid.specs.PgmText.{point_count, form_of}
use Rattle.pgm_grid.specs.Progress.{Progress, InHeader, InRaster, HasRefused, header_fault, raster_fault, grid_with}
use Rattle.pgm_grid.specs.Progress.{grid_answer, samples_at, file_answer, resume, grid_of, taken, StaysRefused}
use Rattle.pgm_grid.specs.Stage.{IsOpenHeader, IsReaderFor, HasReadGrid, BeginsRaster, Takes, Stops}
use Rattle.pgm_grid.proofs.FaultLemmas.{no_header-memory, header-truncated, same_raster}

-- Settled readers.

-- a reader that has refused a byte keeps to its refusal
pub refused-settled : (fault : PgmFault) → StaysRefused (HasRefused fault) fault
unfolding StaysRefused resume
refused-settled fault = λ more. refl

-- a reader keeps to one refusal at most
pub settled-same : (reader : Progress) (one other : PgmFault) → StaysRefused reader one →
    StaysRefused reader other → one ≡ other
unfolding StaysRefused
settled-same reader one other h k = err-same one other (sym (h []) ∙ k [])

-- a header that goes on is not settled
pub unsettled-header : (reader : reading.HeaderProgress) (fault : PgmFault) → IsOpenHeader reader →
    StaysRefused (InHeader reader) fault → ⊥
unfolding StaysRefused resume
unsettled-header reader fault free settled =
    let last = ap (file_answer (reading.header_taken reader + 0)) (sym free.part) ∙ settled [] in
    let bad = ap (file_answer (reading.header_taken reader + length free.refusable.0)) (sym free.refusable.2)
    ∙ settled free.refusable.0 in
    header-truncated free.refusable.1 (err-same _ _ (bad ∙ sym last))

-- an answer of the raster that is a refusal
pub raster-refused : (header : Header) (answer : samples.RasterAnswer) (fault : PgmFault) →
    grid_answer header answer ≡ Err fault
    → (found : RasterFault) × (answer ≡ Err found) × (raster_fault found ≡ fault)
raster-refused header (Ok heights) fault e = absurd (ok-err (grid_with header heights) fault e)
raster-refused header (Err found) fault e = (found, refl, err-same (raster_fault found) fault e)

-- a raster that is not settled is none with its header
pub unsettled-raster : (header : Header) (reader : samples.RasterProgress) (fault : PgmFault) →
    ((f : RasterFault) → samples.RasterStaysRefused reader f → ⊥)
    → StaysRefused (InRaster header reader) fault → ⊥
unfolding StaysRefused resume samples.RasterStaysRefused
unsettled-raster header reader fault free settled =
    let first = raster-refused header (samples.resume_raster reader []) fault (settled []) in
    free first.0 (λ more.
    let other = raster-refused header (samples.resume_raster reader more) fault (settled more) in
    other.1 ∙ ap Err (same_raster other.0 first.0 (other.2 ∙ sym first.2)))

-- Rasters.

module _ (header : Header) (old new : samples.RasterProgress) (piece : List ℕ) where
  -- a piece of a raster was taken
  pub raster-takes : ((more : List ℕ) → samples.resume_raster old (piece ++ more) ≡ samples.resume_raster new more)
      → ((fault : RasterFault) → samples.RasterStaysRefused new fault → ⊥)
      → samples.next_place new ≡ samples.next_place old + length piece → samples.next_place new ≤ 2 ^ 28
      → Takes (InRaster header old) (InRaster header new) piece
  unfolding resume taken
  raster-takes means free count limit = record {
    means = λ more. ap (grid_answer header) (means more);
    unsettled = λ fault settled. unsettled-raster header new fault free settled;
    count = count;
    limit = limit;
  }

  -- a piece of a raster was read, behind what was read before
  pub raster-read : IsReaderFor header old
      → ((more : List ℕ) → samples.resume_raster old (piece ++ more) ≡ samples.resume_raster new more)
      → ((fault : RasterFault) → samples.RasterStaysRefused new fault → ⊥) → samples.next_place new ≤ 2 ^ 28
      → HasReadGrid header new
  raster-read before means free limit = record {
    behind = record {
      valid = before.valid;
      wanted = λ more. subst (λ (answer : samples.RasterAnswer).
          IfOk answer (λ heights. (length heights ≡ point_count header.n) × All (λ h. h ≤ header.maxval) heights))
          (means more) (before.wanted (piece ++ more));
      small = limit;
    };
    unsettled = free;
  }

-- a piece of a raster was refused
pub raster-refusal : (header : Header) (old : samples.RasterProgress) (piece : List ℕ) (fault : RasterFault)
    → ((more : List ℕ) → samples.resume_raster old (piece ++ more) ≡ Err fault)
    → (more : List ℕ) → resume (InRaster header old) (piece ++ more) ≡ Err (raster_fault fault)
unfolding resume
raster-refusal header old piece fault refusal more = ap (grid_answer header) (refusal more)

-- a piece of a raster that had refused nothing was refused
pub raster-stops : (header : Header) (old : samples.RasterProgress) (piece : List ℕ) (fault : PgmFault)
    → HasReadGrid header old → (fault ≡ NoMemory → ⊥)
    → ((more : List ℕ) → resume (InRaster header old) (piece ++ more) ≡ Err fault)
    → Stops (InRaster header old) piece fault
raster-stops header old piece fault read other refusal = record {
  refusal = λ _ more. refusal more;
  no_memory = λ e. absurd (other e);
  sticks = λ before settled. absurd (unsettled-raster header old before read.unsettled settled);
}

-- Headers.

-- so many bytes of a piece were taken by the reader of a header
pub record HasTaken (start reader : reading.HeaderProgress) (piece : List ℕ) (count : ℕ) : Type 0 where
  pub means : (more : List ℕ) →
      reading.resume_header start (take count piece ++ more) ≡ reading.resume_header reader more
  pub counted : reading.header_taken reader ≡ reading.header_taken start + count
  pub goes_on : IsOpenHeader reader

module _ (start reader : reading.HeaderProgress) (piece : List ℕ) (begun : IsOpenHeader start) where
  -- the whole piece was taken
  pub header-takes : HasTaken start reader piece (length piece) → take (length piece) piece ≡ piece
      → Takes (InHeader start) (InHeader reader) piece
  unfolding resume taken
  header-takes so_far whole = record {
    means = λ more.
        let total : reading.header_taken start + length (piece ++ more) ≡ reading.header_taken reader + length more =
        omega (arith, length-append piece more, so_far.counted) in
        let answer : reading.resume_header start (piece ++ more) ≡ reading.resume_header reader more =
        rw whole at so_far.means more in
        ap (λ n. file_answer n (reading.resume_header start (piece ++ more))) total
        ∙ ap (file_answer (reading.header_taken reader + length more)) answer;
    unsettled = λ fault settled. unsettled-header reader fault so_far.goes_on settled;
    count = so_far.counted;
    limit = omega (arith, so_far.goes_on.small);
  }

  module _ (count : ℕ) (byte : ℕ) (rest : List ℕ) (so_far : HasTaken start reader piece count)
      (cut : piece ≡ take count piece ++ (byte ∷ rest)) where
    -- the piece, from the byte on
    from-byte : (more : List ℕ) →
        reading.resume_header start (piece ++ more) ≡ reading.resume_header reader (byte ∷ (rest ++ more))
    from-byte more =
        ap (λ p. reading.resume_header start (p ++ more)) cut
        ∙ ap (reading.resume_header start) (append_assoc (take count piece) (byte ∷ rest) more)
        ∙ so_far.means (byte ∷ (rest ++ more))

    -- the byte was refused
    pub header-stops : (fault : HeaderFault) →
        ((more : List ℕ) → reading.resume_header reader (byte ∷ more) ≡ Bad fault)
        → Stops (InHeader start) piece (header_fault fault)
    unfolding resume
    header-stops fault refusal = record {
      refusal = λ other more. ap (file_answer (reading.header_taken start + length (piece ++ more)))
          (from-byte more ∙ refusal (rest ++ more));
      no_memory = λ e. absurd (no_header-memory fault e);
      sticks = λ before settled. absurd (unsettled-header start before begun settled);
    }

    module _ (header : Header) (ends : (more : List ℕ) → reading.resume_header reader (byte ∷ more) ≡ Whole header more)
        (at : ℕ) (place : at ≡ reading.header_taken reader + 1) (size : length (take count piece) ≡ count) where
      -- what follows the header is its raster
      pub whole-answer : (more : List ℕ) →
          resume (InHeader start) (piece ++ more) ≡ grid_answer header (samples_at header at (rest ++ more))
      unfolding resume
      whole-answer more =
          let total = length (piece ++ more) in
          let sum : length (piece ++ more) ≡ count + 1 + length (rest ++ more) =
          ap (λ p. length (p ++ more)) cut ∙ omega (
            arith,
            size,
            length-append (take count piece ++ (byte ∷ rest)) more,
            length-append (take count piece) (byte ∷ rest),
            length-append rest more,
          ) in
          let here : reading.header_taken start + length (piece ++ more) - length (rest ++ more) ≡ at =
          omega (arith, sum, place, so_far.counted) in
          ap (file_answer (reading.header_taken start + length (piece ++ more))) (from-byte more ∙ ends (rest ++ more))
          ∙ ap (λ k. grid_answer header (samples_at header k (rest ++ more))) here

      -- the byte ended the header, and what follows was taken
      pub header-ends : (new : Progress) → BeginsRaster header at rest new → Takes (InHeader start) new piece
      unfolding taken
      header-ends new begins = record {
        means = λ more. whole-answer more ∙ begins.means more;
        unsettled = begins.unsettled;
        count = (let sum : length piece ≡ count + 1 + length rest =
            ap length cut ∙ omega (arith, size, length-append (take count piece) (byte ∷ rest)) in
            begins.count ∙ omega (arith, sum, place, so_far.counted));
        limit = begins.limit;
      }

-- A reader that is new.

-- a reader of headers that has taken no byte and may still refuse one is in a header that goes on
pub new-header : (reader : reading.HeaderProgress) →
    ((more : List ℕ) → reading.resume_header reader more ≡ reading.header_of more) → reading.header_taken reader ≡ 0
    → ((more : List ℕ) × (fault : HeaderFault) × (reading.resume_header reader more ≡ Bad fault)) → IsOpenHeader reader
unfolding reading.header_of
new-header reader means none refusable = record { part = means []; small = omega (arith, none); refusable = refusable }

-- a reader that has taken no byte answers what the bytes mean as a file
pub new-resume : (reader : reading.HeaderProgress) →
    ((more : List ℕ) → reading.resume_header reader more ≡ reading.header_of more) → reading.header_taken reader ≡ 0
    → (more : List ℕ) → resume (InHeader reader) more ≡ grid_of more
unfolding resume grid_of
new-resume reader means none more =
    let total : reading.header_taken reader + length more ≡ length more = omega (arith, none) in
    ap (λ n. file_answer n (reading.resume_header reader more)) total ∙ ap (file_answer (length more)) (means more)

-- a reader whose header has taken no byte has taken none
pub new-taken : (reader : reading.HeaderProgress) → reading.header_taken reader ≡ 0 → taken (InHeader reader) ≡ 0
unfolding taken
new-taken reader none = none

-- The raster behind a header.

-- the first bytes of a raster were taken
pub begins-raster : (header : Header) (at : ℕ) (reader : samples.RasterProgress) (rest : List ℕ) (new : Progress)
    → ((more : List ℕ) → samples.resume_raster reader more ≡ samples_at header at more) → samples.next_place reader ≡ at
    → Takes (InRaster header reader) new rest → BeginsRaster header at rest new
unfolding resume taken
begins-raster header at reader rest new means place takes = record {
  means = λ more. ap (grid_answer header) (sym (means (rest ++ more))) ∙ takes.means more;
  unsettled = takes.unsettled;
  count = takes.count ∙ ap (λ k. k + length rest) place;
  limit = takes.limit;
}

-- they are refused
pub begins-refused : (header : Header) (at : ℕ) (reader : samples.RasterProgress) (rest : List ℕ) (fault : PgmFault)
    → ((more : List ℕ) → samples.resume_raster reader more ≡ samples_at header at more)
    → ((more : List ℕ) → resume (InRaster header reader) (rest ++ more) ≡ Err fault)
    → (more : List ℕ) → grid_answer header (samples_at header at (rest ++ more)) ≡ Err fault
unfolding resume
begins-refused header at reader rest fault means refusal more =
    ap (grid_answer header) (sym (means (rest ++ more))) ∙ refusal more

-- The end of a file.

-- a file that ends in its header is truncated
pub end-header : (reader : reading.HeaderProgress) → IsOpenHeader reader → resume (InHeader reader) [] ≡ Err Truncated
unfolding resume
end-header reader free = ap (file_answer (reading.header_taken reader + 0)) free.part

-- a reader that has refused a byte answers its refusal at the end of the file
pub end-refused : (fault : PgmFault) → resume (HasRefused fault) [] ≡ Err fault
unfolding resume
end-refused fault = refl

-- a file that ends in its raster is answered as the raster is, behind its header
pub end-raster : (header : Header) (reader : samples.RasterProgress) (answer : samples.RasterAnswer) →
    samples.resume_raster reader [] ≡ answer
    → resume (InRaster header reader) [] ≡ grid_answer header answer
unfolding resume
end-raster header reader answer e = ap (grid_answer header) e

-- Answers of calls.

-- a reader of the raster that the header wants
pub begun-means : (header : Header) (form : RasterForm) (count at : ℕ) (reader : samples.RasterProgress)
    → form ≡ form_of header.plain header.maxval → count ≡ point_count header.n
    → ((more : List ℕ) → samples.resume_raster reader more ≡ samples.raster_of form count header.maxval at more)
    → (more : List ℕ) → samples.resume_raster reader more ≡ samples_at header at more
begun-means header form count at reader is many means more =
    means more ∙ ap (λ f. samples.raster_of f count header.maxval at more) is
    ∙ ap (λ k. samples.raster_of (form_of header.plain header.maxval) k header.maxval at more) many

-- a reader that has refused refuses all
pub stopped-stops : (fault : PgmFault) (piece : List ℕ) → Stops (HasRefused fault) piece fault
unfolding StaysRefused resume
stopped-stops fault piece = record {
  refusal = λ other more. refl;
  no_memory = λ e. inl (λ more. ap Err e);
  sticks = λ before settled. err-same before fault (sym (settled []));
}

-- what is settled stays so
pub settled-takes : (old new : Progress) (piece : List ℕ) (fault : PgmFault) → Takes old new piece →
    StaysRefused old fault → ⊥
unfolding StaysRefused
settled-takes old new piece fault takes settled =
    takes.unsettled fault (λ more. sym (takes.means more) ∙ settled (piece ++ more))
