-- Where a reader of files wants room: with the piece the text of an accepted header ends.
use Rattle.std.proofs.Common.{◌≡◌, ◌≢◌, ℕ, ◌+◌, ◌-◌, ◌<◌, ◌≤◌, inl, inr, List, [], ◌∷◌, ◌++◌, length, take, Err, refl}
use Rattle.std.proofs.Common.{sym, ap, ◌∙◌, arith, append-nil, append_assoc}
use Rattle.std.proofs.lemmas.Bool.{cases_lt}
use Rattle.std.proofs.Math.Seq.{take-append_seam, take-append-add}
use Rattle.text_laws.proofs.AnswerLemmas.{err-same}
use Rattle.pgm_grid.specs.declared.accepted_header.Header.{Header}
use Rattle.pgm_grid.specs.declared.header_fault.HeaderFault.{HeaderFault}
use Rattle.pgm_grid.specs.AcceptedHeader.{HeaderAnswer, Part, Whole, Bad}
use Rattle.pgm_grid.specs.HeaderReading as reading
use Rattle.pgm_grid.specs.HeaderLaws as head
use Rattle.pgm_grid.specs.RasterProgress as samples
use Rattle.pgm_grid.specs.declared.fault.PgmFault.{PgmFault}
use Rattle.pgm_grid.specs.declared.fault.PgmFault.TheVariants.{Truncated, NoMemory}
use Rattle.pgm_grid.specs.PgmText.{HasHeader}
use Rattle.pgm_grid.specs.Progress.{InHeader, header_fault, grid_answer, samples_at, file_answer, resume, grid_of}
use Rattle.pgm_grid.specs.Progress.{taken, StandsFor, EndsHeaderOf}
use Rattle.pgm_grid.specs.Stage.{IsOpenHeader, Stops}
use Rattle.pgm_grid.proofs.ReaderLemmas.{HasTaken, raster-refused, unsettled-header, whole-answer}
use Rattle.pgm_grid.proofs.FaultLemmas.{apart, header-truncated}
use Rattle.pgm_grid.proofs.FileLemmas.{whole-has}

-- a whole header is no part of one
whole_no-part : (h : Header) (rest : List ℕ) → Whole h rest ≡ Part → ⊥
whole_no-part h rest e = cc

-- bytes that are answered as a header that goes on are a part of a header
open-part : head.ReadHeadersStand → (reader : reading.HeaderProgress) (bytes : List ℕ) → IsOpenHeader reader →
    StandsFor (InHeader reader) bytes → reading.header_of bytes ≡ Part
unfolding resume grid_of
open-part stands reader bytes goes_on same = by-answer (reading.header_of bytes) refl
  where
    by-answer : (answer : HeaderAnswer) → reading.header_of bytes ≡ answer → reading.header_of bytes ≡ Part
    by-answer Part is = is
    by-answer (Whole h rest) is =
        let more : List ℕ = goes_on.refusable.0 in
        let refused : resume (InHeader reader) more ≡ Err (header_fault goes_on.refusable.1) =
        ap (file_answer (reading.header_taken reader + length more)) goes_on.refusable.2 in
        let whole : grid_of (bytes ++ more) ≡ grid_answer h
        (samples_at h (length (bytes ++ more) - length (rest ++ more)) (rest ++ more)) =
        ap (file_answer (length (bytes ++ more))) (stands bytes rest more h is) in
        let found = raster-refused h (samples_at h (length (bytes ++ more) - length (rest ++ more)) (rest ++ more))
        (header_fault goes_on.refusable.1) (sym whole ∙ sym (same more) ∙ refused) in
        absurd (apart goes_on.refusable.1 found.0 (sym found.2))
    by-answer (Bad fault) is =
        let cut : resume (InHeader reader) [] ≡ Err Truncated =
        ap (file_answer (reading.header_taken reader + 0)) goes_on.part in
        let refused : grid_of (bytes ++ []) ≡ Err (header_fault fault) =
        ap grid_of (append-nil bytes) ∙ ap (file_answer (length bytes)) is in
        absurd (header-truncated fault (err-same _ _ (sym refused ∙ sym (same []) ∙ cut)))

-- bytes behind which a raster is answered, whatever follows, have a whole header
raster-whole : head.PartsAreRefusable → (bytes : List ℕ) (header : Header) (answer : List ℕ → samples.RasterAnswer) →
    ((more : List ℕ) → grid_of (bytes ++ more) ≡ grid_answer header (answer more))
    → (h : Header) × (rest : List ℕ) × (reading.header_of bytes ≡ Whole h rest)
unfolding grid_of
raster-whole refusable bytes header answer same = by-answer (reading.header_of bytes) refl
  where
    never-refused : (more : List ℕ) (fault : HeaderFault) → reading.header_of (bytes ++ more) ≡ Bad fault → ⊥
    never-refused more fault is =
        let found = raster-refused header (answer more) (header_fault fault)
        (sym (same more) ∙ ap (file_answer (length (bytes ++ more))) is) in
        apart fault found.0 (sym found.2)

    by-answer : (a : HeaderAnswer) → reading.header_of bytes ≡ a →
        (h : Header) × (rest : List ℕ) × (reading.header_of bytes ≡ Whole h rest)
    by-answer Part is = (let found = refusable bytes is in absurd (never-refused found.0 found.1 found.2))
    by-answer (Whole h rest) is = (h, rest, is)
    by-answer (Bad fault) is = absurd (never-refused [] fault (ap reading.header_of (append-nil bytes) ∙ is))

-- a whole header ends behind bytes that are a part of one
ends-later : head.HeaderTextsAreRead → (before piece : List ℕ) (header : Header) (at : ℕ) (rest : List ℕ) →
    reading.header_of before ≡ Part → HasHeader (before ++ piece) header at rest → length before < at
ends-later texts before piece header at rest part has =
    elim (cases_lt (length before) at) as (λ _. length before < at) [
      | inl later ↦ later
      | inr sooner ↦
          let behind : List ℕ = take (length before - length has.text) rest in
          let cut : before ≡ has.text ++ behind = before-cut has.text rest has.cut (omega (arith, sooner, has.place)) in
          absurd (whole_no-part header behind (sym (ap reading.header_of cut
          ∙ texts has.text behind has.values header has.is_text has.short has.accepts) ∙ part))
    ]
  where
    before-cut : (text rest : List ℕ) → before ++ piece ≡ text ++ rest → length text ≤ length before →
        before ≡ text ++ take (length before - length text) rest
    before-cut text rest whole short = sym (take-append_seam before piece) ∙ ap (take (length before)) whole
        ∙ (let split : length before ≡ length text + (length before - length text) = omega (arith, short) in
        ap (λ (k : ℕ). take k (text ++ rest)) split) ∙ take-append-add text rest (length before - length text)

module _ (texts : head.HeaderTextsAreRead) (read : head.ReadTextsAreHeaders) (stands : head.ReadHeadersStand)
    (refusable : head.PartsAreRefusable)
    (start reader : reading.HeaderProgress) (piece : List ℕ) (begun : IsOpenHeader start)
    (count byte : ℕ) (rest : List ℕ) (so_far : HasTaken start reader piece count)
    (cut : piece ≡ take count piece ++ (byte ∷ rest))
    (header : Header) (ends : (more : List ℕ) → reading.resume_header reader (byte ∷ more) ≡ Whole header more)
    (at : ℕ) (place : at ≡ reading.header_taken reader + 1) (size : length (take count piece) ≡ count) where
  -- the piece ends the header of which the bytes before are a part
  ends-header : (before : List ℕ) → StandsFor (InHeader start) before → EndsHeaderOf before piece
  ends-header before same =
      let behind : (more : List ℕ) →
      grid_of ((before ++ piece) ++ more) ≡ grid_answer header (samples_at header at (rest ++ more)) =
      λ more. ap grid_of (append_assoc before piece more) ∙ sym (same (piece ++ more))
      ∙ whole-answer start reader piece begun count byte rest so_far cut header ends at place size more in
      let found =
      raster-whole refusable (before ++ piece) header (λ more. samples_at header at (rest ++ more)) behind in
      let has = whole-has (before ++ piece) found.0 read found.1 found.2 in
      record {
        header = found.0;
        at = length (before ++ piece) - length found.1;
        rest = found.1;
        has = has;
        later = ends-later texts before piece found.0 (length (before ++ piece) - length found.1) found.1
            (open-part stands start before begun same) has;
      }

  -- the byte ended the header, and there was no room, or what follows is refused
  pub header-full : (fault : PgmFault) →
      (fault ≢ NoMemory → (more : List ℕ) → grid_answer header (samples_at header at (rest ++ more)) ≡ Err fault)
      → Stops (InHeader start) piece fault
  unfolding taken
  header-full fault refusal = record {
    refusal =
        λ other more. whole-answer start reader piece begun count byte rest so_far cut header ends at place size more
        ∙ refusal other more;
    no_memory = λ e. inr (record { early = omega (arith, begun.small); ends = ends-header });
    sticks = λ before settled. absurd (unsettled-header start before begun settled);
  }
