-- Refusals of rasters of any length: in plain ones each has its place before the most bytes of a file.
use Rattle.std.proofs.Common.{◌≡◌, ℕ, suc, ◌+◌, ◌<◌, ◌≤◌, ◌⊎◌, inl, inr, ◌&&◌, nat_lt, List, [], ◌∷◌, ◌++◌, length, Ok}
use Rattle.std.proofs.Common.{Err, refl, sym, ap, ◌∙◌, subst, arith, All, append_assoc, append-nil, length-append}
use Rattle.std.specs.Char.{is_ascii_digit}
use Rattle.std.specs.Prelude.{⊤}
use Rattle.std.proofs.lemmas.List.{length_push}
use Rattle.std.proofs.lemmas.Bool.{cases_lt, cases_eq, lt-ltb, le-ltb, eq-eqb, ne_eqb, cond-true, cond-false}
use Rattle.text_laws.specs.Blanks.{IsWhite, is_white}
use Rattle.text_laws.proofs.TestLemmas.{by_bool}
use Rattle.text_laws.proofs.BlankLemmas.{white-yes, white-is, digits-no_white}
use Rattle.text_laws.proofs.ListLemmas.{All-front}
use Rattle.pgm_grid.specs.declared.raster_fault.RasterFault.{RasterFault}
use Rattle.pgm_grid.specs.declared.raster_fault.RasterFault.TheVariants.{BadSample, AboveMaxval, Trailing, Truncated}
use Rattle.pgm_grid.specs.declared.raster_fault.RasterFault.TheVariants.{TooLong}
use Rattle.pgm_grid.specs.declared.raster_form.RasterForm.{RasterForm}
use Rattle.pgm_grid.specs.declared.raster_form.RasterForm.TheVariants.{Bytes, Words, Plain}
use Rattle.pgm_grid.specs.declared.raster_part.Limits.{Limits}
use Rattle.pgm_grid.specs.declared.raster_part.Digits.{Digits}
use Rattle.pgm_grid.specs.RasterText.{IsRasterCutShort, IsTrailingAt, EndsThere, IsAboveAt, IsBadSampleAt}
use Rattle.pgm_grid.specs.RasterProgress.{most_bytes, RasterAnswer, after, sample_then, end_at, no_digits, with_digit}
use Rattle.pgm_grid.specs.RasterProgress.{ended_then, plain_from, rest_of, nothing_of, raster_of}
use Rattle.pgm_grid.specs.RasterLaws.{IsBelowLimit, ending, IsAboveWithin, CutRastersAreRefused, RastersRefuseTrailingBytes}
use Rattle.pgm_grid.specs.RasterLaws.{RastersRefuseGreatSamples, RastersRefuseBadSamples}
use Rattle.pgm_grid.proofs.RasterLemmas.{sample-passed, sample-refused, after-nil, after-err}
use Rattle.pgm_grid.proofs.PlainLemmas.{plain-space, plain-full, plain-digit, plain-bad}
use Rattle.pgm_grid.proofs.UnlimitedLemmas.{plain_unlimited, plain-within, plain-agrees}
use Rattle.pgm_grid.proofs.LongLemmas.{front-cases}
use Rattle.pgm_grid.proofs.RasterLawLemmas.{Told, told-by, cut-read, trailing-read, above-read, bad-read, no_fewer}

-- ---- where a refusal of a plain raster is told

-- the file ends at this place: the place of a refusal, or of the end, is one before the limit
abbrev Placed : ℕ → RasterAnswer → Type 0
Placed end (Err Truncated) = end ≤ most_bytes
Placed end (Err (Trailing p)) = p < most_bytes
Placed end (Err (BadSample p)) = p < most_bytes
Placed end _ = ⊤

placed-after : (samples : List ℕ) (end : ℕ) (r : RasterAnswer) → Placed end r → Placed end (after samples r)
placed-after samples end (Ok rest) w = tt
placed-after samples end (Err fault) w = w

placed-end : (l : Limits) (index end : ℕ) → end ≤ most_bytes → Placed end (end_at l index)
placed-end l index end within =
    elim (cases_lt index l.count) as (λ _. Placed end (end_at l index)) [
      | inl less ↦ subst (Placed end) (sym (cond-true _ _ _ (lt-ltb index l.count less))) within
      | inr full ↦ subst (Placed end) (sym (cond-false _ _ _ (le-ltb index l.count full))) tt
    ]

placed-sample : (l : Limits) (index sample end : ℕ) (r : RasterAnswer) → Placed end r →
    Placed end (sample_then l index sample r)
placed-sample l index sample end r w =
    elim (cases_lt l.maxval sample) as (λ _. Placed end (sample_then l index sample r)) [
      | inl above ↦ subst (Placed end) (sym (sample-refused l index sample r above)) tt
      | inr fits ↦ subst (Placed end) (sym (sample-passed l index sample r fits)) (placed-after (sample ∷ []) end r w)
    ]

placed-ended : (l : Limits) (index end : ℕ) (digits : Digits) (rest : ℕ → RasterAnswer) →
    ((i : ℕ) → Placed end (rest i)) → Placed end (ended_then l index digits rest)
placed-ended l index end digits rest w =
    elim (cases_eq digits.count 0) as (λ _. Placed end (ended_then l index digits rest)) [
      | inl none ↦ subst (Placed end) (sym (cond-true _ _ _ (eq-eqb digits.count 0 none))) (w index)
      | inr some ↦ subst (Placed end) (sym (cond-false _ _ _ (ne_eqb digits.count 0 some)))
          (placed-sample l index digits.value end (rest (index + 1)) (w (index + 1)))
    ]

plain-placed : (l : Limits) (bytes : List ℕ) (index : ℕ) (digits : Digits) (at end : ℕ) → at ≤ most_bytes →
    end ≡ at + length bytes → Placed end (plain_from l index digits at bytes)
plain-placed l [] index digits at end room is =
    placed-ended l index end digits (λ i. end_at l i) (λ i. placed-end l i end (omega (arith, is, room)))
plain-placed l (byte ∷ more) index digits at end room is =
    elim (cases_eq at most_bytes) as (λ _. Placed end (plain_from l index digits at (byte ∷ more))) [
      | inl here ↦ subst (Placed end) (sym (cond-true _ _ _ (eq-eqb at most_bytes here))) tt
      | inr other ↦
          let within : at < most_bytes = omega arith in
          let next : at + 1 ≤ most_bytes = omega arith in
          let ends : end ≡ at + 1 + length more = omega (arith, is) in
          by_bool (is_white byte)
          (λ yes. subst (Placed end) (sym (plain-space l index digits at byte more within yes))
          (placed-ended l index end digits (λ i. plain_from l i no_digits (at + 1) more)
          (λ i. plain-placed l more i no_digits (at + 1) end next ends)))
          (λ no. elim (cases_lt index l.count) as (λ _. Placed end (plain_from l index digits at (byte ∷ more))) [
            | inl wanted ↦ by_bool (is_ascii_digit byte && nat_lt digits.count 9)
                (λ digit. subst (Placed end) (sym (plain-digit l index digits at byte more within no wanted digit))
                (plain-placed l more index (with_digit digits byte) (at + 1) end next ends))
                (λ bad. subst (Placed end) (sym (plain-bad l index digits at byte more within no wanted bad)) within)
            | inr full ↦ subst (Placed end) (sym (plain-full l index digits at byte more within no full)) within
          ])
    ]

placed-by : (l : Limits) (at : ℕ) (bytes : List ℕ) (r : RasterAnswer) → at ≤ most_bytes →
    plain_from l 0 no_digits at bytes ≡ r → Placed (at + length bytes) r
placed-by l at bytes r room e =
    subst (Placed (at + length bytes)) e (plain-placed l bytes 0 no_digits at (at + length bytes) room refl)

-- ---- what decides a sample that is above maxval

-- the file ends before the limit, or whitespace before it ends the text, whatever follows
abbrev Settles : Limits → ℕ → Digits → ℕ → List ℕ → ℕ → Type 0
Settles l index digits at bytes k =
    (at + length bytes ≤ most_bytes)
    ⊎ ((front : List ℕ) × (space : ℕ) × (rest : List ℕ) × (bytes ≡ front ++ space ∷ rest) × IsWhite space
    × (at + length front < most_bytes)
    × ((more : List ℕ) → plain_from l index digits at (front ++ space ∷ more) ≡ Err (AboveMaxval k)))

settles-step : (l : Limits) (index i : ℕ) (digits next : Digits) (at byte : ℕ) (samples more : List ℕ) (k : ℕ)
    → ((m : List ℕ) → plain_from l index digits at (byte ∷ m) ≡ after samples (plain_from l i next (at + 1) m))
    → Settles l i next (at + 1) more k → Settles l index digits at (byte ∷ more) k
settles-step l index i digits next at byte samples more k step (inl fits) = inl (omega (arith, fits))
settles-step l index i digits next at byte samples more k step (inr w) = inr (
  byte ∷ w.0,
  w.1,
  w.2,
  ap (λ (s : List ℕ). byte ∷ s) w.3,
  w.4,
  omega (arith, w.5),
  λ m. step (w.0 ++ w.1 ∷ m) ∙ ap (after samples) (w.6 m),
)

above-same : (one other : ℕ) → ◌≡◌ {A = RasterAnswer} (Err (AboveMaxval one)) (Err (AboveMaxval other)) → one ≡ other
above-same one other e = cc

long_no-above : (k : ℕ) → ◌≡◌ {A = RasterAnswer} (Err TooLong) (Err (AboveMaxval k)) → ⊥
long_no-above k e = cc

bad_no-above : (p k : ℕ) → ◌≡◌ {A = RasterAnswer} (Err (BadSample p)) (Err (AboveMaxval k)) → ⊥
bad_no-above p k e = cc

trailing_no-above : (p k : ℕ) → ◌≡◌ {A = RasterAnswer} (Err (Trailing p)) (Err (AboveMaxval k)) → ⊥
trailing_no-above p k e = cc

plain-settles : (l : Limits) (bytes : List ℕ) (index : ℕ) (digits : Digits) (at k : ℕ) → at ≤ most_bytes →
    plain_from l index digits at bytes ≡ Err (AboveMaxval k) → Settles l index digits at bytes k
plain-settles l [] index digits at k room e = inl (omega (arith, room))
plain-settles l (byte ∷ more) index digits at k room e =
    elim (cases_eq at most_bytes) as (λ _. Settles l index digits at (byte ∷ more) k) [
      | inl here ↦ absurd (long_no-above k (sym (cond-true _ _ _ (eq-eqb at most_bytes here)) ∙ e))
      | inr other ↦
          let within : at < most_bytes = omega arith in
          let next : at + 1 ≤ most_bytes = omega arith in
          by_bool (is_white byte)
          (λ yes. elim (cases_eq digits.count 0) as (λ _. Settles l index digits at (byte ∷ more) k) [
            | inl none ↦
                let step : (m : List ℕ) →
                plain_from l index digits at (byte ∷ m) ≡ plain_from l index no_digits (at + 1) m =
                λ m. plain-space l index digits at byte m within yes ∙ cond-true _ _ _ (eq-eqb digits.count 0 none) in
                settles-step l index index digits no_digits at byte [] more k
                (λ m. step m ∙ sym (after-nil (plain_from l index no_digits (at + 1) m)))
                (plain-settles l more index no_digits (at + 1) k next (sym (step more) ∙ e))
            | inr some ↦
                let step : (m : List ℕ) → plain_from l index digits at (byte ∷ m)
                ≡ sample_then l index digits.value (plain_from l (index + 1) no_digits (at + 1) m) =
                λ m. plain-space l index digits at byte m within yes ∙ cond-false _ _ _ (ne_eqb digits.count 0 some) in
                elim (cases_lt l.maxval digits.value) as (λ _. Settles l index digits at (byte ∷ more) k) [
                  | inl above ↦
                      let refused : (m : List ℕ) → plain_from l index digits at (byte ∷ m) ≡ Err (AboveMaxval index) =
                      λ m. step m ∙ sample-refused l index digits.value _ above in
                      let same : index ≡ k = above-same index k (sym (refused more) ∙ e) in
                      inr (
                        [],
                        byte,
                        more,
                        refl,
                        white-yes byte yes,
                        omega (arith, within),
                        λ m. refused m ∙ ap (λ (i : ℕ). let r : RasterAnswer = Err (AboveMaxval i) in r) same,
                      )
                  | inr fits ↦
                      let passed : (m : List ℕ) → plain_from l index digits at (byte ∷ m)
                      ≡ after (digits.value ∷ []) (plain_from l (index + 1) no_digits (at + 1) m) =
                      λ m. step m ∙ sample-passed l index digits.value _ fits in
                      settles-step l index (index + 1) digits no_digits at byte (digits.value ∷ []) more k passed
                      (plain-settles l more (index + 1) no_digits (at + 1) k next (after-err (digits.value ∷ [])
                      (plain_from l (index + 1) no_digits (at + 1) more) (AboveMaxval k) (sym (passed more) ∙ e)))
                ]
          ])
          (λ no. elim (cases_lt index l.count) as (λ _. Settles l index digits at (byte ∷ more) k) [
            | inl wanted ↦ by_bool (is_ascii_digit byte && nat_lt digits.count 9)
                (λ digit.
                let step : (m : List ℕ) →
                plain_from l index digits at (byte ∷ m) ≡ plain_from l index (with_digit digits byte) (at + 1) m =
                λ m. plain-digit l index digits at byte m within no wanted digit in
                settles-step l index index digits (with_digit digits byte) at byte [] more k
                (λ m. step m ∙ sym (after-nil (plain_from l index (with_digit digits byte) (at + 1) m)))
                (plain-settles l more index (with_digit digits byte) (at + 1) k next (sym (step more) ∙ e)))
                (λ bad.
                absurd (bad_no-above at k (sym (plain-bad l index digits at byte more within no wanted bad) ∙ e)))
            | inr full ↦
                absurd (trailing_no-above at k (sym (plain-full l index digits at byte more within no full) ∙ e))
          ])
    ]

-- the bytes that follow change nothing
above-longer : (count maxval at index : ℕ) (front : List ℕ) (space : ℕ) (rest bytes : List ℕ) →
    bytes ≡ front ++ space ∷ rest → IsWhite space → at + length front < most_bytes
    → IsAboveAt Plain count maxval (front ++ space ∷ []) index → IsAboveWithin Plain count maxval at bytes index
above-longer count maxval at index front space rest bytes whole is within a = by-more a.more refl
  where
    by-more : (m : List ℕ) → a.more ≡ m → IsAboveWithin Plain count maxval at bytes index
    by-more [] none = absurd (digits-no_white a.front a.text front space a.next.digits a.next.some is
        (a.whole ∙ ap (λ (m : List ℕ). a.front ++ (a.text ++ m)) none
        ∙ ap (λ (t : List ℕ). a.front ++ t) (append-nil a.text)))
    by-more (byte ∷ m) more =
        let size : length front + 1 ≡ length a.front + (length a.text + suc (length m)) =
        sym (length_push front space) ∙ ap length a.whole ∙ length-append a.front (a.text ++ a.more) ∙ ap (λ (k : ℕ).
        length a.front + k) (length-append a.text a.more ∙ ap (λ (s : List ℕ). length a.text + length s) more) in
        record {
          above = record {
            samples = a.samples;
            front = a.front;
            sample = a.sample;
            text = a.text;
            more = byte ∷ (m ++ rest);
            whole = whole ∙ sym (append_assoc front (space ∷ []) rest)
                ∙ ap (λ (s : List ℕ). s ++ rest) (a.whole ∙ ap (λ (s : List ℕ). a.front ++ (a.text ++ s)) more)
                ∙ append_assoc a.front (a.text ++ byte ∷ m) rest
                ∙ ap (λ (s : List ℕ). a.front ++ s) (append_assoc a.text (byte ∷ m) rest);
            at = a.at;
            ended = a.ended;
            next = a.next;
            ends = subst (EndsThere Plain) more a.ends;
            bound = a.bound;
            above = a.above;
            wanted = a.wanted;
          };
          within = omega (arith, size, within);
        }

-- ---- refusals without a limit, and with it

-- where the bytes end, neither a byte behind the samples nor one that continues none is told
abbrev AtEnd : RasterAnswer → Type 0
AtEnd (Err (Trailing p)) = ⊥
AtEnd (Err (BadSample p)) = ⊥
AtEnd _ = ⊤

at_end-after : (samples : List ℕ) (r : RasterAnswer) → AtEnd r → AtEnd (after samples r)
at_end-after samples (Ok rest) w = tt
at_end-after samples (Err fault) w = w

at_end-end : (l : Limits) (index : ℕ) → AtEnd (end_at l index)
at_end-end l index =
    elim (cases_lt index l.count) as (λ _. AtEnd (end_at l index)) [
      | inl less ↦ subst AtEnd (sym (cond-true _ _ _ (lt-ltb index l.count less))) tt
      | inr full ↦ subst AtEnd (sym (cond-false _ _ _ (le-ltb index l.count full))) tt
    ]

at_end-ended : (l : Limits) (index : ℕ) (digits : Digits) → AtEnd (ended_then l index digits (λ i. end_at l i))
at_end-ended l index digits =
    elim (cases_eq digits.count 0) as (λ _. AtEnd (ended_then l index digits (λ i. end_at l i))) [
      | inl none ↦ subst AtEnd (sym (cond-true _ _ _ (eq-eqb digits.count 0 none))) (at_end-end l index)
      | inr some ↦ subst AtEnd (sym (cond-false _ _ _ (ne_eqb digits.count 0 some)))
          (elim (cases_lt l.maxval digits.value) as (λ _.
          AtEnd (sample_then l index digits.value (end_at l (index + 1)))) [
            | inl above ↦ subst AtEnd (sym (sample-refused l index digits.value (end_at l (index + 1)) above)) tt
            | inr fits ↦ subst AtEnd (sym (sample-passed l index digits.value (end_at l (index + 1)) fits))
                (at_end-after (digits.value ∷ []) (end_at l (index + 1)) (at_end-end l (index + 1)))
          ])
    ]

-- what the first bytes settle is answered, if it is what is answered without a limit
settled-same : (l : Limits) (at : ℕ) (bytes : List ℕ) (found fault : RasterFault) → (found ≡ TooLong → ⊥)
    → plain_from l 0 no_digits at bytes ≡ Err found → plain_unlimited l 0 no_digits at bytes ≡ Err fault →
    plain_from l 0 no_digits at bytes ≡ Err fault
settled-same l at bytes found fault short here free =
    elim (plain-agrees l bytes 0 no_digits at) as (λ _. plain_from l 0 no_digits at bytes ≡ Err fault) [
      | inl long ↦ absurd (short (same-fault found TooLong (sym here ∙ long)))
      | inr same ↦ same ∙ free
    ]
  where
    same-fault : (one other : RasterFault) → ◌≡◌ {A = RasterAnswer} (Err one) (Err other) → one ≡ other
    same-fault one other e = cc

-- a byte that is refused before the limit
refused-within : (l : Limits) (at : ℕ) (front rest bytes : List ℕ) (fault : RasterFault) →
    bytes ≡ front ++ rest → at + length front ≤ most_bytes → (AtEnd (Err fault) → ⊥)
    → plain_unlimited l 0 no_digits at front ≡ Err fault → plain_unlimited l 0 no_digits at bytes ≡ Err fault →
    plain_from l 0 no_digits at bytes ≡ Err fault
refused-within l at front rest bytes fault whole within late first free =
    elim (front-cases l front 0 no_digits at within) as (λ _. plain_from l 0 no_digits at bytes ≡ Err fault) [
      | inl w ↦ settled-same l at bytes w.0 fault w.1 (ap (plain_from l 0 no_digits at) whole ∙ w.2 rest) free
      | inr w ↦
          let read : plain_from l 0 no_digits at front ≡ after w.0 (ended_then l w.1 w.2 (λ i. end_at l i)) =
          ap (plain_from l 0 no_digits at) (sym (append-nil front)) ∙ w.3 [] in
          let told : after w.0 (ended_then l w.1 w.2 (λ i. end_at l i)) ≡ Err fault =
          sym read ∙ plain-within l front 0 no_digits at within ∙ first in
          absurd (late
          (subst AtEnd told (at_end-after w.0 (ended_then l w.1 w.2 (λ i. end_at l i)) (at_end-ended l w.1 w.2))))
    ]

-- no sample is told where the bytes end
end_no-above : (l : Limits) (index k : ℕ) → end_at l index ≡ Err (AboveMaxval k) → ⊥
end_no-above l index k e =
    elim (cases_lt index l.count) as (λ _. ⊥) [
      | inl less ↦ (let bad : ◌≡◌ {A = RasterAnswer} (Err Truncated) (Err (AboveMaxval k)) =
          sym (cond-true _ _ _ (lt-ltb index l.count less)) ∙ e in cc)
      | inr full ↦ (let bad : ◌≡◌ {A = RasterAnswer} (Ok []) (Err (AboveMaxval k)) =
          sym (cond-false _ _ _ (le-ltb index l.count full)) ∙ e in cc)
    ]

-- a sample whose digits are ended is told whatever follows
ended-above : (l : Limits) (index : ℕ) (digits : Digits) (k : ℕ) (rest : ℕ → RasterAnswer) →
    ended_then l index digits (λ i. end_at l i) ≡ Err (AboveMaxval k) →
    ended_then l index digits rest ≡ Err (AboveMaxval k)
ended-above l index digits k rest e =
    elim (cases_eq digits.count 0) as (λ _. ended_then l index digits rest ≡ Err (AboveMaxval k)) [
      | inl none ↦ absurd (end_no-above l index k (sym (cond-true _ _ _ (eq-eqb digits.count 0 none)) ∙ e))
      | inr some ↦
          let told : sample_then l index digits.value (end_at l (index + 1)) ≡ Err (AboveMaxval k) =
          sym (cond-false _ _ _ (ne_eqb digits.count 0 some)) ∙ e in
          cond-false _ _ _ (ne_eqb digits.count 0 some)
          ∙ elim (cases_lt l.maxval digits.value) as (λ _.
          sample_then l index digits.value (rest (index + 1)) ≡ Err (AboveMaxval k)) [
            | inl above ↦ sample-refused l index digits.value (rest (index + 1)) above
                ∙ sym (sample-refused l index digits.value (end_at l (index + 1)) above) ∙ told
            | inr fits ↦ absurd (end_no-above l (index + 1) k (after-err (digits.value ∷ []) (end_at l (index + 1))
                (AboveMaxval k) (sym (sample-passed l index digits.value (end_at l (index + 1)) fits) ∙ told)))
          ]
    ]

above-within : (l : Limits) (at index : ℕ) (bytes : List ℕ) → IsAboveWithin Plain l.count l.maxval at bytes index →
    plain_from l 0 no_digits at bytes ≡ Err (AboveMaxval index)
above-within l at index bytes w = by-more w.above.more refl
  where
    text : List ℕ
    text = w.above.front ++ w.above.text

    whole : bytes ≡ text ++ w.above.more
    whole = w.above.whole ∙ sym (append_assoc w.above.front w.above.text w.above.more)

    free : plain_unlimited l 0 no_digits at bytes ≡ Err (AboveMaxval index)
    free = above-read Plain l bytes at index w.above

    by-more : (m : List ℕ) → w.above.more ≡ m → plain_from l 0 no_digits at bytes ≡ Err (AboveMaxval index)
    by-more [] none =
        let fits : at + length w.above.front + length w.above.text + 0 ≤ most_bytes = subst
        (λ (m : List ℕ). at + length w.above.front + length w.above.text + ending m ≤ most_bytes) none w.within in
        let size : length bytes ≡ length w.above.front + length w.above.text =
        ap length (whole ∙ ap (λ (m : List ℕ). text ++ m) none ∙ append-nil text)
        ∙ length-append w.above.front w.above.text in
        plain-within l bytes 0 no_digits at (omega (arith, size, fits)) ∙ free
    by-more (byte ∷ m) more =
        let fits : at + length w.above.front + length w.above.text + 1 ≤ most_bytes = subst
        (λ (m : List ℕ). at + length w.above.front + length w.above.text + ending m ≤ most_bytes) more w.within in
        let size : length text ≡ length w.above.front + length w.above.text =
        length-append w.above.front w.above.text in
        let within : at + length text < most_bytes = omega (arith, size, fits) in
        let space : IsWhite byte = subst (EndsThere Plain) more w.above.ends in
        let cut : bytes ≡ text ++ byte ∷ m = whole ∙ ap (λ (s : List ℕ). text ++ s) more in
        elim (front-cases l text 0 no_digits at (omega (arith, within))) as (λ _.
        plain_from l 0 no_digits at bytes ≡ Err (AboveMaxval index)) [
          | inl f ↦ settled-same l at bytes f.0 (AboveMaxval index) f.1
              (ap (plain_from l 0 no_digits at) cut ∙ f.2 (byte ∷ m)) free
          | inr f ↦
              let step : (s : List ℕ) → plain_from l 0 no_digits at (text ++ byte ∷ s)
              ≡ after f.0 (ended_then l f.1 f.2 (λ i. plain_from l i no_digits (at + length text + 1) s)) =
              λ s. f.3 (byte ∷ s)
              ∙ ap (after f.0) (plain-space l f.1 f.2 (at + length text) byte s within (white-is byte space)) in
              let short : IsAboveAt Plain l.count l.maxval (text ++ byte ∷ []) index = record {
                samples = w.above.samples;
                front = w.above.front;
                sample = w.above.sample;
                text = w.above.text;
                more = byte ∷ [];
                whole = append_assoc w.above.front w.above.text (byte ∷ []);
                at = w.above.at;
                ended = w.above.ended;
                next = w.above.next;
                ends = space;
                bound = w.above.bound;
                above = w.above.above;
                wanted = w.above.wanted;
              } in
              let first : plain_from l 0 no_digits at (text ++ byte ∷ []) ≡ Err (AboveMaxval index) =
              plain-within l (text ++ byte ∷ []) 0 no_digits at (omega (arith, within, length_push text byte))
              ∙ above-read Plain l (text ++ byte ∷ []) at index short in
              let ended : ended_then l f.1 f.2 (λ i. end_at l i) ≡ Err (AboveMaxval index) =
              after-err f.0 (ended_then l f.1 f.2 (λ i. end_at l i)) (AboveMaxval index) (sym (step []) ∙ first) in
              ap (plain_from l 0 no_digits at) cut ∙ step m ∙ ap (after f.0)
              (ended-above l f.1 f.2 index (λ i. plain_from l i no_digits (at + length text + 1) m) ended)
        ]

-- ---- the laws

-- bytes are truncated exactly where they end too early, and before the limit
pub truncated : CutRastersAreRefused
unfolding raster_of
truncated f count maxval at bytes room all =
    let l : Limits = record { count = count; maxval = maxval } in (
      (λ e.
          let told : Told f l 0 at bytes (Err Truncated) =
          told-by f l at bytes (Err Truncated) all e (λ long. absurd (cc)) in
          (subst (λ (n : ℕ). IsRasterCutShort f n maxval bytes) (no_fewer count) told, by-form f e)),
      (λ w. read f w.0 w.1),
    )
  where
    by-form : (g : RasterForm) →
        rest_of (record { count = count; maxval = maxval }) 0 (nothing_of g) at bytes ≡ Err Truncated →
        IsBelowLimit g (at + length bytes)
    by-form Bytes e = tt
    by-form Words e = tt
    by-form Plain e = placed-by (record { count = count; maxval = maxval }) at bytes (Err Truncated) room e

    read : (g : RasterForm) → IsRasterCutShort g count maxval bytes → IsBelowLimit g (at + length bytes) →
        rest_of (record { count = count; maxval = maxval }) 0 (nothing_of g) at bytes ≡ Err Truncated
    read Bytes w within = cut-read Bytes (record { count = count; maxval = maxval }) bytes at w
    read Words w within = cut-read Words (record { count = count; maxval = maxval }) bytes at w
    read Plain w within = plain-within (record { count = count; maxval = maxval }) bytes 0 no_digits at within
        ∙ cut-read Plain (record { count = count; maxval = maxval }) bytes at w

-- a trailing byte is answered exactly at its place, before the limit
pub trailing : RastersRefuseTrailingBytes
unfolding raster_of
trailing f count maxval at bytes p room all =
    let l : Limits = record { count = count; maxval = maxval } in (
      (λ e.
          let told : Told f l 0 at bytes (Err (Trailing p)) =
          told-by f l at bytes (Err (Trailing p)) all e (λ long. absurd (cc)) in (
            told.0,
            told.1,
            subst (λ (n : ℕ). IsTrailingAt f n maxval bytes told.0) (no_fewer count) told.2,
            by-form f e,
          )),
      (λ w. read f w.0 w.1 w.2 w.3),
    )
  where
    by-form : (g : RasterForm) →
        rest_of (record { count = count; maxval = maxval }) 0 (nothing_of g) at bytes ≡ Err (Trailing p) →
        IsBelowLimit g (p + 1)
    by-form Bytes e = tt
    by-form Words e = tt
    by-form Plain e = (let before : p < most_bytes = placed-by (record { count = count; maxval = maxval }) at bytes
        (Err (Trailing p)) room e in omega (arith, before))

    read : (g : RasterForm) (place : ℕ) → p ≡ at + place → IsTrailingAt g count maxval bytes place →
        IsBelowLimit g (p + 1) →
        rest_of (record { count = count; maxval = maxval }) 0 (nothing_of g) at bytes ≡ Err (Trailing p)
    read Bytes place here w within =
        trailing-read Bytes (record { count = count; maxval = maxval }) bytes at place p here w
    read Words place here w within =
        trailing-read Words (record { count = count; maxval = maxval }) bytes at place p here w
    read Plain place here w within =
        let short : IsTrailingAt Plain count maxval (w.front ++ w.byte ∷ []) place = record {
          samples = w.samples;
          front = w.front;
          byte = w.byte;
          more = [];
          whole = refl;
          at = w.at;
          ended = w.ended;
          stray = w.stray;
          bound = w.bound;
          all = w.all;
        } in
        refused-within (record { count = count; maxval = maxval }) at (w.front ++ w.byte ∷ []) w.more bytes (Trailing p)
        (w.whole ∙ sym (append_assoc w.front (w.byte ∷ []) w.more))
        (omega (arith, length_push w.front w.byte, w.at, here, within)) (λ late. late)
        (trailing-read Plain (record { count = count; maxval = maxval }) (w.front ++ w.byte ∷ []) at place p here short)
        (trailing-read Plain (record { count = count; maxval = maxval }) bytes at place p here w)

-- a sample above maxval is answered exactly at its index, where its text ends before the limit
pub above : RastersRefuseGreatSamples
unfolding raster_of
above f count maxval at bytes index room all = (λ e. told f e, λ w. read f w)
  where
    found : (g : RasterForm) (bs : List ℕ) → All (λ b. b < 256) bs →
        rest_of (record { count = count; maxval = maxval }) 0 (nothing_of g) at bs ≡ Err (AboveMaxval index) →
        IsAboveAt g count maxval bs index
    found g bs are e =
        let l : Limits = record { count = count; maxval = maxval } in
        let told : Told g l 0 at bs (Err (AboveMaxval index)) =
        told-by g l at bs (Err (AboveMaxval index)) are e (λ long. absurd (cc)) in
        let same : told.0 ≡ index = omega (arith, told.1) in
        subst (λ (k : ℕ). IsAboveAt g count maxval bs k) same
        (subst (λ (n : ℕ). IsAboveAt g n maxval bs told.0) (no_fewer count) told.2)

    size : (front text more : List ℕ) → bytes ≡ front ++ (text ++ more) → at + length bytes
        ≤ most_bytes → at + length front + length text + ending more ≤ most_bytes
    size front text [] whole fits =
        omega (arith, ap length whole, length-append front (text ++ []), length-append text [], fits)
    size front text (byte ∷ more) whole fits = omega (
      arith,
      ap length whole,
      length-append front (text ++ byte ∷ more),
      length-append text (byte ∷ more),
      fits,
    )

    told : (g : RasterForm) →
        rest_of (record { count = count; maxval = maxval }) 0 (nothing_of g) at bytes ≡ Err (AboveMaxval index) →
        IsAboveWithin g count maxval at bytes index
    told Bytes e = record { above = found Bytes bytes all e; within = tt }
    told Words e = record { above = found Words bytes all e; within = tt }
    told Plain e =
        let l : Limits = record { count = count; maxval = maxval } in
        elim (plain-settles l bytes 0 no_digits at index room e) as (λ _.
        IsAboveWithin Plain count maxval at bytes index) [
          | inl fits ↦ (let a = found Plain bytes all e in record {
            above = a;
            within = size a.front a.text a.more a.whole fits;
          })
          | inr w ↦
              let are : All (λ b. b < 256) (w.0 ++ w.1 ∷ []) =
              All-front (λ b. b < 256) (w.0 ++ w.1 ∷ []) w.2
              (subst (All (λ b. b < 256)) (w.3 ∙ sym (append_assoc w.0 (w.1 ∷ []) w.2)) all) in
              above-longer count maxval at index w.0 w.1 w.2 bytes w.3 w.4 w.5
              (found Plain (w.0 ++ w.1 ∷ []) are (w.6 []))
        ]

    read : (g : RasterForm) → IsAboveWithin g count maxval at bytes index →
        rest_of (record { count = count; maxval = maxval }) 0 (nothing_of g) at bytes ≡ Err (AboveMaxval index)
    read Bytes w = above-read Bytes (record { count = count; maxval = maxval }) bytes at index w.above
    read Words w = above-read Words (record { count = count; maxval = maxval }) bytes at index w.above
    read Plain w = above-within (record { count = count; maxval = maxval }) at index bytes w

-- a byte that continues no sample is answered exactly at its place, before the limit, in plain rasters alone
pub bad_sample : RastersRefuseBadSamples
unfolding raster_of
bad_sample f count maxval at bytes p room all =
    let l : Limits = record { count = count; maxval = maxval } in (
      (λ e.
          let told : Told f l 0 at bytes (Err (BadSample p)) =
          told-by f l at bytes (Err (BadSample p)) all e (λ long. absurd (cc)) in
          let plain : plain_from l 0 no_digits at bytes ≡ Err (BadSample p) =
          subst (λ (k : RasterForm). rest_of l 0 (nothing_of k) at bytes ≡ Err (BadSample p)) told.0 e in (
            told.0,
            told.1,
            told.2,
            subst (λ (n : ℕ). IsBadSampleAt n maxval bytes told.1) (no_fewer count) told.3,
            placed-by l at bytes (Err (BadSample p)) room plain,
          )),
      (λ w. subst (λ (k : RasterForm). rest_of l 0 (nothing_of k) at bytes ≡ Err (BadSample p)) (sym w.0)
          (read w.1 w.2 w.3 w.4)),
    )
  where
    read : (place : ℕ) → p ≡ at + place → IsBadSampleAt count maxval bytes place → p < most_bytes →
        plain_from (record { count = count; maxval = maxval }) 0 no_digits at bytes ≡ Err (BadSample p)
    read place here w within =
        let front : List ℕ = w.front ++ (w.digits ++ w.byte ∷ []) in
        let short : IsBadSampleAt count maxval (w.front ++ (w.digits ++ w.byte ∷ [])) place = record {
          samples = w.samples;
          front = w.front;
          digits = w.digits;
          byte = w.byte;
          more = [];
          whole = refl;
          at = w.at;
          ended = w.ended;
          short = w.short;
          are = w.are;
          no_space = w.no_space;
          bad = w.bad;
          bound = w.bound;
          wanted = w.wanted;
        } in
        let whole : bytes ≡ (w.front ++ (w.digits ++ w.byte ∷ [])) ++ w.more =
        w.whole ∙ sym (append_assoc w.front (w.digits ++ w.byte ∷ []) w.more
        ∙ ap (λ (s : List ℕ). w.front ++ s) (append_assoc w.digits (w.byte ∷ []) w.more)) in
        refused-within (record { count = count; maxval = maxval }) at (w.front ++ (w.digits ++ w.byte ∷ [])) w.more
        bytes (BadSample p) whole
        (omega (
          arith,
          length-append w.front (w.digits ++ w.byte ∷ []),
          length_push w.digits w.byte,
          w.at,
          here,
          within,
        )) (λ late. late)
        (bad-read (record { count = count; maxval = maxval })
        (w.front ++ (w.digits ++ w.byte ∷ [])) at place p here short)
        (bad-read (record { count = count; maxval = maxval }) bytes at place p here w)
