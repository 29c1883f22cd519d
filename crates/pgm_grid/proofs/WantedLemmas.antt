-- What is read are as many samples as are wanted, none above maxval, whatever the bytes are.
use Rattle.std.proofs.Common.{◌≡◌, ℕ, ◌+◌, ◌*◌, ◌<◌, ◌≤◌, ◌&&◌, nat_lt, List, [], ◌∷◌, length, None, Ok, Err, IfOk, sym}
use Rattle.std.proofs.Common.{subst, arith, All, ◌∙◌, inl, inr}
use Rattle.std.specs.Char.{is_ascii_digit}
use Rattle.std.proofs.lemmas.Bool.{cases_lt, cases_eq, lt-ltb, le-ltb, eq-eqb, ne_eqb, cond-true, cond-false}
use Rattle.std.proofs.lemmas.List.Elements.{All-nil, All-cons}
use Rattle.text_laws.specs.Blanks.{is_white}
use Rattle.text_laws.proofs.TestLemmas.{by_bool}
use Rattle.pgm_grid.specs.declared.raster_form.RasterForm.{RasterForm}
use Rattle.pgm_grid.specs.declared.raster_form.RasterForm.TheVariants.{Bytes, Words, Plain}
use Rattle.pgm_grid.specs.declared.raster_part.Limits.{Limits}
use Rattle.pgm_grid.specs.declared.raster_part.Digits.{Digits}
use Rattle.pgm_grid.specs.RasterProgress.{RasterAnswer, after, sample_then, end_at, bytes_from, words_from, no_digits}
use Rattle.pgm_grid.specs.RasterProgress.{with_digit, ended_then, nothing_of, raster_of}
use Rattle.pgm_grid.specs.RasterLaws.{OnlyWantedSamplesAreRead}
use Rattle.pgm_grid.proofs.RasterLemmas.{sample-passed, sample-refused}
use Rattle.pgm_grid.proofs.UnlimitedLemmas.{plain_unlimited, rest_unlimited, agreed}

-- the samples that are wanted behind so many
abbrev AreWanted : Limits → ℕ → List ℕ → Type 0
AreWanted l index samples = (index + length samples ≡ l.count) × All (λ h. h ≤ l.maxval) samples

abbrev Wanted : Limits → ℕ → RasterAnswer → Type 0
Wanted l index r = IfOk r (AreWanted l index)

wanted-end : (l : Limits) (index : ℕ) → index ≤ l.count → Wanted l index (end_at l index)
wanted-end l index room =
    elim (cases_lt index l.count) as (λ _. Wanted l index (end_at l index)) [
      | inl less ↦ subst (Wanted l index) (sym (cond-true _ _ _ (lt-ltb index l.count less))) tt
      | inr full ↦ subst (Wanted l index) (sym (cond-false _ _ _ (le-ltb index l.count full)))
          (omega arith, All-nil (λ h. h ≤ l.maxval))
    ]

wanted-after : (l : Limits) (index sample : ℕ) (r : RasterAnswer) → sample ≤ l.maxval → Wanted l (index + 1) r →
    Wanted l index (after (sample ∷ []) r)
wanted-after l index sample (Ok rest) fits w = (omega (arith, w.0), All-cons (λ h. h ≤ l.maxval) sample rest fits w.1)
wanted-after l index sample (Err fault) fits w = tt

wanted-sample : (l : Limits) (index sample : ℕ) (r : RasterAnswer) → Wanted l (index + 1) r →
    Wanted l index (sample_then l index sample r)
wanted-sample l index sample r w =
    elim (cases_lt l.maxval sample) as (λ _. Wanted l index (sample_then l index sample r)) [
      | inl above ↦ subst (Wanted l index) (sym (sample-refused l index sample r above)) tt
      | inr fits ↦ subst (Wanted l index) (sym (sample-passed l index sample r fits))
          (wanted-after l index sample r fits w)
    ]

bytes-wanted : (l : Limits) (bytes : List ℕ) (index at : ℕ) → index ≤ l.count →
    Wanted l index (bytes_from l index at bytes)
bytes-wanted l [] index at room = wanted-end l index room
bytes-wanted l (byte ∷ more) index at room =
    elim (cases_lt index l.count) as (λ _. Wanted l index (bytes_from l index at (byte ∷ more))) [
      | inl less ↦ subst (Wanted l index) (sym (cond-true _ _ _ (lt-ltb index l.count less))) (wanted-sample l index
          byte (bytes_from l (index + 1) (at + 1) more) (bytes-wanted l more (index + 1) (at + 1) (omega arith)))
      | inr full ↦ subst (Wanted l index) (sym (cond-false _ _ _ (le-ltb index l.count full))) tt
    ]

words-wanted : (l : Limits) (bytes : List ℕ) (index at : ℕ) → index ≤ l.count →
    Wanted l index (words_from l index None at bytes)
words-wanted l [] index at room = wanted-end l index room
words-wanted l (byte ∷ []) index at room =
    elim (cases_lt index l.count) as (λ _. Wanted l index (words_from l index None at (byte ∷ []))) [
      | inl less ↦ subst (Wanted l index) (sym (cond-true _ _ _ (lt-ltb index l.count less))) (wanted-end l index room)
      | inr full ↦ subst (Wanted l index) (sym (cond-false _ _ _ (le-ltb index l.count full))) tt
    ]
words-wanted l (high ∷ low ∷ more) index at room =
    elim (cases_lt index l.count) as (λ _. Wanted l index (words_from l index None at (high ∷ low ∷ more))) [
      | inl less ↦ subst (Wanted l index) (sym (cond-true _ _ _ (lt-ltb index l.count less)))
          (wanted-sample l index (256 * high + low) (words_from l (index + 1) None (at + 1 + 1) more)
          (words-wanted l more (index + 1) (at + 1 + 1) (omega arith)))
      | inr full ↦ subst (Wanted l index) (sym (cond-false _ _ _ (le-ltb index l.count full))) tt
    ]

wanted-ended : (l : Limits) (index : ℕ) (digits : Digits) (rest : ℕ → RasterAnswer) → index ≤ l.count →
    (0 < digits.count → index < l.count) → ((i : ℕ) → i ≤ l.count → Wanted l i (rest i)) →
    Wanted l index (ended_then l index digits rest)
wanted-ended l index digits rest room wanted again =
    elim (cases_eq digits.count 0) as (λ _. Wanted l index (ended_then l index digits rest)) [
      | inl none ↦ subst (Wanted l index) (sym (cond-true _ _ _ (eq-eqb digits.count 0 none))) (again index room)
      | inr some ↦
          let less : index < l.count = wanted (omega arith) in
          subst (Wanted l index) (sym (cond-false _ _ _ (ne_eqb digits.count 0 some)))
          (wanted-sample l index digits.value (rest (index + 1)) (again (index + 1) (omega arith)))
    ]

plain-wanted : (l : Limits) (bytes : List ℕ) (index : ℕ) (digits : Digits) (at : ℕ) → index ≤ l.count →
    (0 < digits.count → index < l.count) → Wanted l index (plain_unlimited l index digits at bytes)
plain-wanted l [] index digits at room wanted = wanted-ended l index digits (λ i. end_at l i) room wanted (wanted-end l)
plain-wanted l (byte ∷ more) index digits at room wanted =
    by_bool (is_white byte)
    (λ space. subst (Wanted l index) (sym (cond-true _ _ _ space))
    (wanted-ended l index digits (λ i. plain_unlimited l i no_digits (at + 1) more) room wanted
    (λ i within. plain-wanted l more i no_digits (at + 1) within (λ some. absurd (omega arith)))))
    (λ other. elim (cases_lt index l.count) as (λ _. Wanted l index (plain_unlimited l index digits at (byte ∷ more))) [
      | inl less ↦ by_bool (is_ascii_digit byte && nat_lt digits.count 9)
          (λ digit. subst (Wanted l index) (sym (cond-false _ _ _ other ∙ cond-true _ _ _ (lt-ltb index l.count less)
          ∙ cond-true _ _ _ digit)) (plain-wanted l more index (with_digit digits byte) (at + 1) room (λ _. less)))
          (λ bad. subst (Wanted l index)
          (sym (cond-false _ _ _ other ∙ cond-true _ _ _ (lt-ltb index l.count less) ∙ cond-false _ _ _ bad)) tt)
      | inr full ↦
          subst (Wanted l index) (sym (cond-false _ _ _ other ∙ cond-false _ _ _ (le-ltb index l.count full))) tt
    ])

strip : (count maxval : ℕ) (r : RasterAnswer) → Wanted (record { count = count; maxval = maxval }) 0 r →
    IfOk r (λ samples. (length samples ≡ count) × All (λ h. h ≤ maxval) samples)
strip count maxval (Ok samples) w = (omega (arith, w.0), w.1)
strip count maxval (Err fault) w = tt

-- what is read are so many samples, none above maxval, whatever the bytes are
pub only_wanted : OnlyWantedSamplesAreRead
unfolding raster_of
only_wanted f count maxval at bytes =
    let l : Limits = record { count = count; maxval = maxval } in
    agreed f l at bytes
    (λ r. IfOk r (λ samples. (length samples ≡ count) × All (λ h. h ≤ maxval) samples)) tt (any f l at bytes)
  where
    any : (f : RasterForm) (l : Limits) (at : ℕ) (bytes : List ℕ) → IfOk (rest_unlimited l 0 (nothing_of f) at bytes)
        (λ samples. (length samples ≡ l.count) × All (λ h. h ≤ l.maxval) samples)
    any Bytes l at bytes = strip l.count l.maxval _ (bytes-wanted l bytes 0 at (omega arith))
    any Words l at bytes = strip l.count l.maxval _ (words-wanted l bytes 0 at (omega arith))
    any Plain l at bytes =
        strip l.count l.maxval _ (plain-wanted l bytes 0 no_digits at (omega arith) (λ some. absurd (omega arith)))
