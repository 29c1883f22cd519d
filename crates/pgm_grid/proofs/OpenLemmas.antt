-- A reader that has refused no byte: what it will answer is still open.
use Rattle.std.proofs.Common.{◌≡◌, ℕ, ◌+◌, ◌-◌, ◌*◌, ◌<◌, ◌≤◌, inl, inr, List, [], ◌∷◌, length, replicate, Some, None}
use Rattle.std.proofs.Common.{Ok, Err, refl, sym, ap, ◌∙◌, subst, arith, length-append}
use Rattle.std.proofs.lemmas.List.{length-replicate}
use Rattle.std.proofs.lemmas.Bool.{cases_lt, cases_eq, lt-ltb, le-ltb, eq-eqb, ne_eqb, cond-true, cond-false}
use Rattle.std.proofs.lemmas.List.Elements.{All-replicate}
use Rattle.std.specs.Prelude.{⊤}
use Rattle.text_laws.proofs.WordLemmas.{length-flat}
use Rattle.pgm_grid.specs.declared.raster_fault.RasterFault.{RasterFault}
use Rattle.pgm_grid.specs.declared.raster_fault.RasterFault.TheVariants.{BadSample, AboveMaxval, Trailing, Truncated}
use Rattle.pgm_grid.specs.declared.raster_fault.RasterFault.TheVariants.{TooLong}
use Rattle.pgm_grid.specs.declared.raster_form.RasterForm.TheVariants.{Bytes, Words}
use Rattle.pgm_grid.specs.declared.raster_part.Limits.{Limits}
use Rattle.pgm_grid.specs.declared.raster_part.Digits.{Digits}
use Rattle.pgm_grid.specs.declared.raster_part.Part.{Part}
use Rattle.pgm_grid.specs.declared.raster_part.Part.TheVariants as part
use Rattle.pgm_grid.specs.RasterText.{IsRasterCutShort}
use Rattle.pgm_grid.specs.RasterProgress.{most_bytes, RasterAnswer, after, sample_then, end_at, bytes_from, words_from}
use Rattle.pgm_grid.specs.RasterProgress.{ended_then, plain_from, reads}
use Rattle.pgm_grid.specs.RasterStage.{IsPart, IsRasterPlace}
use Rattle.pgm_grid.proofs.RasterLemmas.{sample-passed, sample-refused, after-err}
use Rattle.pgm_grid.proofs.PlainLemmas.{plain-full, plain-bad, plain-long}
use Rattle.pgm_grid.proofs.RasterLawLemmas.{Told, bytes-told, words-told}

-- an answer is one refusal at most
pub same_fault : (r : RasterAnswer) (f g : RasterFault) → r ≡ Err f → r ≡ Err g → f ≡ g
same_fault r f g a b = let e : ◌≡◌ {A = RasterAnswer} (Err f) (Err g) = sym a ∙ b in cc

-- where the end of the file is refused, it is truncated
end-fault : (l : Limits) (index : ℕ) (f : RasterFault) → end_at l index ≡ Err f → (f ≡ Truncated) × (index < l.count)
end-fault l index f e =
    elim (cases_lt index l.count) as (λ _. (f ≡ Truncated) × (index < l.count)) [
      | inl less ↦ (same_fault (end_at l index) f Truncated e (cond-true _ _ _ (lt-ltb index l.count less)), less)
      | inr full ↦
          let ok : end_at l index ≡ Ok [] = cond-false _ _ _ (le-ltb index l.count full) in
          absurd (let bad : ◌≡◌ {A = RasterAnswer} (Ok []) (Err f) = sym ok ∙ e in cc)
    ]

-- how many bytes are truncated at most
bytes-few : (left maxval : ℕ) (bytes : List ℕ) → IsRasterCutShort Bytes left maxval bytes → length bytes < left
bytes-few left maxval bytes w =
    let size : length bytes ≡ length w.text + length w.cut = ap length w.whole ∙ length-append w.text w.cut in
    let cut : length w.cut ≡ 0 = ap length w.part in
    let text : length w.text ≡ length w.samples = ap length w.raster in
    let fewer : length w.samples < left = w.fewer in
    omega arith

words-few : (left maxval : ℕ) (bytes : List ℕ) → IsRasterCutShort Words left maxval bytes → length bytes < 2 * left
words-few left maxval bytes w =
    let size : length bytes ≡ length w.text + length w.cut = ap length w.whole ∙ length-append w.text w.cut in
    let cut : length w.cut ≤ 1 = w.part in
    let text : length w.text ≡ 2 * length w.samples = ap length w.raster ∙ length-flat w.samples in
    let fewer : length w.samples < left = w.fewer in
    omega arith

-- enough bytes are not truncated
bytes-enough : (l : Limits) (index at : ℕ) → index ≤ l.count →
    bytes_from l index at (replicate l.count 0) ≡ Err Truncated → ⊥
bytes-enough l index at room e =
    let few : length {A = ℕ} (replicate {A = ℕ} l.count 0) < l.count - index =
    bytes-few (l.count - index) l.maxval (replicate l.count 0)
    (subst (Told Bytes l index at (replicate l.count 0)) e (bytes-told l (replicate l.count 0) index at room)) in
    let below : l.count < l.count - index =
    subst (λ (n : ℕ). n < l.count - index) (length-replicate {A = ℕ} l.count 0) few in
    absurd (omega (arith, below))

words-enough : (l : Limits) (index at : ℕ) → index ≤ l.count →
    words_from l index None at (replicate (2 * l.count) 0) ≡ Err Truncated → ⊥
words-enough l index at room e =
    let small : 0 < 256 = omega arith in
    let few : length {A = ℕ} (replicate {A = ℕ} (2 * l.count) 0) < 2 * (l.count - index) =
    words-few (l.count - index) l.maxval (replicate (2 * l.count) 0)
    (subst (Told Words l index at (replicate (2 * l.count) 0)) e (words-told l (replicate (2 * l.count) 0) index at room
    (All-replicate (λ b. b < 256) (2 * l.count) 0 small))) in
    let below : 2 * l.count < 2 * (l.count - index) =
    subst (λ (n : ℕ). n < 2 * (l.count - index)) (length-replicate {A = ℕ} (2 * l.count) 0) few in
    absurd (omega (arith, below))

half-enough : (l : Limits) (index at high : ℕ) → index < l.count →
    words_from l index (Some high) at (0 ∷ replicate (2 * l.count) 0) ≡ Err Truncated → ⊥
half-enough l index at high wanted e =
    let rest : RasterAnswer = words_from l (index + 1) None (at + 1) (replicate (2 * l.count) 0) in
    elim (cases_lt l.maxval (256 * high + 0)) as (λ _. ⊥) [
      | inl above ↦
          absurd (let bad : AboveMaxval index ≡ Truncated = same_fault (sample_then l index (256 * high + 0) rest)
          (AboveMaxval index) Truncated (sample-refused l index (256 * high + 0) rest above) e in cc)
      | inr fits ↦ words-enough l (index + 1) (at + 1) (omega arith) (after-err ((256 * high + 0) ∷ []) rest Truncated
          (sym (sample-passed l index (256 * high + 0) rest fits) ∙ e))
    ]

-- what the end of the file is refused for
abbrev pub IsEndFault : RasterFault → Type 0
IsEndFault Truncated = ⊤
IsEndFault (AboveMaxval _) = ⊤
IsEndFault _ = ⊥

end-ends : (l : Limits) (index : ℕ) (f : RasterFault) → end_at l index ≡ Err f → IsEndFault f
end-ends l index f e = subst IsEndFault (sym (end-fault l index f e).0) tt

sample-ends : (l : Limits) (index sample : ℕ) (f : RasterFault) →
    sample_then l index sample (end_at l (index + 1)) ≡ Err f → IsEndFault f
sample-ends l index sample f e =
    elim (cases_lt l.maxval sample) as (λ _. IsEndFault f) [
      | inl above ↦ subst IsEndFault (same_fault (sample_then l index sample (end_at l (index + 1)))
          (AboveMaxval index) f (sample-refused l index sample (end_at l (index + 1)) above) e) tt
      | inr fits ↦ end-ends l (index + 1) f (after-err (sample ∷ []) (end_at l (index + 1)) f
          (sym (sample-passed l index sample (end_at l (index + 1)) fits) ∙ e))
    ]

-- where the file ends behind digits, it is refused as truncated or for a sample above maxval, if at all
pub digits-end : (l : Limits) (index : ℕ) (digits : Digits) (f : RasterFault) →
    ended_then l index digits (λ i. end_at l i) ≡ Err f → IsEndFault f
digits-end l index digits f e =
    elim (cases_eq digits.count 0) as (λ _. IsEndFault f) [
      | inl none ↦ end-ends l index f (sym (cond-true _ _ _ (eq-eqb digits.count 0 none)) ∙ e)
      | inr some ↦ sample-ends l index digits.value f (sym (cond-false _ _ _ (ne_eqb digits.count 0 some)) ∙ e)
    ]

-- an `x` (120) is refused for another reason
x-ends : (l : Limits) (index : ℕ) (digits : Digits) (at : ℕ) (f : RasterFault) → at ≤ most_bytes →
    plain_from l index digits at (120 ∷ []) ≡ Err f → IsEndFault f → ⊥
x-ends l index digits at f place e ends =
    elim (cases_lt at most_bytes) as (λ _. ⊥) [
      | inl within ↦ elim (cases_lt index l.count) as (λ _. ⊥) [
        | inl less ↦ subst IsEndFault (same_fault (plain_from l index digits at (120 ∷ [])) f (BadSample at) e
            (plain-bad l index digits at 120 [] within refl less refl)) ends
        | inr full ↦ subst IsEndFault (same_fault (plain_from l index digits at (120 ∷ [])) f (Trailing at) e
            (plain-full l index digits at 120 [] within refl full)) ends
      ]
      | inr beyond ↦ subst IsEndFault (same_fault (plain_from l index digits at (120 ∷ [])) f TooLong e
          (plain-long l index digits at (120 ∷ []) (omega arith) (omega arith))) ends
    ]

-- no refusal of a plain raster is the same for all bytes that may still come
pub plain-open : (l : Limits) (samples : List ℕ) (index : ℕ) (digits : Digits) (at : ℕ)
    (f : RasterFault) → at ≤ most_bytes →
    ((more : List ℕ) → after samples (plain_from l index digits at more) ≡ Err f) → ⊥
plain-open l samples index digits at f place all =
    x-ends l index digits at f place (after-err samples _ f (all (120 ∷ [])))
    (digits-end l index digits f (after-err samples _ f (all [])))

-- no refusal comes whatever still comes
pub still-open : (l : Limits) (samples : List ℕ) (p : Part) (at : ℕ) (f : RasterFault) → length samples ≤ l.count →
    IsPart l (length samples) p → IsRasterPlace l (length samples) p at →
    ((more : List ℕ) → reads l samples p at more ≡ Err f) → ⊥
still-open l samples part.Bytes at f room valid place all =
    let now = end-fault l (length samples) f (after-err samples (end_at l (length samples)) f (all [])) in
    bytes-enough l (length samples) at room (after-err samples _ f (all (replicate l.count 0))
    ∙ ap (λ (g : RasterFault). let r : RasterAnswer = Err g in r) now.0)
still-open l samples (part.Words None) at f room valid place all =
    let now = end-fault l (length samples) f (after-err samples (end_at l (length samples)) f (all [])) in
    words-enough l (length samples) at room (after-err samples _ f (all (replicate (2 * l.count) 0))
    ∙ ap (λ (g : RasterFault). let r : RasterAnswer = Err g in r) now.0)
still-open l samples (part.Words (Some high)) at f room valid place all =
    let now = end-fault l (length samples) f (after-err samples (end_at l (length samples)) f (all [])) in
    half-enough l (length samples) at high valid (after-err samples _ f (all (0 ∷ replicate (2 * l.count) 0))
    ∙ ap (λ (g : RasterFault). let r : RasterAnswer = Err g in r) now.0)
still-open l samples (part.Plain digits) at f room valid place all =
    plain-open l samples (length samples) digits at f (omega arith) all
