-- Plain rasters whose bytes go beyond the most that a file has.
use Rattle.std.proofs.Common.{◌≡◌, ℕ, suc, ◌+◌, ◌-◌, ◌*◌, ◌^◌, ◌<◌, ◌≤◌, ◌⊎◌, inl, inr, true, ◌&&◌, nat_lt, List, []}
use Rattle.std.proofs.Common.{◌∷◌, ◌++◌, length, take, drop, None, Ok, Err, refl, sym, ap, ◌∙◌, subst, arith}
use Rattle.std.proofs.Common.{take-append-drop, length-take-le, length-drop}
use Rattle.std.specs.Char.{is_ascii_digit}
use Rattle.std.specs.Prelude.{⊤}
use Rattle.std.proofs.lemmas.Bool.{cases_lt, cases_eq, lt-ltb, le-ltb, eq-eqb, ne_eqb, cond-true, cond-false}
use Rattle.text_laws.specs.Blanks.{is_white}
use Rattle.text_laws.proofs.TestLemmas.{by_bool}
use Rattle.pgm_grid.specs.declared.raster_fault.RasterFault.{RasterFault}
use Rattle.pgm_grid.specs.declared.raster_fault.RasterFault.TheVariants.{BadSample, AboveMaxval, Trailing, TooLong}
use Rattle.pgm_grid.specs.declared.raster_form.RasterForm.TheVariants.{Bytes, Words, Plain}
use Rattle.pgm_grid.specs.declared.raster_part.Limits.{Limits}
use Rattle.pgm_grid.specs.declared.raster_part.Digits.{Digits}
use Rattle.pgm_grid.specs.RasterProgress.{most_bytes, RasterAnswer, after, sample_then, end_at, bytes_from, words_from}
use Rattle.pgm_grid.specs.RasterProgress.{no_digits, with_digit, ended_then, plain_from, raster_of}
use Rattle.pgm_grid.specs.RasterLaws.{ReadRastersAreShort, LongRastersAreRefused}
use Rattle.pgm_grid.proofs.RasterLemmas.{after-append, after-nil, sample-passed, sample-refused}
use Rattle.pgm_grid.proofs.PlainLemmas.{plain-space, plain-full, plain-digit, plain-bad, plain-long}
use Rattle.pgm_grid.proofs.UnlimitedLemmas.{plain_unlimited, plain-within}
use Rattle.pgm_grid.proofs.OpenLemmas.{plain-open}

-- ---- answers that are not the limit

abbrev IsShort : RasterAnswer → Type 0
IsShort (Err TooLong) = ⊥
IsShort _ = ⊤

short-end : (l : Limits) (index : ℕ) → IsShort (end_at l index)
short-end l index =
    elim (cases_lt index l.count) as (λ _. IsShort (end_at l index)) [
      | inl less ↦ subst IsShort (sym (cond-true _ _ _ (lt-ltb index l.count less))) tt
      | inr full ↦ subst IsShort (sym (cond-false _ _ _ (le-ltb index l.count full))) tt
    ]

short-after : (samples : List ℕ) (r : RasterAnswer) → IsShort r → IsShort (after samples r)
short-after samples (Ok rest) w = tt
short-after samples (Err fault) w = w

short-sample : (l : Limits) (index sample : ℕ) (r : RasterAnswer) → IsShort r → IsShort (sample_then l index sample r)
short-sample l index sample r w =
    elim (cases_lt l.maxval sample) as (λ _. IsShort (sample_then l index sample r)) [
      | inl above ↦ subst IsShort (sym (sample-refused l index sample r above)) tt
      | inr fits ↦ subst IsShort (sym (sample-passed l index sample r fits)) (short-after (sample ∷ []) r w)
    ]

bytes-short : (l : Limits) (bytes : List ℕ) (index at : ℕ) → IsShort (bytes_from l index at bytes)
bytes-short l [] index at = short-end l index
bytes-short l (byte ∷ more) index at =
    elim (cases_lt index l.count) as (λ _. IsShort (bytes_from l index at (byte ∷ more))) [
      | inl less ↦ subst IsShort (sym (cond-true _ _ _ (lt-ltb index l.count less)))
          (short-sample l index byte (bytes_from l (index + 1) (at + 1) more) (bytes-short l more (index + 1) (at + 1)))
      | inr full ↦ subst IsShort (sym (cond-false _ _ _ (le-ltb index l.count full))) tt
    ]

words-short : (l : Limits) (bytes : List ℕ) (index at : ℕ) → IsShort (words_from l index None at bytes)
words-short l [] index at = short-end l index
words-short l (byte ∷ []) index at =
    elim (cases_lt index l.count) as (λ _. IsShort (words_from l index None at (byte ∷ []))) [
      | inl less ↦ subst IsShort (sym (cond-true _ _ _ (lt-ltb index l.count less))) (short-end l index)
      | inr full ↦ subst IsShort (sym (cond-false _ _ _ (le-ltb index l.count full))) tt
    ]
words-short l (high ∷ low ∷ more) index at =
    elim (cases_lt index l.count) as (λ _. IsShort (words_from l index None at (high ∷ low ∷ more))) [
      | inl less ↦ subst IsShort (sym (cond-true _ _ _ (lt-ltb index l.count less)))
          (short-sample l index (256 * high + low) (words_from l (index + 1) None (at + 1 + 1) more)
          (words-short l more (index + 1) (at + 1 + 1)))
      | inr full ↦ subst IsShort (sym (cond-false _ _ _ (le-ltb index l.count full))) tt
    ]

ended-short : (l : Limits) (index : ℕ) (digits : Digits) (rest : ℕ → RasterAnswer) → ((i : ℕ) → IsShort (rest i)) →
    IsShort (ended_then l index digits rest)
ended-short l index digits rest w =
    elim (cases_eq digits.count 0) as (λ _. IsShort (ended_then l index digits rest)) [
      | inl none ↦ subst IsShort (sym (cond-true _ _ _ (eq-eqb digits.count 0 none))) (w index)
      | inr some ↦ subst IsShort (sym (cond-false _ _ _ (ne_eqb digits.count 0 some)))
          (short-sample l index digits.value (rest (index + 1)) (w (index + 1)))
    ]

unlimited-short : (l : Limits) (bytes : List ℕ) (index : ℕ) (digits : Digits) (at : ℕ) →
    IsShort (plain_unlimited l index digits at bytes)
unlimited-short l [] index digits at = ended-short l index digits (λ i. end_at l i) (λ i. short-end l i)
unlimited-short l (byte ∷ more) index digits at =
    by_bool (is_white byte)
    (λ yes. subst IsShort (sym (cond-true _ _ _ yes)) (ended-short l index digits
    (λ i. plain_unlimited l i no_digits (at + 1) more) (λ i. unlimited-short l more i no_digits (at + 1))))
    (λ no. subst IsShort (sym (cond-false _ _ _ no)) (by_bool (nat_lt index l.count)
    (λ wanted. subst IsShort (sym (cond-true _ _ _ wanted)) (by_bool (is_ascii_digit byte && nat_lt digits.count 9)
    (λ digit. subst IsShort (sym (cond-true _ _ _ digit))
    (unlimited-short l more index (with_digit digits byte) (at + 1)))
    (λ bad. subst IsShort (sym (cond-false _ _ _ bad)) tt)))
    (λ full. subst IsShort (sym (cond-false _ _ _ full)) tt)))

-- ---- the bytes before the limit

-- one of them is refused, or what follows decides
abbrev pub Front : Limits → ℕ → Digits → ℕ → List ℕ → Type 0
Front l index digits at front =
    ((fault : RasterFault) × (fault ≡ TooLong → ⊥)
    × ((more : List ℕ) → plain_from l index digits at (front ++ more) ≡ Err fault))
    ⊎ ((samples : List ℕ) × (i : ℕ) × (next : Digits) × ((more : List ℕ) →
    plain_from l index digits at (front ++ more) ≡ after samples (plain_from l i next (at + length front) more)))

front-step : (l : Limits) (index i : ℕ) (digits next : Digits) (at byte : ℕ) (samples front : List ℕ) →
    ((more : List ℕ) → plain_from l index digits at (byte ∷ more) ≡ after samples (plain_from l i next (at + 1) more))
    → Front l i next (at + 1) front → Front l index digits at (byte ∷ front)
front-step l index i digits next at byte samples front step (inl w) =
    inl (w.0, w.1, λ more. step (front ++ more) ∙ ap (after samples) (w.2 more))
front-step l index i digits next at byte samples front step (inr w) =
    let e : at + 1 + length front ≡ at + suc (length front) = omega arith in
    inr (
      samples ++ w.0,
      w.1,
      w.2,
      λ more. step (front ++ more) ∙ ap (after samples) (w.3 more)
          ∙ sym (after-append samples w.0 (plain_from l w.1 w.2 (at + 1 + length front) more))
          ∙ ap (λ (p : ℕ). after (samples ++ w.0) (plain_from l w.1 w.2 p more)) e,
    )

front-none : (l : Limits) (index i : ℕ) (digits next : Digits) (at byte : ℕ) (front : List ℕ) →
    ((more : List ℕ) → plain_from l index digits at (byte ∷ more) ≡ plain_from l i next (at + 1) more)
    → Front l i next (at + 1) front → Front l index digits at (byte ∷ front)
front-none l index i digits next at byte front step w =
    front-step l index i digits next at byte [] front
    (λ more. step more ∙ sym (after-nil (plain_from l i next (at + 1) more))) w

-- bytes of a plain raster within the limit are refused whatever follows, or what follows decides
pub front-cases : (l : Limits) (front : List ℕ) (index : ℕ) (digits : Digits) (at : ℕ) → at + length front
    ≤ most_bytes → Front l index digits at front
front-cases l [] index digits at room =
    let e : at ≡ at + 0 = omega arith in
    inr (
      [],
      index,
      digits,
      λ more. ap (λ (p : ℕ). plain_from l index digits p more) e
          ∙ sym (after-nil (plain_from l index digits (at + 0) more)),
    )
front-cases l (byte ∷ front) index digits at room =
    let within : at < most_bytes = omega arith in
    let next_room : at + 1 + length front ≤ most_bytes = omega arith in
    by_bool (is_white byte)
    (λ yes. elim (cases_eq digits.count 0) as (λ _. Front l index digits at (byte ∷ front)) [
      | inl none ↦ front-none l index index digits no_digits at byte front
          (λ more. plain-space l index digits at byte more within yes ∙ cond-true _ _ _ (eq-eqb digits.count 0 none))
          (front-cases l front index no_digits (at + 1) next_room)
      | inr some ↦ elim (cases_lt l.maxval digits.value) as (λ _. Front l index digits at (byte ∷ front)) [
        | inl above ↦ inl (
          AboveMaxval index,
          λ e. absurd (cc),
          λ more. sample within yes some (front ++ more) ∙ sample-refused l index digits.value _ above,
        )
        | inr fits ↦ front-step l index (index + 1) digits no_digits at byte (digits.value ∷ []) front
            (λ more. sample within yes some more ∙ sample-passed l index digits.value _ fits)
            (front-cases l front (index + 1) no_digits (at + 1) next_room)
      ]
    ])
    (λ no. elim (cases_lt index l.count) as (λ _. Front l index digits at (byte ∷ front)) [
      | inl less ↦ by_bool (is_ascii_digit byte && nat_lt digits.count 9)
          (λ digit. front-none l index index digits (with_digit digits byte) at byte front
          (λ more. plain-digit l index digits at byte more within no less digit)
          (front-cases l front index (with_digit digits byte) (at + 1) next_room))
          (λ bad. inl (
            BadSample at,
            λ e. absurd (cc),
            λ more. plain-bad l index digits at byte (front ++ more) within no less bad,
          ))
      | inr full ↦
          inl (Trailing at, λ e. absurd (cc), λ more. plain-full l index digits at byte (front ++ more) within no full)
    ])
  where
    sample : at < most_bytes → is_white byte ≡ true → (digits.count ≡ 0 → ⊥) → (more : List ℕ) →
        plain_from l index digits at (byte ∷ more)
        ≡ sample_then l index digits.value (plain_from l (index + 1) no_digits (at + 1) more)
    sample within space some more =
        plain-space l index digits at byte more within space ∙ cond-false _ _ _ (ne_eqb digits.count 0 some)

-- ---- bytes that go beyond the limit

-- a byte before the limit is refused, or the limit is answered
abbrev Beyond : Limits → ℕ → List ℕ → Type 0
Beyond l at bytes =
    ((fault : RasterFault) × (fault ≡ TooLong → ⊥)
    × ((more : List ℕ) → plain_from l 0 no_digits at (take (2 ^ 28 - at) bytes ++ more) ≡ Err fault)
    × (plain_from l 0 no_digits at bytes ≡ Err fault))
    ⊎ ((plain_from l 0 no_digits at bytes ≡ Err TooLong) × ((fault : RasterFault) →
    ((more : List ℕ) → plain_from l 0 no_digits at (take (2 ^ 28 - at) bytes ++ more) ≡ Err fault) → ⊥))

beyond : (l : Limits) (at : ℕ) (bytes : List ℕ) → at ≤ 2 ^ 28 → 2 ^ 28 < at + length bytes → Beyond l at bytes
beyond l at bytes place long =
    let size : length (take (2 ^ 28 - at) bytes) ≡ 2 ^ 28 - at = length-take-le (2 ^ 28 - at) bytes (omega arith) in
    let left : length (drop (2 ^ 28 - at) bytes) ≡ length bytes - (2 ^ 28 - at) = length-drop (2 ^ 28 - at) bytes in
    let whole : bytes ≡ take (2 ^ 28 - at) bytes ++ drop (2 ^ 28 - at) bytes =
    sym (take-append-drop (2 ^ 28 - at) bytes) in
    by_front (take (2 ^ 28 - at) bytes) (drop (2 ^ 28 - at) bytes) whole refl (omega arith) (omega arith)
  where
    by_front : (front rest : List ℕ) → bytes ≡ front ++ rest →
        take (2 ^ 28 - at) bytes ≡ front → at + length front ≡ most_bytes → 0 < length rest → Beyond l at bytes
    by_front front rest whole first here some =
        elim (front-cases l front 0 no_digits at (omega arith)) as (λ _. Beyond l at bytes) [
          | inl w ↦ inl (
            w.0,
            w.1,
            λ more. ap (λ (s : List ℕ). plain_from l 0 no_digits at (s ++ more)) first ∙ w.2 more,
            ap (plain_from l 0 no_digits at) whole ∙ w.2 rest,
          )
          | inr w ↦ inr (
            ap (plain_from l 0 no_digits at) whole ∙ w.3 rest
                ∙ ap (after w.0) (plain-long l w.1 w.2 (at + length front) rest here some),
            λ fault. λ all. plain-open l w.0 w.1 w.2 (at + length front) fault (omega arith) (λ more. sym (w.3 more)
                ∙ ap (λ (s : List ℕ). plain_from l 0 no_digits at (s ++ more)) (sym first) ∙ all more),
          )
        ]

-- ---- the laws

-- a plain raster that is read ends within the most bytes of a file
pub short : ReadRastersAreShort
unfolding raster_of
short count maxval at samples bytes e place =
    let l : Limits = record { count = count; maxval = maxval } in
    elim (cases_lt (2 ^ 28) (at + length bytes)) as (λ _. at + length bytes ≤ 2 ^ 28) [
      | inl long ↦ absurd (elim (beyond l at bytes place long) as (λ _. ⊥) [
        | inl w ↦ let bad : ◌≡◌ {A = RasterAnswer} (Ok samples) (Err w.0) = sym e ∙ w.3 in absurd (cc)
        | inr w ↦ let bad : ◌≡◌ {A = RasterAnswer} (Ok samples) (Err TooLong) = sym e ∙ w.0 in absurd (cc)
      ])
      | inr fits ↦ fits
    ]

plain_long : (count maxval at : ℕ) (bytes : List ℕ) → at ≤ 2 ^ 28 →
    plain_from (record { count = count; maxval = maxval }) 0 no_digits at bytes ≡ Err TooLong
    → (2 ^ 28 < at + length bytes) × ((fault : RasterFault) → ((more : List ℕ) → plain_from
    (record { count = count; maxval = maxval }) 0 no_digits at (take (2 ^ 28 - at) bytes ++ more) ≡ Err fault) → ⊥)
plain_long count maxval at bytes place e =
    let l : Limits = record { count = count; maxval = maxval } in
    elim (cases_lt (2 ^ 28) (at + length bytes)) as (λ _. (2 ^ 28 < at + length bytes) × ((fault : RasterFault) →
    ((more : List ℕ) → plain_from l 0 no_digits at (take (2 ^ 28 - at) bytes ++ more) ≡ Err fault) → ⊥)) [
      | inl long ↦ elim (beyond l at bytes place long) as (λ _. (2 ^ 28 < at + length bytes) × ((fault : RasterFault) →
          ((more : List ℕ) → plain_from l 0 no_digits at (take (2 ^ 28 - at) bytes ++ more) ≡ Err fault) → ⊥)) [
            | inl w ↦ absurd (w.1 (let same : ◌≡◌ {A = RasterAnswer} (Err w.0) (Err TooLong) = sym w.3 ∙ e in cc))
            | inr w ↦ (long, w.1)
          ]
      | inr fits ↦ absurd (subst IsShort (sym (plain-within l bytes 0 no_digits at (omega arith)) ∙ e)
          (unlimited-short l bytes 0 no_digits at))
    ]

-- a raster is too long exactly where it is plain, goes beyond the limit, and none of its bytes before it is refused
pub too_long : LongRastersAreRefused
unfolding raster_of
too_long Bytes count maxval at bytes place = (
  (λ e. absurd (subst IsShort e (bytes-short (record { count = count; maxval = maxval }) bytes 0 at))),
  (λ w. absurd (let e : Bytes ≡ Plain = w.0 in cc)),
)
too_long Words count maxval at bytes place = (
  (λ e. absurd (subst IsShort e (words-short (record { count = count; maxval = maxval }) bytes 0 at))),
  (λ w. absurd (let e : Words ≡ Plain = w.0 in cc)),
)
too_long Plain count maxval at bytes place =
    let l : Limits = record { count = count; maxval = maxval } in (
      (λ e. let far = plain_long count maxval at bytes place e in (refl, far.0, far.1)),
      (λ w. elim (beyond l at bytes place w.1) as (λ _. plain_from l 0 no_digits at bytes ≡ Err TooLong) [
        | inl r ↦ absurd (w.2 r.0 r.2)
        | inr r ↦ r.0
      ]),
    )
