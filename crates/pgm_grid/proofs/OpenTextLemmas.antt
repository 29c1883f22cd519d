-- Plain rasters none of whose bytes is refused, in the words of the format.
use Rattle.std.proofs.Common.{◌≡◌, ℕ, ◌+◌, ◌-◌, ◌<◌, ◌≤◌, ◌⊎◌, inl, inr, true, false, ◌&&◌, nat_lt, List, [], ◌∷◌, ◌++◌}
use Rattle.std.proofs.Common.{length, Err, refl, sym, ap, ap₂, ◌∙◌, subst, arith, All, append_assoc, append-nil}
use Rattle.std.proofs.Common.{length-append}
use Rattle.std.specs.Char.{is_ascii_digit}
use Rattle.std.proofs.lemmas.List.{length_push}
use Rattle.std.proofs.lemmas.List.Elements.{All-nil, All-cons, All-append, All-push}
use Rattle.std.proofs.lemmas.Bool.{cases_lt, lt-ltb, le-ltb, ne_eqb, cond-true, cond-false}
use Rattle.text_laws.specs.Digits.{IsDigit, value_of}
use Rattle.text_laws.specs.Blanks.{IsWhite, is_white}
use Rattle.text_laws.proofs.TestLemmas.{by_bool}
use Rattle.text_laws.proofs.DigitLemmas.{digit-yes}
use Rattle.text_laws.proofs.BlankLemmas.{white-yes}
use Rattle.pgm_grid.specs.declared.raster_fault.RasterFault.{RasterFault}
use Rattle.pgm_grid.specs.declared.raster_fault.RasterFault.TheVariants.{BadSample, AboveMaxval, Trailing, TooLong}
use Rattle.pgm_grid.specs.declared.raster_form.RasterForm.TheVariants.{Plain}
use Rattle.pgm_grid.specs.declared.raster_part.Limits.{Limits}
use Rattle.pgm_grid.specs.declared.raster_part.Digits.{Digits}
use Rattle.pgm_grid.specs.RasterText.{AreEndedTexts, IsRasterOpen}
use Rattle.pgm_grid.specs.RasterProgress.{most_bytes, after, sample_then, no_digits, plain_from, raster_of}
use Rattle.pgm_grid.specs.RasterLaws.{OpenRastersAreUnrefused}
use Rattle.pgm_grid.proofs.RasterLemmas.{sample-passed, sample-refused, after-err}
use Rattle.pgm_grid.proofs.PlainLemmas.{plain-space, plain-full, plain-digit, plain-bad}
use Rattle.pgm_grid.proofs.UnlimitedLemmas.{plain_unlimited, plain-within, agreed}
use Rattle.pgm_grid.proofs.RasterLawLemmas.{ended_texts-append, digits_of, digits-push, plain-read, digits-read, no_fewer}
use Rattle.pgm_grid.proofs.OpenLemmas.{IsEndFault, same_fault, digits-end}

-- behind some more samples
open-more : (big small maxval : ℕ) (vs p rest : List ℕ) → AreEndedTexts vs p → All (λ h. h ≤ maxval) vs →
    small + length vs ≡ big → IsRasterOpen small maxval rest → IsRasterOpen big maxval (p ++ rest)
open-more big small maxval vs p rest ended fits room w = record {
  samples = vs ++ w.samples;
  front = p ++ w.front;
  digits = w.digits;
  whole = ap (λ (s : List ℕ). p ++ s) w.whole ∙ sym (append_assoc p w.front w.digits);
  ended = ended_texts-append vs w.samples p w.front ended w.ended;
  short = w.short;
  are = w.are;
  bound = All-append (λ h. h ≤ maxval) vs w.samples fits w.bound;
  room = omega (arith, length-append vs w.samples, w.room);
  wanted = λ some.
      let less : length w.samples < small = w.wanted some in
      omega (arith, length-append vs w.samples, less);
}

-- ---- bytes of which none is refused are open

-- one of them is refused, or they are open, where these digits came before
abbrev OpenOr : Limits → ℕ → ℕ → List ℕ → List ℕ → Type 0
OpenOr l index at text bytes =
    ((fault : RasterFault) × ((more : List ℕ) → plain_from l index (digits_of text) at (bytes ++ more) ≡ Err fault))
    ⊎ IsRasterOpen (l.count - index) l.maxval (text ++ bytes)

-- whitespace behind no digits, and behind some
space-none : (l : Limits) (index at byte : ℕ) (bytes : List ℕ) → at < most_bytes → is_white byte ≡ true →
    OpenOr l index (at + 1) [] bytes → OpenOr l index at [] (byte ∷ bytes)
space-none l index at byte bytes within space (inl w) =
    inl (w.0, λ more. plain-space l index no_digits at byte (bytes ++ more) within space ∙ w.1 more)
space-none l index at byte bytes within space (inr w) =
    inr (open-more (l.count - index) (l.count - index) l.maxval [] (byte ∷ []) bytes (All-cons IsWhite byte []
    (white-yes byte space) (All-nil IsWhite)) (All-nil (λ h. h ≤ l.maxval)) (omega arith) w)

space-some : (l : Limits) (index at byte : ℕ) (text bytes : List ℕ) → at < most_bytes → is_white byte ≡ true →
    0 < length text → length text ≤ 9 → All IsDigit text → index < l.count → OpenOr l (index + 1) (at + 1) [] bytes
    → OpenOr l index at text (byte ∷ bytes)
space-some l index at byte text bytes within space some short are wanted again =
    elim (cases_lt l.maxval (value_of text)) as (λ _. OpenOr l index at text (byte ∷ bytes)) [
      | inl above ↦ inl (
        AboveMaxval index,
        λ more. sample more ∙ sample-refused l index (value_of text)
            (plain_from l (index + 1) no_digits (at + 1) (bytes ++ more)) above,
      )
      | inr fits ↦ elim again as (λ _. OpenOr l index at text (byte ∷ bytes)) [
        | inl w ↦ inl (
          w.0,
          λ more. sample more
              ∙ sample-passed l index (value_of text) (plain_from l (index + 1) no_digits (at + 1) (bytes ++ more)) fits
              ∙ ap (after (value_of text ∷ [])) (w.1 more),
        )
        | inr w ↦ inr (subst (IsRasterOpen (l.count - index) l.maxval) (append_assoc text (byte ∷ []) bytes)
            (open-more (l.count - index) (l.count - (index + 1)) l.maxval (value_of text ∷ [])
            (text ++ byte ∷ []) bytes one
            (All-cons (λ h. h ≤ l.maxval) (value_of text) [] fits (All-nil (λ h. h ≤ l.maxval))) (omega arith) w))
      ]
    ]
  where
    one : AreEndedTexts (value_of text ∷ []) (text ++ byte ∷ [])
    one = (
      [],
      text,
      byte,
      [],
      refl,
      All-nil IsWhite,
      record { some = some; short = short; digits = are; value = refl },
      white-yes byte space,
      All-nil IsWhite,
    )

    sample : (more : List ℕ) → plain_from l index (digits_of text) at (byte ∷ (bytes ++ more))
        ≡ sample_then l index (value_of text) (plain_from l (index + 1) no_digits (at + 1) (bytes ++ more))
    sample more = plain-space l index (digits_of text) at byte (bytes ++ more) within space
        ∙ cond-false _ _ _ (ne_eqb (length text) 0 (λ e. omega arith))

space-open : (l : Limits) (index at byte : ℕ) (text bytes : List ℕ) → at < most_bytes → is_white byte ≡ true →
    length text ≤ 9 → All IsDigit text → (0 < length text → index < l.count)
    → OpenOr l index (at + 1) [] bytes → (index < l.count → OpenOr l (index + 1) (at + 1) [] bytes) →
    OpenOr l index at text (byte ∷ bytes)
space-open l index at byte [] bytes within space short are wanted same next =
    space-none l index at byte bytes within space same
space-open l index at byte (digit ∷ text) bytes within space short are wanted same next =
    let less : index < l.count = wanted (omega arith) in
    space-some l index at byte (digit ∷ text) bytes within space (omega arith) short are less (next less)

-- one more digit
digit-open : (l : Limits) (index at byte : ℕ) (text bytes : List ℕ) → at < most_bytes → is_white byte ≡ false →
    index < l.count → (is_ascii_digit byte && nat_lt (length text) 9) ≡ true
    → OpenOr l index (at + 1) (text ++ byte ∷ []) bytes → OpenOr l index at text (byte ∷ bytes)
digit-open l index at byte text bytes within space wanted digit (inl w) =
    inl (
      w.0,
      λ more. plain-digit l index (digits_of text) at byte (bytes ++ more) within space wanted digit
          ∙ ap (λ (d : Digits). plain_from l index d (at + 1) (bytes ++ more)) (digits-push text byte) ∙ w.1 more,
    )
digit-open l index at byte text bytes within space wanted digit (inr w) =
    inr (subst (IsRasterOpen (l.count - index) l.maxval) (append_assoc text (byte ∷ []) bytes) w)

digit-both : (byte n : ℕ) → (is_ascii_digit byte && nat_lt n 9) ≡ true → IsDigit byte × (n < 9)
digit-both byte n h =
    by_bool (is_ascii_digit byte)
    (λ digit. elim (cases_lt n 9) as (λ _. IsDigit byte × (n < 9)) [
      | inl fewer ↦ (digit-yes byte digit, fewer)
      | inr nine ↦
          absurd (let bad : true ≡ false = sym h ∙ ap₂ (λ (a : _) (b : _). a && b) digit (le-ltb n 9 nine) in cc)
    ])
    (λ other. absurd (let bad : true ≡ false = sym h ∙ ap (λ (a : _). a && nat_lt n 9) other in cc))

open-or : (l : Limits) (bytes : List ℕ) (index at : ℕ) (text : List ℕ) → index ≤ l.count → All IsDigit text →
    length text ≤ 9 → (0 < length text → index < l.count) → at + length bytes ≤ most_bytes →
    OpenOr l index at text bytes
open-or l [] index at text room are short wanted place = inr (record {
  samples = [];
  front = [];
  digits = text;
  whole = append-nil text;
  ended = All-nil IsWhite;
  short = short;
  are = are;
  bound = All-nil (λ h. h ≤ l.maxval);
  room = omega arith;
  wanted = λ some. let less : index < l.count = wanted some in omega arith;
})
open-or l (byte ∷ bytes) index at text room are short wanted place =
    let within : at < most_bytes = omega arith in
    let next_place : at + 1 + length bytes ≤ most_bytes = omega arith in
    by_bool (is_white byte)
    (λ space. space-open l index at byte text bytes within space short are wanted
    (open-or l bytes index (at + 1) [] room (All-nil IsDigit) (omega arith) (λ some. absurd (omega arith)) next_place)
    (λ less. open-or l bytes (index + 1) (at + 1) [] (omega arith) (All-nil IsDigit) (omega arith)
    (λ some. absurd (omega arith)) next_place))
    (λ other. elim (cases_lt index l.count) as (λ _. OpenOr l index at text (byte ∷ bytes)) [
      | inl less ↦ by_bool (is_ascii_digit byte && nat_lt (length text) 9)
          (λ digit. let both = digit-both byte (length text) digit in
          digit-open l index at byte text bytes within other less digit
          (open-or l bytes index (at + 1) (text ++ byte ∷ []) room (All-push IsDigit text byte are both.0)
          (omega (arith, length_push text byte, both.1)) (λ _. less) next_place))
          (λ bad. inl
          (BadSample at, λ more. plain-bad l index (digits_of text) at byte (bytes ++ more) within other less bad))
      | inr full ↦
          inl (Trailing at, λ more. plain-full l index (digits_of text) at byte (bytes ++ more) within other full)
    ])

-- ---- open bytes are not refused

digits-open : (l : Limits) (text : List ℕ) (index at : ℕ) (more : List ℕ) → (0 < length text → index < l.count) →
    All IsDigit text → length text ≤ 9
    → plain_unlimited l index no_digits at (text ++ more)
    ≡ plain_unlimited l index (digits_of text) (at + length text) more
digits-open l [] index at more wanted are short =
    let e : at ≡ at + 0 = omega arith in
    ap (λ (p : ℕ). plain_unlimited l index no_digits p more) e
digits-open l (byte ∷ text) index at more wanted are short =
    digits-read l (byte ∷ text) [] index at more (wanted (omega arith)) are (omega arith)

open-read : (l : Limits) (bytes : List ℕ) (at : ℕ) (more : List ℕ) (w : IsRasterOpen l.count l.maxval bytes)
    → plain_unlimited l 0 no_digits at (bytes ++ more) ≡ after w.samples
    (plain_unlimited l (0 + length w.samples) (digits_of w.digits) (at + length w.front + length w.digits) more)
open-read l bytes at more w =
    ap (λ (s : List ℕ). plain_unlimited l 0 no_digits at (s ++ more)) w.whole
    ∙ ap (plain_unlimited l 0 no_digits at) (append_assoc w.front w.digits more)
    ∙ plain-read l w.samples w.front 0 at (w.digits ++ more) w.ended (omega (arith, w.room)) w.bound
    ∙ ap (after w.samples) (digits-open l w.digits (0 + length w.samples) (at + length w.front) more
    (λ some. let less : length w.samples < l.count = w.wanted some in omega arith) w.are w.short)

unlimited-x : (l : Limits) (index : ℕ) (digits : Digits) (at : ℕ) (f : RasterFault) →
    plain_unlimited l index digits at (120 ∷ []) ≡ Err f → IsEndFault f → ⊥
unlimited-x l index digits at f e ends =
    elim (cases_lt index l.count) as (λ _. ⊥) [
      | inl less ↦ subst IsEndFault (same_fault (plain_unlimited l index digits at (120 ∷ [])) f (BadSample at) e
          (cond-true _ _ _ (lt-ltb index l.count less))) ends
      | inr full ↦ subst IsEndFault (same_fault (plain_unlimited l index digits at (120 ∷ [])) f (Trailing at) e
          (cond-false _ _ _ (le-ltb index l.count full))) ends
    ]

open-unrefused : (l : Limits) (bytes : List ℕ) (at : ℕ) → at + length bytes ≤ most_bytes →
    IsRasterOpen l.count l.maxval bytes → (fault : RasterFault) →
    ((more : List ℕ) → plain_from l 0 no_digits at (bytes ++ more) ≡ Err fault) → ⊥
open-unrefused l bytes at place w fault all =
    let size : length (bytes ++ []) ≡ length bytes = ap length (append-nil bytes) in
    let ends : IsEndFault fault =
    digits-end l (0 + length w.samples) (digits_of w.digits) fault
    (after-err w.samples
    (plain_unlimited l (0 + length w.samples) (digits_of w.digits) (at + length w.front + length w.digits) []) fault
    (sym (open-read l bytes at [] w) ∙ sym (plain-within l (bytes ++ []) 0 no_digits at (omega arith)) ∙ all [])) in
    agreed Plain l at (bytes ++ 120 ∷ []) (λ r. r ≡ Err fault → ⊥)
    (λ e. subst IsEndFault (same_fault (Err TooLong) fault TooLong e refl) ends)
    (λ e. unlimited-x l (0 + length w.samples) (digits_of w.digits) (at + length w.front + length w.digits) fault
    (after-err w.samples (plain_unlimited l (0 + length w.samples) (digits_of w.digits)
    (at + length w.front + length w.digits) (120 ∷ [])) fault (sym (open-read l bytes at (120 ∷ []) w) ∙ e)) ends)
    (all (120 ∷ []))

-- ---- the law

-- none of a plain raster's bytes is refused exactly where they are ended samples and digits of one still wanted
pub unrefused : OpenRastersAreUnrefused
unfolding raster_of
unrefused count maxval at front place =
    let l : Limits = record { count = count; maxval = maxval } in (
      (λ none. elim (open-or l front 0 at [] (omega arith) (All-nil IsDigit) (omega arith)
          (λ some. absurd (omega arith)) (omega arith)) as (λ _. IsRasterOpen count maxval front) [
            | inl w ↦ absurd (none w.0 w.1)
            | inr w ↦ subst (λ (n : ℕ). IsRasterOpen n maxval front) (no_fewer count) w
          ]),
      (λ w. λ fault. λ all. open-unrefused l front at (omega arith) w fault all),
    )
