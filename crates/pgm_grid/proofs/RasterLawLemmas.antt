-- What the bytes of a raster mean: the laws of `Laws`.
use Rattle.std.proofs.Common.{◌≡◌, ℕ, suc, ◌+◌, ◌-◌, ◌*◌, ◌/◌, ◌%◌, ◌<◌, ◌≤◌, ◌⊎◌, inl, inr, false, ◌&&◌, nat_lt, List}
use Rattle.std.proofs.Common.{[], ◌∷◌, ◌++◌, length, None, Ok, Err, refl, sym, ap, ap₂, ◌∙◌, subst, arith, All}
use Rattle.std.proofs.Common.{append_assoc, append-nil, length-append}
use Rattle.std.specs.List.{flat_map}
use Rattle.std.specs.Char.{is_ascii_digit}
use Rattle.std.proofs.lemmas.List.{length_push}
use Rattle.std.proofs.lemmas.List.Concat.{flat_map-append}
use Rattle.std.proofs.lemmas.List.Elements.{All-nil, All-cons, All-head, All-tail, All-append, All-push}
use Rattle.std.proofs.lemmas.Bool.{cases_lt, lt-ltb, le-ltb, cond-true, cond-false, ne_eqb, and_left, and_right}
use Rattle.text_laws.specs.Digits.{IsDigit, value_of}
use Rattle.text_laws.specs.Blanks.{IsWhite, is_white}
use Rattle.text_laws.specs.Words.{two_bytes, words_of}
use Rattle.text_laws.proofs.TestLemmas.{by_bool}
use Rattle.text_laws.proofs.DigitLemmas.{value-push, digit-yes, digit-no, digit-is, digit-isnt}
use Rattle.text_laws.proofs.BlankLemmas.{white-yes, white-no, white-is, white-isnt, digit-no_white}
use Rattle.text_laws.proofs.WordLemmas.{length-flat, words-flat, two_bytes-back}
use Rattle.text_laws.proofs.ListLemmas.{All-front, All-back}
use Rattle.pgm_grid.specs.declared.raster_fault.RasterFault.TheVariants.{BadSample, AboveMaxval, Trailing, Truncated}
use Rattle.pgm_grid.specs.declared.raster_fault.RasterFault.TheVariants.{TooLong}
use Rattle.pgm_grid.specs.declared.raster_form.RasterForm.{RasterForm}
use Rattle.pgm_grid.specs.declared.raster_form.RasterForm.TheVariants.{Bytes, Words, Plain}
use Rattle.pgm_grid.specs.declared.raster_part.Limits.{Limits}
use Rattle.pgm_grid.specs.declared.raster_part.Digits.{Digits}
use Rattle.pgm_grid.specs.RasterText.{IsSampleText, IsTextOfSample, AreEndedTexts, AreEnded, IsRaster, IsSampleCut}
use Rattle.pgm_grid.specs.RasterText.{IsRasterCutShort, IsStray, IsTrailingAt, EndsThere, IsAboveAt, IsBadSampleAt}
use Rattle.pgm_grid.specs.RasterProgress.{RasterAnswer, after, sample_then, end_at, bytes_from, words_from, no_digits}
use Rattle.pgm_grid.specs.RasterProgress.{with_digit, ended_then, rest_of, nothing_of, raster_of}
use Rattle.pgm_grid.specs.RasterLaws.{RastersAreRead, ReadBytesAreRasters}
use Rattle.pgm_grid.proofs.RasterLemmas.{after-append, after-nil, sample-passed, sample-refused, samples-passed}
use Rattle.pgm_grid.proofs.RasterLemmas.{bytes-samples, words-samples}
use Rattle.pgm_grid.proofs.UnlimitedLemmas.{plain_unlimited, rest_unlimited, unlimited-space, unlimited-full}
use Rattle.pgm_grid.proofs.UnlimitedLemmas.{unlimited-digit, rest-within, agreed}

-- ---- texts that are joined

-- the ended texts of some samples, and behind them those of others, are the ended texts of both
pub ended_texts-append : (a b p q : List ℕ) → AreEndedTexts a p → AreEndedTexts b q → AreEndedTexts (a ++ b) (p ++ q)
ended_texts-append [] [] p q x y = All-append IsWhite p q x y
ended_texts-append [] (s ∷ b) p q x y = (
  p ++ y.0,
  y.1,
  y.2,
  y.3,
  ap (λ (t : List ℕ). p ++ t) y.4 ∙ sym (append_assoc p y.0 (y.1 ++ y.2 ∷ y.3)),
  All-append IsWhite p y.0 x y.5,
  y.6,
  y.7,
  y.8,
)
ended_texts-append (s ∷ a) b p q x y = (
  x.0,
  x.1,
  x.2,
  x.3 ++ q,
  ap (λ (t : List ℕ). t ++ q) x.4 ∙ append_assoc x.0 (x.1 ++ x.2 ∷ x.3) q
      ∙ ap (λ (t : List ℕ). x.0 ++ t) (append_assoc x.1 (x.2 ∷ x.3) q),
  x.5,
  x.6,
  x.7,
  ended_texts-append a b x.3 q x.8 y,
)

ended-append : (f : RasterForm) (a b p q : List ℕ) → AreEnded f a p → AreEnded f b q → AreEnded f (a ++ b) (p ++ q)
ended-append Bytes a b p q x y = ap₂ (λ (s : List ℕ) (t : List ℕ). s ++ t) x y
ended-append Words a b p q x y = ap₂ (λ (s : List ℕ) (t : List ℕ). s ++ t) x y ∙ sym (flat_map-append two_bytes a b)
ended-append Plain a b p q x y = ended_texts-append a b p q x y

raster-append : (f : RasterForm) (a b p q : List ℕ) → AreEnded f a p → IsRaster f b q → IsRaster f (a ++ b) (p ++ q)
raster-append Bytes a b p q x y = ended-append Bytes a b p q x y
raster-append Words a b p q x y = ended-append Words a b p q x y
raster-append Plain a b p q x (inl y) = inl (ended_texts-append a b p q x y)
raster-append Plain a b p q x (inr y) = inr (
  a ++ y.0,
  y.1,
  p ++ y.2,
  y.3,
  ap (λ (s : List ℕ). a ++ s) y.4 ∙ sym (append_assoc a y.0 (y.1 ∷ [])),
  ap (λ (s : List ℕ). p ++ s) y.5 ∙ sym (append_assoc p y.2 y.3),
  ended_texts-append a y.0 p y.2 x y.6,
  y.7,
)

-- no samples in no bytes
nothing-ended : (f : RasterForm) → AreEnded f [] []
nothing-ended Bytes = refl
nothing-ended Words = refl
nothing-ended Plain = All-nil IsWhite

nothing-raster : (f : RasterForm) → IsRaster f [] []
nothing-raster Bytes = refl
nothing-raster Words = refl
nothing-raster Plain = inl (All-nil IsWhite)

nothing-cut : (f : RasterForm) → IsSampleCut f []
nothing-cut Bytes = refl
nothing-cut Words = omega arith
nothing-cut Plain = refl

-- ---- what an answer tells of the bytes, behind `index` samples

-- what the answer says of the bytes is so, in the words of the format; it never says that they are too long
abbrev pub Told : RasterForm → Limits → ℕ → ℕ → List ℕ → RasterAnswer → Type 0
Told f l index at bytes (Ok samples) =
    IsRaster f samples bytes × (index + length samples ≡ l.count) × All (λ h. h ≤ l.maxval) samples
Told f l index at bytes (Err Truncated) = IsRasterCutShort f (l.count - index) l.maxval bytes
Told f l index at bytes (Err (Trailing p)) =
    (place : ℕ) × (p ≡ at + place) × IsTrailingAt f (l.count - index) l.maxval bytes place
Told f l index at bytes (Err (AboveMaxval k)) =
    (j : ℕ) × (k ≡ index + j) × IsAboveAt f (l.count - index) l.maxval bytes j
Told f l index at bytes (Err (BadSample p)) =
    (f ≡ Plain) × (place : ℕ) × (p ≡ at + place) × IsBadSampleAt (l.count - index) l.maxval bytes place
Told f l index at bytes (Err TooLong) = ⊥

-- the same behind some more samples
told-more : (f : RasterForm) (l : Limits) (index at : ℕ) (vs p rest : List ℕ) (r : RasterAnswer) → AreEnded f vs p →
    All (λ h. h ≤ l.maxval) vs → index + length vs ≤ l.count
    → Told f l (index + length vs) (at + length p) rest r → Told f l index at (p ++ rest) (after vs r)
told-more f l index at vs p rest (Ok samples) ended fits room w = (
  raster-append f vs samples p rest ended w.0,
  omega (arith, length-append vs samples, w.1),
  All-append (λ h. h ≤ l.maxval) vs samples fits w.2,
)
told-more f l index at vs p rest (Err Truncated) ended fits room w = record {
  samples = vs ++ w.samples;
  text = p ++ w.text;
  cut = w.cut;
  whole = ap (λ (s : List ℕ). p ++ s) w.whole ∙ sym (append_assoc p w.text w.cut);
  raster = raster-append f vs w.samples p w.text ended w.raster;
  part = w.part;
  bound = All-append (λ h. h ≤ l.maxval) vs w.samples fits w.bound;
  fewer = omega (arith, length-append vs w.samples, w.fewer);
}
told-more f l index at vs p rest (Err (Trailing k)) ended fits room w = (
  length p + w.0,
  omega (arith, w.1),
  record {
    samples = vs ++ w.2.samples;
    front = p ++ w.2.front;
    byte = w.2.byte;
    more = w.2.more;
    whole = ap (λ (s : List ℕ). p ++ s) w.2.whole ∙ sym (append_assoc p w.2.front (w.2.byte ∷ w.2.more));
    at = omega (arith, length-append p w.2.front, w.2.at);
    ended = ended-append f vs w.2.samples p w.2.front ended w.2.ended;
    stray = w.2.stray;
    bound = All-append (λ h. h ≤ l.maxval) vs w.2.samples fits w.2.bound;
    all = omega (arith, length-append vs w.2.samples, w.2.all);
  },
)
told-more f l index at vs p rest (Err (AboveMaxval k)) ended fits room w = (
  length vs + w.0,
  omega (arith, w.1),
  record {
    samples = vs ++ w.2.samples;
    front = p ++ w.2.front;
    sample = w.2.sample;
    text = w.2.text;
    more = w.2.more;
    whole = ap (λ (s : List ℕ). p ++ s) w.2.whole ∙ sym (append_assoc p w.2.front (w.2.text ++ w.2.more));
    at = omega (arith, length-append vs w.2.samples, w.2.at);
    ended = ended-append f vs w.2.samples p w.2.front ended w.2.ended;
    next = w.2.next;
    ends = w.2.ends;
    bound = All-append (λ h. h ≤ l.maxval) vs w.2.samples fits w.2.bound;
    above = w.2.above;
    wanted = omega (arith, length-append vs w.2.samples, w.2.wanted);
  },
)
told-more f l index at vs p rest (Err (BadSample k)) ended fits room w = (
  w.0,
  length p + w.1,
  omega (arith, w.2),
  record {
    samples = vs ++ w.3.samples;
    front = p ++ w.3.front;
    digits = w.3.digits;
    byte = w.3.byte;
    more = w.3.more;
    whole = ap (λ (s : List ℕ). p ++ s) w.3.whole ∙ sym (append_assoc p w.3.front (w.3.digits ++ w.3.byte ∷ w.3.more));
    at = omega (arith, length-append p w.3.front, w.3.at);
    ended =
        ended_texts-append vs w.3.samples p w.3.front (subst (λ (k : RasterForm). AreEnded k vs p) w.0 ended) w.3.ended;
    short = w.3.short;
    are = w.3.are;
    no_space = w.3.no_space;
    bad = w.3.bad;
    bound = All-append (λ h. h ≤ l.maxval) vs w.3.samples fits w.3.bound;
    wanted = omega (arith, length-append vs w.3.samples, w.3.wanted);
  },
)
told-more f l index at vs p rest (Err TooLong) ended fits room w = w

-- ---- one sample, or the end

told-end : (f : RasterForm) (l : Limits) (index at : ℕ) → index ≤ l.count → Told f l index at [] (end_at l index)
told-end f l index at room =
    elim (cases_lt index l.count) as (λ _. Told f l index at [] (end_at l index)) [
      | inl less ↦ subst (Told f l index at []) (sym (cond-true _ _ _ (lt-ltb index l.count less)))
          (record {
            samples = [];
            text = [];
            cut = [];
            whole = refl;
            raster = nothing-raster f;
            part = nothing-cut f;
            bound = All-nil (λ h. h ≤ l.maxval);
            fewer = omega arith;
          })
      | inr more ↦ subst (Told f l index at []) (sym (cond-false _ _ _ (le-ltb index l.count more)))
          (nothing-raster f, omega arith, All-nil (λ h. h ≤ l.maxval))
    ]

told-sample : (f : RasterForm) (l : Limits) (index at sample : ℕ) (text p rest : List ℕ) (r : RasterAnswer) →
    index < l.count → IsTextOfSample f text sample → AreEnded f (sample ∷ []) p
    → (more : List ℕ) → p ++ rest ≡ text ++ more → EndsThere f more → Told f l (index + 1) (at + length p) rest r →
    Told f l index at (p ++ rest) (sample_then l index sample r)
told-sample f l index at sample text p rest r wanted is ended more whole ends w =
    elim (cases_lt l.maxval sample) as (λ _. Told f l index at (p ++ rest) (sample_then l index sample r)) [
      | inl above ↦ subst (Told f l index at (p ++ rest)) (sym (sample-refused l index sample r above)) (
        0,
        omega arith,
        record {
          samples = [];
          front = [];
          sample = sample;
          text = text;
          more = more;
          whole = whole;
          at = refl;
          ended = nothing-ended f;
          next = is;
          ends = ends;
          bound = All-nil (λ h. h ≤ l.maxval);
          above = above;
          wanted = omega arith;
        },
      )
      | inr fits ↦ subst (Told f l index at (p ++ rest)) (sym (sample-passed l index sample r fits))
          (told-more f l index at (sample ∷ []) p rest r ended
          (All-cons (λ h. h ≤ l.maxval) sample [] fits (All-nil (λ h. h ≤ l.maxval))) (omega arith) w)
    ]

told-trailing : (f : RasterForm) (l : Limits) (index at byte : ℕ) (more : List ℕ) → index ≡ l.count → IsStray f byte →
    Told f l index at (byte ∷ more) (Err (Trailing at))
told-trailing f l index at byte more full stray = (
  0,
  omega arith,
  record {
    samples = [];
    front = [];
    byte = byte;
    more = more;
    whole = refl;
    at = refl;
    ended = nothing-ended f;
    stray = stray;
    bound = All-nil (λ h. h ≤ l.maxval);
    all = omega arith;
  },
)

-- ---- what the bytes of a raw raster are

-- what the answer says of a raw raster, one byte a sample, is so
pub bytes-told : (l : Limits) (bytes : List ℕ) (index at : ℕ) → index ≤ l.count →
    Told Bytes l index at bytes (bytes_from l index at bytes)
bytes-told l [] index at room = told-end Bytes l index at room
bytes-told l (byte ∷ more) index at room =
    elim (cases_lt index l.count) as (λ _. Told Bytes l index at (byte ∷ more) (bytes_from l index at (byte ∷ more))) [
      | inl less ↦ subst (Told Bytes l index at (byte ∷ more)) (sym (cond-true _ _ _ (lt-ltb index l.count less)))
          (told-sample Bytes l index at byte (byte ∷ []) (byte ∷ []) more (bytes_from l (index + 1) (at + 1) more) less
          refl refl more refl tt (bytes-told l more (index + 1) (at + 1) (omega arith)))
      | inr full ↦ subst (Told Bytes l index at (byte ∷ more)) (sym (cond-false _ _ _ (le-ltb index l.count full)))
          (told-trailing Bytes l index at byte more (omega arith) tt)
    ]

-- the same of two bytes a sample
pub words-told : (l : Limits) (bytes : List ℕ) (index at : ℕ) → index ≤ l.count → All (λ b. b < 256) bytes →
    Told Words l index at bytes (words_from l index None at bytes)
words-told l [] index at room all = told-end Words l index at room
words-told l (byte ∷ []) index at room all =
    elim (cases_lt index l.count) as (λ _. Told Words l index at (byte ∷ []) (words_from l index None at (byte ∷ []))) [
      | inl less ↦ subst (Told Words l index at (byte ∷ []))
          (sym (cond-true _ _ _ (lt-ltb index l.count less) ∙ cond-true _ _ _ (lt-ltb index l.count less)))
          (record {
            samples = [];
            text = [];
            cut = byte ∷ [];
            whole = refl;
            raster = refl;
            part = omega arith;
            bound = All-nil (λ h. h ≤ l.maxval);
            fewer = omega arith;
          })
      | inr full ↦ subst (Told Words l index at (byte ∷ [])) (sym (cond-false _ _ _ (le-ltb index l.count full)))
          (told-trailing Words l index at byte [] (omega arith) tt)
    ]
words-told l (high ∷ low ∷ more) index at room all =
    let first : high < 256 = All-head (λ b. b < 256) high (low ∷ more) all in
    let rest : All (λ b. b < 256) (low ∷ more) = All-tail (λ b. b < 256) high (low ∷ more) all in
    let is : high ∷ low ∷ [] ≡ two_bytes (256 * high + low) =
    two_bytes-back high low first (All-head (λ b. b < 256) low more rest) in
    let place : at + 1 + 1 ≡ at + 2 = omega arith in
    elim (cases_lt index l.count) as (λ _.
    Told Words l index at (high ∷ low ∷ more) (words_from l index None at (high ∷ low ∷ more))) [
      | inl less ↦ subst (Told Words l index at (high ∷ low ∷ more)) (sym (cond-true _ _ _ (lt-ltb index l.count less)))
          (told-sample Words l index at (256 * high + low) (high ∷ low ∷ []) (high ∷ low ∷ []) more
          (words_from l (index + 1) None (at + 1 + 1) more) less is is more refl tt
          (subst (λ (p : ℕ). Told Words l (index + 1) p more (words_from l (index + 1) None (at + 1 + 1) more)) place
          (words-told l more (index + 1) (at + 1 + 1) (omega arith) (All-tail (λ b. b < 256) low more rest))))
      | inr full ↦ subst (Told Words l index at (high ∷ low ∷ more))
          (sym (cond-false _ _ _ (le-ltb index l.count full)))
          (told-trailing Words l index at high (low ∷ more) (omega arith) tt)
    ]

-- ---- what the bytes of a plain raster are

-- the digits of this text
abbrev pub digits_of : List ℕ → Digits
digits_of text = record { count = length text; value = value_of text }

-- one more digit behind those of a text makes the digits of the text with it
pub digits-push : (text : List ℕ) (byte : ℕ) → with_digit (digits_of text) byte ≡ digits_of (text ++ byte ∷ [])
digits-push text byte =
    ap₂ (λ (c : ℕ) (v : ℕ). let d : Digits = record { count = c; value = v } in d) (sym (length_push text byte))
    (sym (value-push text byte))

-- some digits are ended
pending : (l : Limits) (index : ℕ) (text : List ℕ) (rest : ℕ → RasterAnswer) → 0 < length text →
    ended_then l index (digits_of text) rest ≡ sample_then l index (value_of text) (rest (index + 1))
pending l index text rest some = cond-false _ _ _ (ne_eqb (length text) 0 (λ e. omega arith))

abbrev PlainTold : Limits → List ℕ → Type 0
PlainTold l bytes =
    (index at : ℕ) (text : List ℕ) → index ≤ l.count → All IsDigit text → length text ≤ 9 →
    (0 < length text → index < l.count) →
    Told Plain l index at (text ++ bytes) (plain_unlimited l index (digits_of text) (at + length text) bytes)

plain-end : (l : Limits) → PlainTold l []
plain-end l index at [] room are short wanted = told-end Plain l index at room
plain-end l index at (digit ∷ text) room are short wanted =
    subst (Told Plain l index at ((digit ∷ text) ++ []))
    (sym (pending l index (digit ∷ text) (λ i. end_at l i) (omega arith)))
    (last (digit ∷ text) (record { some = omega arith; short = short; digits = are; value = refl })
    (wanted (omega arith)))
  where
    open_end : (t : List ℕ) → IsSampleText t (value_of t) → IsRaster Plain (value_of t ∷ []) t
    open_end t is = inr ([], value_of t, [], t, refl, refl, All-nil IsWhite, is)

    whole : (t : List ℕ) → IsSampleText t (value_of t) → index < l.count → value_of t ≤ l.maxval →
        Told Plain l index at t (after (value_of t ∷ []) (end_at l (index + 1)))
    whole t is less fits =
        let bound : All (λ h. h ≤ l.maxval) (value_of t ∷ []) =
        All-cons (λ h. h ≤ l.maxval) (value_of t) [] fits (All-nil (λ h. h ≤ l.maxval)) in
        elim (cases_lt (index + 1) l.count) as (λ _.
        Told Plain l index at t (after (value_of t ∷ []) (end_at l (index + 1)))) [
          | inl fewer ↦ subst (λ (r : RasterAnswer). Told Plain l index at t (after (value_of t ∷ []) r))
              (sym (cond-true _ _ _ (lt-ltb (index + 1) l.count fewer)))
              (record {
                samples = value_of t ∷ [];
                text = t;
                cut = [];
                whole = sym (append-nil t);
                raster = open_end t is;
                part = refl;
                bound = bound;
                fewer = omega arith;
              })
          | inr all ↦ subst (λ (r : RasterAnswer). Told Plain l index at t (after (value_of t ∷ []) r))
              (sym (cond-false _ _ _ (le-ltb (index + 1) l.count all)))
              (open_end t is, omega arith, bound)
        ]

    last : (t : List ℕ) → IsSampleText t (value_of t) → index < l.count →
        Told Plain l index at (t ++ []) (sample_then l index (value_of t) (end_at l (index + 1)))
    last t is less =
        subst (λ (s : List ℕ). Told Plain l index at s (sample_then l index (value_of t) (end_at l (index + 1))))
        (sym (append-nil t))
        (elim (cases_lt l.maxval (value_of t)) as (λ _.
        Told Plain l index at t (sample_then l index (value_of t) (end_at l (index + 1)))) [
          | inl above ↦ subst (Told Plain l index at t)
              (sym (sample-refused l index (value_of t) (end_at l (index + 1)) above)) (
                0,
                omega arith,
                record {
                  samples = [];
                  front = [];
                  sample = value_of t;
                  text = t;
                  more = [];
                  whole = sym (append-nil t);
                  at = refl;
                  ended = All-nil IsWhite;
                  next = is;
                  ends = tt;
                  bound = All-nil (λ h. h ≤ l.maxval);
                  above = above;
                  wanted = omega arith;
                },
              )
          | inr fits ↦ subst (Told Plain l index at t)
              (sym (sample-passed l index (value_of t) (end_at l (index + 1)) fits)) (whole t is less fits)
        ])

-- whitespace comes
plain-ended : (l : Limits) (byte : ℕ) (more : List ℕ) → PlainTold l more → IsWhite byte →
    (index at : ℕ) (text : List ℕ) → index ≤ l.count → All IsDigit text → length text ≤ 9 →
    (0 < length text → index < l.count)
    → Told Plain l index at (text ++ byte ∷ more)
    (ended_then l index (digits_of text) (λ i. plain_unlimited l i no_digits (at + length text + 1) more))
plain-ended l byte more again space index at [] room are short wanted =
    let e : at + 1 + 0 ≡ at + 0 + 1 = omega arith in
    let i : index ≡ index + 0 = omega arith in
    let before : All IsWhite (byte ∷ []) = All-cons IsWhite byte [] space (All-nil IsWhite) in
    let rest : Told Plain l index (at + 1) more (plain_unlimited l index no_digits (at + 0 + 1) more) =
    subst (λ (p : ℕ). Told Plain l index (at + 1) more (plain_unlimited l index no_digits p more)) e
    (again index (at + 1) [] room (All-nil IsDigit) (omega arith) (λ some. absurd (omega arith))) in
    subst (Told Plain l index at (byte ∷ more)) (after-nil (plain_unlimited l index no_digits (at + 0 + 1) more))
    (told-more Plain l index at [] (byte ∷ []) more (plain_unlimited l index no_digits (at + 0 + 1) more) before
    (All-nil (λ h. h ≤ l.maxval)) (omega arith)
    (subst (λ (k : ℕ). Told Plain l k (at + 1) more (plain_unlimited l index no_digits (at + 0 + 1) more)) i rest))
plain-ended l byte more again space index at (digit ∷ text) room are short wanted =
    subst (Told Plain l index at ((digit ∷ text) ++ byte ∷ more)) (sym (pending l index (digit ∷ text)
    (λ i. plain_unlimited l i no_digits (at + length (digit ∷ text) + 1) more) (omega arith)))
    (ending (digit ∷ text) (record { some = omega arith; short = short; digits = are; value = refl })
    (wanted (omega arith)))
  where
    ending : (t : List ℕ) → IsSampleText t (value_of t) → index < l.count → Told Plain l index at (t ++ byte ∷ more)
        (sample_then l index (value_of t) (plain_unlimited l (index + 1) no_digits (at + length t + 1) more))
    ending t is less =
        let e : at + length (t ++ byte ∷ []) + 0 ≡ at + length t + 1 = omega (arith, length_push t byte) in
        let one : AreEndedTexts (value_of t ∷ []) (t ++ byte ∷ []) =
        ([], t, byte, [], refl, All-nil IsWhite, is, space, All-nil IsWhite) in
        let rest : Told Plain l (index + 1) (at + length (t ++ byte ∷ [])) more
        (plain_unlimited l (index + 1) no_digits (at + length t + 1) more) =
        subst (λ (p : ℕ). Told Plain l (index + 1) (at + length (t ++ byte ∷ [])) more
        (plain_unlimited l (index + 1) no_digits p more)) e
        (again (index + 1) (at + length (t ++ byte ∷ [])) [] (omega arith) (All-nil IsDigit) (omega arith)
        (λ some. absurd (omega arith))) in
        subst (λ (s : List ℕ). Told Plain l index at s (sample_then l index (value_of t)
        (plain_unlimited l (index + 1) no_digits (at + length t + 1) more))) (append_assoc t (byte ∷ []) more)
        (told-sample Plain l index at (value_of t) t (t ++ byte ∷ []) more (plain_unlimited l (index + 1) no_digits
        (at + length t + 1) more) less is one (byte ∷ more) (append_assoc t (byte ∷ []) more) space rest)

-- another byte comes
plain-other : (l : Limits) (byte : ℕ) (more : List ℕ) → PlainTold l more → is_white byte ≡ false →
    (index at : ℕ) (text : List ℕ) → index < l.count → All IsDigit text → length text ≤ 9
    → Told Plain l index at (text ++ byte ∷ more)
    (plain_unlimited l index (digits_of text) (at + length text) (byte ∷ more))
plain-other l byte more again space index at text wanted are short =
    by_bool (is_ascii_digit byte) (λ digit. elim (cases_lt (length text) 9) as (λ _. Told Plain l
    index at (text ++ byte ∷ more) (plain_unlimited l index (digits_of text) (at + length text) (byte ∷ more))) [
      | inl fewer ↦
          let e : at + length (text ++ byte ∷ []) ≡ at + length text + 1 = omega (arith, length_push text byte) in
          subst (Told Plain l index at (text ++ byte ∷ more))
          (sym (unlimited-digit l index (digits_of text) (at + length text) byte more space wanted digit fewer
          ∙ ap₂ (λ (d : Digits) (p : ℕ). plain_unlimited l index d p more) (digits-push text byte) (sym e)))
          (subst (λ (s : List ℕ). Told Plain l index at s (plain_unlimited l index (digits_of (text ++ byte ∷ []))
          (at + length (text ++ byte ∷ [])) more)) (append_assoc text (byte ∷ []) more)
          (again index at (text ++ byte ∷ []) (omega arith) (All-push IsDigit text byte are (digit-yes byte digit))
          (omega (arith, length_push text byte)) (λ _. wanted)))
      | inr nine ↦ refusing (inr (omega arith)) (and_right (is_ascii_digit byte) _ (le-ltb (length text) 9 nine))
    ])
    (λ other. refusing (inl (digit-no byte other)) (and_left _ _ other))
  where
    refusing : (IsDigit byte → ⊥) ⊎ (length text ≡ 9) → (is_ascii_digit byte && nat_lt (length text) 9) ≡ false →
        Told Plain l index at (text ++ byte ∷ more)
        (plain_unlimited l index (digits_of text) (at + length text) (byte ∷ more))
    refusing why test =
        subst (Told Plain l index at (text ++ byte ∷ more))
        (sym (cond-false _ _ _ space ∙ cond-true _ _ _ (lt-ltb index l.count wanted) ∙ cond-false _ _ _ test)) (
          refl,
          length text,
          refl,
          record {
            samples = [];
            front = [];
            digits = text;
            byte = byte;
            more = more;
            whole = refl;
            at = omega arith;
            ended = All-nil IsWhite;
            short = short;
            are = are;
            no_space = white-no byte space;
            bad = why;
            bound = All-nil (λ h. h ≤ l.maxval);
            wanted = omega arith;
          },
        )

plain-behind : (l : Limits) (byte : ℕ) (more : List ℕ) → PlainTold l more → is_white byte ≡ false →
    (index at : ℕ) (text : List ℕ) → index ≤ l.count → All IsDigit text → length text ≤ 9 →
    (0 < length text → index < l.count)
    → Told Plain l index at (text ++ byte ∷ more)
    (plain_unlimited l index (digits_of text) (at + length text) (byte ∷ more))
plain-behind l byte more again space index at [] room are short wanted =
    let e : at + 0 ≡ at = omega arith in
    elim (cases_lt index l.count) as (λ _.
    Told Plain l index at (byte ∷ more) (plain_unlimited l index (digits_of []) (at + 0) (byte ∷ more))) [
      | inl less ↦ plain-other l byte more again space index at [] less are short
      | inr full ↦ subst (Told Plain l index at (byte ∷ more))
          (ap (λ (p : ℕ). let r : RasterAnswer = Err (Trailing p) in r) (sym e)
          ∙ sym (unlimited-full l index (digits_of []) (at + 0) byte more space full))
          (told-trailing Plain l index at byte more (omega arith) (white-no byte space))
    ]
plain-behind l byte more again space index at (digit ∷ text) room are short wanted =
    plain-other l byte more again space index at (digit ∷ text) (wanted (omega arith)) are short

plain-told : (l : Limits) (bytes : List ℕ) → PlainTold l bytes
plain-told l [] index at text room are short wanted = plain-end l index at text room are short wanted
plain-told l (byte ∷ more) index at text room are short wanted =
    by_bool (is_white byte)
    (λ yes. subst (Told Plain l index at (text ++ byte ∷ more))
    (sym (unlimited-space l index (digits_of text) (at + length text) byte more yes))
    (plain-ended l byte more (plain-told l more) (white-yes byte yes) index at text room are short wanted))
    (λ no. plain-behind l byte more (plain-told l more) no index at text room are short wanted)

-- ---- how texts are read

spaces-read : (l : Limits) (gap : List ℕ) (index at : ℕ) (more : List ℕ) → All IsWhite gap →
    plain_unlimited l index no_digits at (gap ++ more) ≡ plain_unlimited l index no_digits (at + length gap) more
spaces-read l [] index at more all =
    let e : at ≡ at + 0 = omega arith in
    ap (λ (p : ℕ). plain_unlimited l index no_digits p more) e
spaces-read l (byte ∷ gap) index at more all =
    let e : at + 1 + length gap ≡ at + suc (length gap) = omega arith in
    unlimited-space l index no_digits at byte (gap ++ more) (white-is byte (All-head IsWhite byte gap all))
    ∙ spaces-read l gap index (at + 1) more (All-tail IsWhite byte gap all)
    ∙ ap (λ (p : ℕ). plain_unlimited l index no_digits p more) e

-- the digits of a sample that is still wanted are taken, up to nine with those before
pub digits-read : (l : Limits) (text before : List ℕ) (index at : ℕ) (more : List ℕ) → index < l.count →
    All IsDigit text → length before + length text ≤ 9
    → plain_unlimited l index (digits_of before) at (text ++ more)
    ≡ plain_unlimited l index (digits_of (before ++ text)) (at + length text) more
digits-read l [] before index at more wanted all short =
    let e : at ≡ at + 0 = omega arith in
    ap₂ (λ (t : List ℕ) (p : ℕ). plain_unlimited l index (digits_of t) p more) (sym (append-nil before)) e
digits-read l (byte ∷ text) before index at more wanted all short =
    let e : at + 1 + length text ≡ at + suc (length text) = omega arith in
    let digit : IsDigit byte = All-head IsDigit byte text all in
    unlimited-digit l index (digits_of before) at byte (text ++ more) (digit-no_white byte digit) wanted
    (digit-is byte digit) (omega arith)
    ∙ ap (λ (d : Digits). plain_unlimited l index d (at + 1) (text ++ more)) (digits-push before byte)
    ∙ digits-read l text (before ++ byte ∷ []) index (at + 1) more wanted (All-tail IsDigit byte text all)
    (omega (arith, length_push before byte))
    ∙ ap₂ (λ (t : List ℕ) (p : ℕ). plain_unlimited l index (digits_of t) p more)
    (append_assoc before (byte ∷ []) text) e

-- a text that whitespace or the end of the file ends
text-ended : (l : Limits) (text : List ℕ) (sample index at : ℕ) (space : ℕ) (more : List ℕ) →
    IsSampleText text sample → IsWhite space
    → plain_unlimited l index (digits_of text) at (space ∷ more)
    ≡ sample_then l index sample (plain_unlimited l (index + 1) no_digits (at + 1) more)
text-ended l text sample index at space more is space_is =
    unlimited-space l index (digits_of text) at space more (white-is space space_is)
    ∙ pending l index text (λ i. plain_unlimited l i no_digits (at + 1) more) (omega (arith, is.some))
    ∙ ap (λ (v : ℕ). sample_then l index v (plain_unlimited l (index + 1) no_digits (at + 1) more)) is.value

text-last : (l : Limits) (text : List ℕ) (sample index at : ℕ) → IsSampleText text sample →
    plain_unlimited l index (digits_of text) at [] ≡ sample_then l index sample (end_at l (index + 1))
text-last l text sample index at is =
    pending l index text (λ i. end_at l i) (omega (arith, is.some))
    ∙ ap (λ (v : ℕ). sample_then l index v (end_at l (index + 1))) is.value

-- samples that are ended and wanted, none above maxval, are read, and then what follows
pub plain-read : (l : Limits) (samples front : List ℕ) (index at : ℕ) (more : List ℕ) → AreEndedTexts samples front →
    index + length samples ≤ l.count → All (λ h. h ≤ l.maxval) samples
    → plain_unlimited l index no_digits at (front ++ more)
    ≡ after samples (plain_unlimited l (index + length samples) no_digits (at + length front) more)
plain-read l [] front index at more ended room all =
    let e : index ≡ index + 0 = omega arith in
    spaces-read l front index at more ended ∙ ap (λ (i : ℕ). plain_unlimited l i no_digits (at + length front) more) e
    ∙ sym (after-nil (plain_unlimited l (index + 0) no_digits (at + length front) more))
plain-read l (s ∷ samples) front index at more x room all =
    let tail : List ℕ = x.2 ∷ (x.3 ++ more) in
    let cut : front ++ more ≡ x.0 ++ (x.1 ++ tail) =
    ap (λ (t : List ℕ). t ++ more) x.4 ∙ append_assoc x.0 (x.1 ++ x.2 ∷ x.3) more
    ∙ ap (λ (t : List ℕ). x.0 ++ t) (append_assoc x.1 (x.2 ∷ x.3) more) in
    let size : length front ≡ length x.0 + (length x.1 + suc (length x.3)) = ap length x.4
    ∙ length-append x.0 (x.1 ++ x.2 ∷ x.3) ∙ ap (λ (n : ℕ). length x.0 + n) (length-append x.1 (x.2 ∷ x.3)) in
    let i : index + 1 + length samples ≡ index + suc (length samples) = omega arith in
    let p : at + length x.0 + length x.1 + 1 + length x.3 ≡ at + length front = omega arith in
    ap (plain_unlimited l index no_digits at) cut
    ∙ spaces-read l x.0 index at (x.1 ++ tail) x.5
    ∙ digits-read l x.1 [] index (at + length x.0) tail (omega arith) x.6.digits (omega (arith, x.6.short))
    ∙ text-ended l x.1 s index (at + length x.0 + length x.1) x.2 (x.3 ++ more) x.6 x.7
    ∙ sample-passed l index s (plain_unlimited l (index + 1) no_digits (at + length x.0 + length x.1 + 1) (x.3 ++ more))
    (All-head (λ h. h ≤ l.maxval) s samples all)
    ∙ ap (after (s ∷ [])) (plain-read l samples x.3 (index + 1) (at + length x.0 + length x.1 + 1) more x.8
    (omega arith) (All-tail (λ h. h ≤ l.maxval) s samples all))
    ∙ sym (after-append (s ∷ []) samples
    (plain_unlimited l (index + 1 + length samples) no_digits (at + length x.0 + length x.1 + 1 + length x.3) more))
    ∙ ap₂ (λ (k : ℕ) (q : ℕ). after (s ∷ samples) (plain_unlimited l k no_digits q more)) i p

-- samples that are ended, and then more
front-read : (f : RasterForm) (l : Limits) (samples front : List ℕ) (index at : ℕ) (more : List ℕ) →
    AreEnded f samples front → index + length samples ≤ l.count → All (λ h. h ≤ l.maxval) samples
    → rest_unlimited l index (nothing_of f) at (front ++ more)
    ≡ after samples (rest_unlimited l (index + length samples) (nothing_of f) (at + length front) more)
front-read Bytes l samples front index at more e room all =
    ap (λ (s : List ℕ). bytes_from l index at (s ++ more)) e ∙ bytes-samples l index at samples more room
    ∙ samples-passed l index samples (bytes_from l (index + length samples) (at + length samples) more) all
    ∙ ap (λ (s : List ℕ). after samples (bytes_from l (index + length samples) (at + length s) more)) (sym e)
front-read Words l samples front index at more e room all =
    ap (λ (s : List ℕ). words_from l index None at (s ++ more)) e
    ∙ words-samples l index at (flat_map two_bytes samples) more (length samples) (length-flat samples) room
    ∙ samples-passed l index (words_of (flat_map two_bytes samples))
    (words_from l (index + length samples) None (at + length (flat_map two_bytes samples)) more)
    (subst (All (λ h. h ≤ l.maxval)) (sym (words-flat samples)) all)
    ∙ ap₂ (λ (s : List ℕ) (t : List ℕ). after s (words_from l (index + length samples) None (at + length t) more))
    (words-flat samples) (sym e)
front-read Plain l samples front index at more e room all = plain-read l samples front index at more e room all

-- the end of the file
end-read : (f : RasterForm) (l : Limits) (index at : ℕ) → rest_unlimited l index (nothing_of f) at [] ≡ end_at l index
end-read Bytes l index at = refl
end-read Words l index at = refl
end-read Plain l index at = refl

ended-read : (f : RasterForm) (l : Limits) (samples bytes : List ℕ) (index at : ℕ) → AreEnded f samples bytes →
    index + length samples ≤ l.count → All (λ h. h ≤ l.maxval) samples
    → rest_unlimited l index (nothing_of f) at bytes ≡ after samples (end_at l (index + length samples))
ended-read f l samples bytes index at ended room all =
    ap (rest_unlimited l index (nothing_of f) at) (sym (append-nil bytes))
    ∙ front-read f l samples bytes index at [] ended room all
    ∙ ap (after samples) (end-read f l (index + length samples) (at + length bytes))

raster-read : (f : RasterForm) (l : Limits) (samples bytes : List ℕ) (index at : ℕ) → IsRaster f samples bytes →
    index + length samples ≤ l.count → All (λ h. h ≤ l.maxval) samples
    → rest_unlimited l index (nothing_of f) at bytes ≡ after samples (end_at l (index + length samples))
raster-read Bytes l samples bytes index at raster room all = ended-read Bytes l samples bytes index at raster room all
raster-read Words l samples bytes index at raster room all = ended-read Words l samples bytes index at raster room all
raster-read Plain l samples bytes index at (inl raster) room all =
    ended-read Plain l samples bytes index at raster room all
raster-read Plain l samples bytes index at (inr x) room all =
    let size : length samples ≡ length x.0 + 1 = ap length x.4 ∙ length_push x.0 x.1 in
    let bound : All (λ h. h ≤ l.maxval) (x.0 ++ x.1 ∷ []) = subst (All (λ h. h ≤ l.maxval)) x.4 all in
    let i : index + length x.0 + 1 ≡ index + length samples = omega arith in
    ap (plain_unlimited l index no_digits at) (x.5 ∙ ap (λ (t : List ℕ). x.2 ++ t) (sym (append-nil x.3)))
    ∙ plain-read l x.0 x.2 index at (x.3 ++ []) x.6 (omega arith) (All-front (λ h. h ≤ l.maxval) x.0 (x.1 ∷ []) bound)
    ∙ ap (after x.0) (
    digits-read l x.3 [] (index + length x.0) (at + length x.2) [] (omega arith) x.7.digits (omega (arith, x.7.short))
    ∙ text-last l x.3 x.1 (index + length x.0) (at + length x.2 + length x.3) x.7
    ∙ sample-passed l (index + length x.0) x.1 (end_at l (index + length x.0 + 1))
    (All-head (λ h. h ≤ l.maxval) x.1 [] (All-back (λ h. h ≤ l.maxval) x.0 (x.1 ∷ []) bound))
    )
    ∙ sym (after-append x.0 (x.1 ∷ []) (end_at l (index + length x.0 + 1)))
    ∙ ap₂ (λ (s : List ℕ) (k : ℕ). after s (end_at l k)) (sym x.4) i

end-short : (l : Limits) (samples : List ℕ) (index : ℕ) → index < l.count →
    after samples (end_at l index) ≡ Err Truncated
end-short l samples index less = ap (after samples) (cond-true _ _ _ (lt-ltb index l.count less))

end-whole : (l : Limits) (samples : List ℕ) (index : ℕ) → l.count ≤ index → after samples (end_at l index) ≡ Ok samples
end-whole l samples index full =
    ap (after samples) (cond-false _ _ _ (le-ltb index l.count full))
    ∙ ap (λ (s : List ℕ). let r : RasterAnswer = Ok s in r) (append-nil samples)

-- without a limit, bytes that end too early are truncated
pub cut-read : (f : RasterForm) (l : Limits) (bytes : List ℕ) (at : ℕ) → IsRasterCutShort f l.count l.maxval bytes →
    rest_unlimited l 0 (nothing_of f) at bytes ≡ Err Truncated
cut-read Bytes l bytes at w =
    ap (bytes_from l 0 at) (w.whole ∙ ap (λ (t : List ℕ). w.text ++ t) w.part ∙ append-nil w.text)
    ∙ raster-read Bytes l w.samples w.text 0 at w.raster (omega (arith, w.fewer)) w.bound
    ∙ end-short l w.samples (0 + length w.samples) (omega (arith, w.fewer))
cut-read Words l bytes at w =
    ap (words_from l 0 None at) w.whole
    ∙ front-read Words l w.samples w.text 0 at w.cut w.raster (omega (arith, w.fewer)) w.bound
    ∙ rest w.cut w.part
  where
    rest : (cut : List ℕ) → length cut ≤ 1 →
        after w.samples (words_from l (0 + length w.samples) None (at + length w.text) cut) ≡ Err Truncated
    rest [] short = end-short l w.samples (0 + length w.samples) (omega (arith, w.fewer))
    rest (byte ∷ []) short =
        ap (after w.samples) (cond-true _ _ _ (lt-ltb (0 + length w.samples) l.count (omega (arith, w.fewer))))
        ∙ end-short l w.samples (0 + length w.samples) (omega (arith, w.fewer))
    rest (byte ∷ other ∷ cut) short = absurd (omega arith)
cut-read Plain l bytes at w =
    ap (plain_unlimited l 0 no_digits at) (w.whole ∙ ap (λ (t : List ℕ). w.text ++ t) w.part ∙ append-nil w.text)
    ∙ raster-read Plain l w.samples w.text 0 at w.raster (omega (arith, w.fewer)) w.bound
    ∙ end-short l w.samples (0 + length w.samples) (omega (arith, w.fewer))

stray-read : (f : RasterForm) (l : Limits) (index at byte : ℕ) (more : List ℕ) → l.count ≤ index → IsStray f byte →
    rest_unlimited l index (nothing_of f) at (byte ∷ more) ≡ Err (Trailing at)
stray-read Bytes l index at byte more full stray = cond-false _ _ _ (le-ltb index l.count full)
stray-read Words l index at byte more full stray = cond-false _ _ _ (le-ltb index l.count full)
stray-read Plain l index at byte more full stray =
    unlimited-full l index no_digits at byte more (white-isnt byte stray) full

-- without a limit, a byte that may not stand behind the last sample is refused at its place
pub trailing-read : (f : RasterForm) (l : Limits) (bytes : List ℕ) (at place p : ℕ) → p ≡ at + place →
    IsTrailingAt f l.count l.maxval bytes place → rest_unlimited l 0 (nothing_of f) at bytes ≡ Err (Trailing p)
trailing-read f l bytes at place p e w =
    let here : at + length w.front ≡ p = omega (arith, w.at) in
    ap (rest_unlimited l 0 (nothing_of f) at) w.whole
    ∙ front-read f l w.samples w.front 0 at (w.byte ∷ w.more) w.ended (omega (arith, w.all)) w.bound
    ∙ ap (after w.samples)
    (stray-read f l (0 + length w.samples) (at + length w.front) w.byte w.more (omega (arith, w.all)) w.stray)
    ∙ ap (λ (k : ℕ). err_at k) here
  where
    err_at : ℕ → RasterAnswer
    err_at k = Err (Trailing k)

above-text : (f : RasterForm) (l : Limits) (index at sample : ℕ) (text more : List ℕ) → IsTextOfSample f text sample →
    EndsThere f more → index < l.count → l.maxval < sample
    → rest_unlimited l index (nothing_of f) at (text ++ more) ≡ Err (AboveMaxval index)
above-text Bytes l index at sample text more is ends wanted above =
    ap (λ (t : List ℕ). bytes_from l index at (t ++ more)) is ∙ cond-true _ _ _ (lt-ltb index l.count wanted)
    ∙ sample-refused l index sample (bytes_from l (index + 1) (at + 1) more) above
above-text Words l index at sample text more is ends wanted above =
    let value : 256 * (sample / 256) + sample % 256 ≡ sample = omega arith in
    ap (λ (t : List ℕ). words_from l index None at (t ++ more)) is ∙ cond-true _ _ _ (lt-ltb index l.count wanted)
    ∙ sample-refused l index (256 * (sample / 256) + sample % 256)
    (words_from l (index + 1) None (at + 1 + 1) more) (omega arith)
above-text Plain l index at sample text [] is ends wanted above =
    digits-read l text [] index at [] wanted is.digits (omega (arith, is.short))
    ∙ text-last l text sample index (at + length text) is
    ∙ sample-refused l index sample (end_at l (index + 1)) above
above-text Plain l index at sample text (byte ∷ more) is ends wanted above =
    digits-read l text [] index at (byte ∷ more) wanted is.digits (omega (arith, is.short))
    ∙ text-ended l text sample index (at + length text) byte more is ends
    ∙ sample-refused l index sample (plain_unlimited l (index + 1) no_digits (at + length text + 1) more) above

-- without a limit, a sample above maxval is refused at its index
pub above-read : (f : RasterForm) (l : Limits) (bytes : List ℕ) (at index : ℕ) →
    IsAboveAt f l.count l.maxval bytes index → rest_unlimited l 0 (nothing_of f) at bytes ≡ Err (AboveMaxval index)
above-read f l bytes at index w =
    let here : 0 + length w.samples ≡ index = omega (arith, w.at) in
    ap (rest_unlimited l 0 (nothing_of f) at) w.whole
    ∙ front-read f l w.samples w.front 0 at (w.text ++ w.more) w.ended (omega (arith, w.wanted)) w.bound
    ∙ ap (after w.samples) (above-text f l (0 + length w.samples)
    (at + length w.front) w.sample w.text w.more w.next w.ends (omega (arith, w.wanted)) w.above)
    ∙ ap (λ (k : ℕ). err_at k) here
  where
    err_at : ℕ → RasterAnswer
    err_at k = Err (AboveMaxval k)

-- without a limit, a byte that continues no sample of a plain raster is refused at its place
pub bad-read : (l : Limits) (bytes : List ℕ) (at place p : ℕ) → p ≡ at + place →
    IsBadSampleAt l.count l.maxval bytes place → plain_unlimited l 0 no_digits at bytes ≡ Err (BadSample p)
bad-read l bytes at place p e w =
    let here : at + length w.front + length w.digits ≡ p = omega (arith, w.at) in
    ap (plain_unlimited l 0 no_digits at) w.whole
    ∙ plain-read l w.samples w.front 0 at (w.digits ++ w.byte ∷ w.more) w.ended (omega (arith, w.wanted)) w.bound
    ∙ ap (after w.samples) (
    digits-read l w.digits [] (0 + length w.samples) (at + length w.front) (w.byte ∷ w.more)
    (omega (arith, w.wanted)) w.are (omega (arith, w.short))
    ∙ cond-false _ _ _ (white-isnt w.byte w.no_space)
    ∙ cond-true _ _ _ (lt-ltb (0 + length w.samples) l.count (omega (arith, w.wanted)))
    ∙ cond-false _ _ _ (test w.bad)
    )
    ∙ ap (λ (k : ℕ). err_at k) here
  where
    err_at : ℕ → RasterAnswer
    err_at k = Err (BadSample k)

    test : (IsDigit w.byte → ⊥) ⊎ (length w.digits ≡ 9) → (is_ascii_digit w.byte && nat_lt (length w.digits) 9) ≡ false
    test (inl other) = and_left _ _ (digit-isnt w.byte other)
    test (inr nine) = and_right (is_ascii_digit w.byte) _ (le-ltb (length w.digits) 9 (omega arith))

-- ---- the laws

all-told : (f : RasterForm) (l : Limits) (at : ℕ) (bytes : List ℕ) → All (λ b. b < 256) bytes →
    Told f l 0 at bytes (rest_unlimited l 0 (nothing_of f) at bytes)
all-told Bytes l at bytes all = bytes-told l bytes 0 at (omega arith)
all-told Words l at bytes all = words-told l bytes 0 at (omega arith) all
all-told Plain l at bytes all =
    let e : at + 0 ≡ at = omega arith in
    subst (λ (p : ℕ). Told Plain l 0 at bytes (plain_unlimited l 0 no_digits p bytes)) e
    (plain-told l bytes 0 at [] (omega arith) (All-nil IsDigit) (omega arith) (λ some. absurd (omega arith)))

-- what an answer tells, whatever the number of bytes is
pub told-by : (f : RasterForm) (l : Limits) (at : ℕ) (bytes : List ℕ) (r : RasterAnswer) → All (λ b. b < 256) bytes →
    rest_of l 0 (nothing_of f) at bytes ≡ r → (r ≡ Err TooLong → ⊥) → Told f l 0 at bytes r
told-by f l at bytes r all e short =
    agreed f l at bytes (λ s. s ≡ r → Told f l 0 at bytes r) (λ long. absurd (short (sym long)))
    (λ same. subst (Told f l 0 at bytes) same (all-told f l at bytes all)) e

-- a raster of so many samples, none above maxval, is read as its samples
pub rasters : RastersAreRead
unfolding raster_of
rasters f count maxval at samples bytes within raster size all =
    let l : Limits = record { count = count; maxval = maxval } in
    rest-within f l at bytes within ∙ raster-read f l samples bytes 0 at raster (omega arith) all
    ∙ end-whole l samples (0 + length samples) (omega arith)

-- bytes that are read are a raster of what is read: so many samples, none above maxval
pub samples_back : ReadBytesAreRasters
unfolding raster_of
samples_back f count maxval at samples bytes all e =
    let l : Limits = record { count = count; maxval = maxval } in
    let told : Told f l 0 at bytes (Ok samples) = told-by f l at bytes (Ok samples) all e (λ long. absurd (cc)) in
    (told.0, omega (arith, told.1), told.2)

-- nothing was read of what is wanted
pub no_fewer : (count : ℕ) → count - 0 ≡ count
no_fewer count = omega arith
