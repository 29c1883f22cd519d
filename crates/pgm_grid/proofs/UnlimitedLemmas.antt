-- Rasters of files of any length, and how they agree with those of at most 2 ^ 28 bytes.
use Rattle.std.proofs.Common.{◌≡◌, ℕ, ◌+◌, ◌^◌, ◌<◌, ◌≤◌, ◌⊎◌, inl, inr, Bool, true, false, ◌&&◌, nat_eq, nat_lt, cond}
use Rattle.std.proofs.Common.{List, [], ◌∷◌, length, Err, refl, sym, ap, ap₂, ◌∙◌, subst, arith}
use Rattle.std.specs.Char.{is_ascii_digit}
use Rattle.std.proofs.lemmas.Bool.{cases_lt, cases_eq, lt-ltb, le-ltb, eq-eqb, ne_eqb, cond-true, cond-false, and_from}
use Rattle.text_laws.specs.Blanks.{is_white}
use Rattle.pgm_grid.specs.declared.raster_fault.RasterFault.TheVariants.{BadSample, Trailing, TooLong}
use Rattle.pgm_grid.specs.declared.raster_form.RasterForm.{RasterForm}
use Rattle.pgm_grid.specs.declared.raster_form.RasterForm.TheVariants.{Bytes, Words, Plain}
use Rattle.pgm_grid.specs.declared.raster_part.Limits.{Limits}
use Rattle.pgm_grid.specs.declared.raster_part.Digits.{Digits}
use Rattle.pgm_grid.specs.declared.raster_part.Part.{Part}
use Rattle.pgm_grid.specs.declared.raster_part.Part.TheVariants as part
use Rattle.pgm_grid.specs.RasterProgress.{most_bytes, RasterAnswer, after, sample_then, end_at, bytes_from, words_from}
use Rattle.pgm_grid.specs.RasterProgress.{no_digits, with_digit, ended_then, plain_from, rest_of, nothing_of}
use Rattle.pgm_grid.proofs.RasterLemmas.{sample-passed, sample-refused}

-- the bytes of a plain raster, with no limit on their number
abbrev pub plain_unlimited : Limits → ℕ → Digits → ℕ → List ℕ → RasterAnswer
plain_unlimited l index digits at [] = ended_then l index digits (λ i. end_at l i)
plain_unlimited l index digits at (byte ∷ more) =
    cond (is_white byte) (ended_then l index digits (λ i. plain_unlimited l i no_digits (at + 1) more))
    (cond (nat_lt index l.count)
    (cond (is_ascii_digit byte && nat_lt digits.count 9)
    (plain_unlimited l index (with_digit digits byte) (at + 1) more) (Err (BadSample at)))
    (Err (Trailing at)))

-- the bytes of a raster, with no limit on their number
abbrev pub rest_unlimited : Limits → ℕ → Part → ℕ → List ℕ → RasterAnswer
rest_unlimited l index part.Bytes at more = bytes_from l index at more
rest_unlimited l index (part.Words high) at more = words_from l index high at more
rest_unlimited l index (part.Plain digits) at more = plain_unlimited l index digits at more

-- without a limit, whitespace ends the digits before it, if there are any
pub unlimited-space : (l : Limits) (index : ℕ) (digits : Digits) (at byte : ℕ) (more : List ℕ) → is_white byte ≡ true →
    plain_unlimited l index digits at (byte ∷ more)
    ≡ ended_then l index digits (λ i. plain_unlimited l i no_digits (at + 1) more)
unlimited-space l index digits at byte more space = cond-true _ _ _ space

-- without a limit, behind all samples a byte other than whitespace is trailing
pub unlimited-full : (l : Limits) (index : ℕ) (digits : Digits) (at byte : ℕ) (more : List ℕ) → is_white byte ≡ false →
    l.count ≤ index → plain_unlimited l index digits at (byte ∷ more) ≡ Err (Trailing at)
unlimited-full l index digits at byte more space full =
    cond-false _ _ _ space ∙ cond-false _ _ _ (le-ltb index l.count full)

-- without a limit, where a sample is still wanted, a digit is taken, the ninth at most
pub unlimited-digit : (l : Limits) (index : ℕ) (digits : Digits) (at byte : ℕ) (more : List ℕ) → is_white byte ≡ false →
    index < l.count → is_ascii_digit byte ≡ true → digits.count < 9 →
    plain_unlimited l index digits at (byte ∷ more) ≡ plain_unlimited l index (with_digit digits byte) (at + 1) more
unlimited-digit l index digits at byte more space wanted digit short =
    cond-false _ _ _ space ∙ cond-true _ _ _ (lt-ltb index l.count wanted)
    ∙ cond-true _ _ _ (and_from _ _ digit (lt-ltb digits.count 9 short))

-- ---- bytes within the limit

-- they are read as if there were none
pub plain-within : (l : Limits) (bytes : List ℕ) (index : ℕ) (digits : Digits) (at : ℕ) → at + length bytes
    ≤ most_bytes → plain_from l index digits at bytes ≡ plain_unlimited l index digits at bytes
plain-within l [] index digits at within = refl
plain-within l (byte ∷ more) index digits at within =
    cond-false _ _ _ (ne_eqb at most_bytes (λ e. omega arith))
    ∙ ap₂ (λ (x : RasterAnswer) (y : RasterAnswer).
    cond (is_white byte) (cond (nat_eq digits.count 0) x (sample_then l index digits.value y))
    (cond (nat_lt index l.count) (cond (is_ascii_digit byte && nat_lt digits.count 9)
    (plain_from l index (with_digit digits byte) (at + 1) more) (Err (BadSample at))) (Err (Trailing at))))
    (plain-within l more index no_digits (at + 1) (omega arith))
    (plain-within l more (index + 1) no_digits (at + 1) (omega arith))
    ∙ ap (λ (x : RasterAnswer). cond (is_white byte)
    (ended_then l index digits (λ i. plain_unlimited l i no_digits (at + 1) more))
    (cond (nat_lt index l.count) (cond (is_ascii_digit byte && nat_lt digits.count 9) x (Err (BadSample at)))
    (Err (Trailing at))))
    (plain-within l more index (with_digit digits byte) (at + 1) (omega arith))

-- the same of rasters of each form
pub rest-within : (f : RasterForm) (l : Limits) (at : ℕ) (bytes : List ℕ) → at + length bytes ≤ 2 ^ 28 →
    rest_of l 0 (nothing_of f) at bytes ≡ rest_unlimited l 0 (nothing_of f) at bytes
rest-within Bytes l at bytes within = refl
rest-within Words l at bytes within = refl
rest-within Plain l at bytes within = plain-within l bytes 0 no_digits at (omega arith)

-- ---- bytes that may go beyond it

-- the answer is that of a file without limit, or the limit
abbrev pub Agrees : RasterAnswer → RasterAnswer → Type 0
Agrees r unlimited = (r ≡ Err TooLong) ⊎ (r ≡ unlimited)

agrees-after : (samples : List ℕ) (r u : RasterAnswer) → Agrees r u → Agrees (after samples r) (after samples u)
agrees-after samples r u (inl long) = inl (ap (after samples) long)
agrees-after samples r u (inr same) = inr (ap (after samples) same)

agrees-by : (a b r u : RasterAnswer) → a ≡ r → b ≡ u → Agrees r u → Agrees a b
agrees-by a b r u e f (inl long) = inl (e ∙ long)
agrees-by a b r u e f (inr same) = inr (e ∙ same ∙ sym f)

agrees-sample : (l : Limits) (index sample : ℕ) (r u : RasterAnswer) → Agrees r u →
    Agrees (sample_then l index sample r) (sample_then l index sample u)
agrees-sample l index sample r u w =
    elim (cases_lt l.maxval sample) as (λ _. Agrees (sample_then l index sample r) (sample_then l index sample u)) [
      | inl above ↦ inr (sample-refused l index sample r above ∙ sym (sample-refused l index sample u above))
      | inr fits ↦ agrees-by _ _ _ _ (sample-passed l index sample r fits) (sample-passed l index sample u fits)
          (agrees-after (sample ∷ []) r u w)
    ]

agrees-ended : (l : Limits) (index : ℕ) (digits : Digits) (r u : ℕ → RasterAnswer) → ((i : ℕ) → Agrees (r i) (u i)) →
    Agrees (ended_then l index digits r) (ended_then l index digits u)
agrees-ended l index digits r u w =
    elim (cases_eq digits.count 0) as (λ _. Agrees (ended_then l index digits r) (ended_then l index digits u)) [
      | inl none ↦ agrees-by _ _ _ _ (cond-true _ _ _ (eq-eqb digits.count 0 none))
          (cond-true _ _ _ (eq-eqb digits.count 0 none)) (w index)
      | inr some ↦ agrees-by _ _ _ _ (cond-false _ _ _ (ne_eqb digits.count 0 some))
          (cond-false _ _ _ (ne_eqb digits.count 0 some))
          (agrees-sample l index digits.value (r (index + 1)) (u (index + 1)) (w (index + 1)))
    ]

agrees-cond : (test : Bool) (a b r u : RasterAnswer) → Agrees a r → Agrees b u → Agrees (cond test a b) (cond test r u)
agrees-cond true a b r u x y = x
agrees-cond false a b r u x y = y

-- a plain raster is answered as if there were no limit, or is too long
pub plain-agrees : (l : Limits) (bytes : List ℕ) (index : ℕ) (digits : Digits) (at : ℕ) →
    Agrees (plain_from l index digits at bytes) (plain_unlimited l index digits at bytes)
plain-agrees l [] index digits at = inr refl
plain-agrees l (byte ∷ more) index digits at =
    elim (cases_eq at most_bytes) as (λ _.
    Agrees (plain_from l index digits at (byte ∷ more)) (plain_unlimited l index digits at (byte ∷ more))) [
      | inl here ↦ inl (cond-true _ _ _ (eq-eqb at most_bytes here))
      | inr other ↦ agrees-by _ _ _ _ (cond-false _ _ _ (ne_eqb at most_bytes other)) refl
          (agrees-cond (is_white byte) _ _ _ _
          (agrees-ended l index digits _ _ (λ i. plain-agrees l more i no_digits (at + 1)))
          (agrees-cond (nat_lt index l.count) _ _ _ _ (agrees-cond (is_ascii_digit byte && nat_lt digits.count 9) _ _ _
          _ (plain-agrees l more index (with_digit digits byte) (at + 1)) (inr refl)) (inr refl)))
    ]

rest-agrees : (f : RasterForm) (l : Limits) (at : ℕ) (bytes : List ℕ) →
    Agrees (rest_of l 0 (nothing_of f) at bytes) (rest_unlimited l 0 (nothing_of f) at bytes)
rest-agrees Bytes l at bytes = inr refl
rest-agrees Words l at bytes = inr refl
rest-agrees Plain l at bytes = plain-agrees l bytes 0 no_digits at

-- what holds of the answer without limit and of the limit holds of the answer
pub agreed : (f : RasterForm) (l : Limits) (at : ℕ) (bytes : List ℕ) (P : RasterAnswer → Type 0) → P (Err TooLong) →
    P (rest_unlimited l 0 (nothing_of f) at bytes) → P (rest_of l 0 (nothing_of f) at bytes)
agreed f l at bytes P long unlimited =
    elim (rest-agrees f l at bytes) as (λ _. P (rest_of l 0 (nothing_of f) at bytes)) [
      | inl e ↦ subst P (sym e) long
      | inr e ↦ subst P (sym e) unlimited
    ]
