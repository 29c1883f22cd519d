-- Facts about the digits of samples.
use Rattle.std.proofs.Common.{◌≡◌, ℕ, ◌+◌, ◌-◌, ◌<◌, ◌≤◌, true, false, ◌&&◌, nat_lt, List, [], ◌∷◌, ◌++◌, length, take}
use Rattle.std.proofs.Common.{drop, get_or, Err, sym, ap, ◌∙◌, arith, append_assoc, take-append-drop, length-take-le}
use Rattle.std.proofs.Common.{length-drop, length-append}
use Rattle.std.specs.Char.{is_ascii_digit}
use Rattle.std.proofs.lemmas.List.{drop-drop, drop_more}
use Rattle.std.proofs.lemmas.Bool.{lt-ltb, le-ltb, eq-eqb, ne_eqb, cond-true, cond-false}
use Rattle.text_laws.specs.Blanks.{is_white}
use Rattle.pgm_grid.specs.declared.raster_fault.RasterFault.{RasterFault}
use Rattle.pgm_grid.specs.declared.raster_fault.RasterFault.TheVariants.{BadSample, Trailing, TooLong}
use Rattle.pgm_grid.specs.declared.raster_part.Limits.{Limits}
use Rattle.pgm_grid.specs.declared.raster_part.Digits.{Digits}
use Rattle.pgm_grid.specs.declared.raster_part.Part.TheVariants as part
use Rattle.pgm_grid.specs.RasterProgress.{most_bytes, after, ended_then, no_digits, with_digit, plain_from, reads}

-- ---- one more byte, before the most that a file has

-- whitespace ends the digits before it, if there are any
pub plain-space : (l : Limits) (index : ℕ) (digits : Digits) (at byte : ℕ) (more : List ℕ) → at < most_bytes →
    is_white byte ≡ true →
    plain_from l index digits at (byte ∷ more) ≡ ended_then l index digits (λ i. plain_from l i no_digits (at + 1) more)
plain-space l index digits at byte more within space =
    cond-false _ _ _ (ne_eqb at most_bytes (λ e. omega arith)) ∙ cond-true _ _ _ space

-- behind all samples a byte other than whitespace is trailing
pub plain-full : (l : Limits) (index : ℕ) (digits : Digits) (at byte : ℕ) (more : List ℕ) → at < most_bytes →
    is_white byte ≡ false → l.count ≤ index → plain_from l index digits at (byte ∷ more) ≡ Err (Trailing at)
plain-full l index digits at byte more within space full =
    cond-false _ _ _ (ne_eqb at most_bytes (λ e. omega arith)) ∙ cond-false _ _ _ space
    ∙ cond-false _ _ _ (le-ltb index l.count full)

-- where a sample is still wanted, a digit is taken, the ninth at most
pub plain-digit : (l : Limits) (index : ℕ) (digits : Digits) (at byte : ℕ) (more : List ℕ) → at < most_bytes →
    is_white byte ≡ false → index < l.count → (is_ascii_digit byte && nat_lt digits.count 9) ≡ true →
    plain_from l index digits at (byte ∷ more) ≡ plain_from l index (with_digit digits byte) (at + 1) more
plain-digit l index digits at byte more within space wanted digit =
    cond-false _ _ _ (ne_eqb at most_bytes (λ e. omega arith)) ∙ cond-false _ _ _ space
    ∙ cond-true _ _ _ (lt-ltb index l.count wanted) ∙ cond-true _ _ _ digit

-- where a sample is still wanted, another byte or a tenth digit continues none
pub plain-bad : (l : Limits) (index : ℕ) (digits : Digits) (at byte : ℕ) (more : List ℕ) → at < most_bytes →
    is_white byte ≡ false → index < l.count → (is_ascii_digit byte && nat_lt digits.count 9) ≡ false →
    plain_from l index digits at (byte ∷ more) ≡ Err (BadSample at)
plain-bad l index digits at byte more within space wanted bad =
    cond-false _ _ _ (ne_eqb at most_bytes (λ e. omega arith)) ∙ cond-false _ _ _ space
    ∙ cond-true _ _ _ (lt-ltb index l.count wanted) ∙ cond-false _ _ _ bad

-- and behind it
pub plain-long : (l : Limits) (index : ℕ) (digits : Digits) (at : ℕ) (bytes : List ℕ) → at ≡ most_bytes →
    0 < length bytes → plain_from l index digits at bytes ≡ Err TooLong
plain-long l index digits at [] here some = absurd (omega arith)
plain-long l index digits at (byte ∷ bytes) here some = cond-true _ _ _ (eq-eqb at most_bytes here)

-- ---- a piece that goes beyond the most bytes that a file has

-- its prefix is refused
pub front-refused :
    (l : Limits) (old : List ℕ) (index : ℕ) (digits : Digits) (at n : ℕ) (piece : List ℕ) (fault : RasterFault) →
    ((more : List ℕ) → after old (plain_from l index digits at (take n piece ++ more)) ≡ Err fault)
    → (more : List ℕ) → after old (plain_from l index digits at (piece ++ more)) ≡ Err fault
front-refused l old index digits at n piece fault front more =
    ap (λ (s : List ℕ). after old (plain_from l index digits at (s ++ more))) (sym (take-append-drop n piece))
    ∙ ap (λ (s : List ℕ). after old (plain_from l index digits at s)) (append_assoc (take n piece) (drop n piece) more)
    ∙ front (drop n piece ++ more)

-- its prefix is accepted
pub front-long : (l : Limits) (old new : List ℕ) (index i : ℕ) (digits next : Digits) (at n : ℕ) (piece : List ℕ) →
    n < length piece → at + n ≡ most_bytes
    → ((more : List ℕ) → after old (plain_from l index digits at (take n piece ++ more))
    ≡ after new (plain_from l i next (at + length (take n piece)) more))
    → (more : List ℕ) → after old (plain_from l index digits at (piece ++ more)) ≡ Err TooLong
front-long l old new index i digits next at n piece short here front more =
    let size : length (take n piece) ≡ n = length-take-le n piece (omega arith) in
    let left : length (drop n piece) ≡ length piece - n = length-drop n piece in
    let rest : length (drop n piece ++ more) ≡ length (drop n piece) + length more =
    length-append (drop n piece) more in
    ap (λ (s : List ℕ). after old (plain_from l index digits at (s ++ more))) (sym (take-append-drop n piece))
    ∙ ap (λ (s : List ℕ). after old (plain_from l index digits at s)) (append_assoc (take n piece) (drop n piece) more)
    ∙ front (drop n piece ++ more)
    ∙ ap (after new) (plain-long l i next (at + length (take n piece)) (drop n piece ++ more)
    (omega arith) (omega arith))

-- ---- digits of a sample, and the byte behind them

-- what the first i bytes have come to, with some of the rest, and the byte behind those
pub told-next : (l : Limits) (old mid : List ℕ) (first digits next : Digits) (at i taken : ℕ)
    (piece rest : List ℕ) → rest ≡ drop i piece → i ≤ length piece → i + taken < length piece
    → at + length piece ≤ most_bytes
    → ((more : List ℕ) → reads l old (part.Plain first) at (piece ++ more)
    ≡ reads l mid (part.Plain digits) (at + i) (drop i piece ++ more))
    → ((place : ℕ) (more : List ℕ) → place + length rest ≤ most_bytes
    → reads l mid (part.Plain digits) place (rest ++ more)
    ≡ reads l mid (part.Plain next) (place + taken) (drop taken rest ++ more))
    → (more : List ℕ) → reads l old (part.Plain first) at (piece ++ more)
    ≡ reads l mid (part.Plain next) (at + (i + taken))
    (get_or piece (i + taken) 0 ∷ (drop (i + taken + 1) piece ++ more))
told-next l old mid first digits next at i taken piece rest is within below fits so_far on more =
    let left : length rest ≡ length piece - i = ap length is ∙ length-drop i piece in
    let place : at + i + taken ≡ at + (i + taken) = omega arith in
    let cut : drop taken rest ≡ get_or piece (i + taken) 0 ∷ drop (i + taken + 1) piece =
    ap (drop taken) is ∙ drop-drop taken i piece ∙ drop_more piece (i + taken) 0 below in
    so_far more
    ∙ ap (λ (s : List ℕ). reads l mid (part.Plain digits) (at + i) (s ++ more)) (sym is)
    ∙ on (at + i) more (omega arith)
    ∙ ap (λ (k : ℕ). reads l mid (part.Plain next) k (drop taken rest ++ more)) place
    ∙ ap (λ (s : List ℕ). reads l mid (part.Plain next) (at + (i + taken)) (s ++ more)) cut
