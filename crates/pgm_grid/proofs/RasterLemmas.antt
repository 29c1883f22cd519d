-- Facts about samples that come after one another, and about the bytes that bring them.
use Rattle.std.proofs.Common.{◌≡◌, ℕ, zero, suc, ◌+◌, ◌*◌, ◌<◌, ◌≤◌, List, [], ◌∷◌, ◌++◌, length, take, drop, get_or}
use Rattle.std.proofs.Common.{Some, None, Result, Ok, Err, refl, sym, ap, ap₂, ◌∙◌, subst, arith, All, slice_get}
use Rattle.std.proofs.Common.{IsSomeAnd, IsErrAnd, IfErr, append_assoc, take-append-drop, length-take-le, length-drop}
use Rattle.std.proofs.lemmas.List.{drop_all}
use Rattle.std.proofs.lemmas.Bool.{lt-ltb, le-ltb, cond-true, cond-false}
use Rattle.std.proofs.lemmas.List.Elements.{All-head, All-tail}
use Rattle.text_laws.specs.Words.{words_of}
use Rattle.text_laws.proofs.ListLemmas.{one-entry}
use Rattle.pgm_grid.specs.declared.raster_fault.RasterFault.{RasterFault}
use Rattle.pgm_grid.specs.declared.raster_fault.RasterFault.TheVariants.{AboveMaxval, Trailing}
use Rattle.pgm_grid.specs.declared.raster_part.Limits.{Limits}
use Rattle.pgm_grid.specs.RasterProgress.{RasterAnswer, after, sample_then, samples_then, bytes_from, words_from}

-- ---- samples that came before

-- samples of two lists before an answer are those of the second, and before them those of the first
pub after-append : (xs ys : List ℕ) (r : RasterAnswer) → after (xs ++ ys) r ≡ after xs (after ys r)
after-append xs ys (Ok rest) =
    let e : (xs ++ ys) ++ rest ≡ xs ++ (ys ++ rest) = append_assoc xs ys rest in
    ap (λ (s : List ℕ). let r : RasterAnswer = Ok s in r) e
after-append xs ys (Err fault) = refl

-- no samples before an answer change nothing
pub after-nil : (r : RasterAnswer) → after [] r ≡ r
after-nil (Ok rest) = refl
after-nil (Err fault) = refl

-- a refusal behind samples is one of the rest
pub after-err : (samples : List ℕ) (r : RasterAnswer) (f : RasterFault) → after samples r ≡ Err f → r ≡ Err f
after-err samples (Ok rest) f e = absurd (cc)
after-err samples (Err g) f e = e

-- a sample that may stand, and one that may not
pub sample-passed : (l : Limits) (index sample : ℕ) (rest : RasterAnswer) → sample ≤ l.maxval →
    sample_then l index sample rest ≡ after (sample ∷ []) rest
sample-passed l index sample rest fits = cond-false _ _ _ (le-ltb l.maxval sample fits)

-- a sample above maxval is refused at its index, whatever follows
pub sample-refused : (l : Limits) (index sample : ℕ) (rest : RasterAnswer) → l.maxval < sample →
    sample_then l index sample rest ≡ Err (AboveMaxval index)
sample-refused l index sample rest above = cond-true _ _ _ (lt-ltb l.maxval sample above)

-- samples of which none is above maxval are accepted, and then the rest
pub samples-passed : (l : Limits) (index : ℕ) (samples : List ℕ) (rest : RasterAnswer) →
    All (λ h. h ≤ l.maxval) samples → samples_then l index samples rest ≡ after samples rest
samples-passed l index [] rest all = sym (after-nil rest)
samples-passed l index (s ∷ samples) rest all =
    sample-passed l index s (samples_then l (index + 1) samples rest) (All-head (λ h. h ≤ l.maxval) s samples all)
    ∙ ap (after (s ∷ [])) (samples-passed l (index + 1) samples rest (All-tail (λ h. h ≤ l.maxval) s samples all))
    ∙ sym (after-append (s ∷ []) samples rest)

-- the first sample above maxval is refused at its index, whatever follows
pub samples-refused : (l : Limits) (index : ℕ) (samples : List ℕ) (i : ℕ) (rest : RasterAnswer) →
    All (λ h. h ≤ l.maxval) (take i samples) → IsSomeAnd (slice_get samples i) (λ h. l.maxval < h) →
    samples_then l index samples rest ≡ Err (AboveMaxval (index + i))
samples-refused l index [] i rest before above = absurd above
samples-refused l index (s ∷ samples) zero rest before above =
    let e : index ≡ index + zero = omega arith in
    sample-refused l index s (samples_then l (index + 1) samples rest) above
    ∙ ap (λ (k : ℕ). let r : RasterAnswer = Err (AboveMaxval k) in r) e
samples-refused l index (s ∷ samples) (suc i) rest before above =
    let e : index + 1 + i ≡ index + suc i = omega arith in
    sample-passed l index s (samples_then l (index + 1) samples rest)
    (All-head (λ h. h ≤ l.maxval) s (take i samples) before)
    ∙ ap (after (s ∷ []))
    (samples-refused l (index + 1) samples i rest (All-tail (λ h. h ≤ l.maxval) s (take i samples) before) above)
    ∙ ap (λ (k : ℕ). let r : RasterAnswer = Err (AboveMaxval k) in r) e

-- the samples of two lists come as those of the first, and then those of the second
pub samples-append : (l : Limits) (index : ℕ) (xs ys : List ℕ) (rest : RasterAnswer) →
    samples_then l index (xs ++ ys) rest ≡ samples_then l index xs (samples_then l (index + length xs) ys rest)
samples-append l index [] ys rest =
    let e : index ≡ index + 0 = omega arith in
    ap (λ (k : ℕ). samples_then l k ys rest) e
samples-append l index (x ∷ xs) ys rest =
    let e : index + 1 + length xs ≡ index + suc (length xs) = omega arith in
    ap (sample_then l index x) (samples-append l (index + 1) xs ys rest
    ∙ ap (λ (k : ℕ). samples_then l (index + 1) xs (samples_then l k ys rest)) e)

-- ---- samples that are added to those before

-- what the samples do to any rest
abbrev pub Pushes : Limits → List ℕ → List ℕ → List ℕ → Type 0
Pushes l old samples new = (rest : RasterAnswer) → after old (samples_then l (length old) samples rest) ≡ after new rest

-- whatever the rest is, the samples behind the old ones are refused with this fault
abbrev pub Refuses : Limits → List ℕ → List ℕ → RasterFault → Type 0
Refuses l old samples fault = (rest : RasterAnswer) → after old (samples_then l (length old) samples rest) ≡ Err fault

-- samples of which none is above maxval are added to the old ones
pub pushed : (l : Limits) (old samples new : List ℕ) → All (λ h. h ≤ l.maxval) samples → new ≡ old ++ samples →
    Pushes l old samples new
pushed l old samples new all e rest =
    ap (after old) (samples-passed l (length old) samples rest all) ∙ sym (after-append old samples rest)
    ∙ ap (λ (s : List ℕ). after s rest) (sym e)

-- samples of which one is above maxval are refused at the first such, counted with the old ones
pub refused : (l : Limits) (old samples : List ℕ) (i n : ℕ) → All (λ h. h ≤ l.maxval) (take i samples) →
    IsSomeAnd (slice_get samples i) (λ h. l.maxval < h) → n ≡ length old + i → Refuses l old samples (AboveMaxval n)
refused l old samples i n before above e rest =
    ap (after old) (samples-refused l (length old) samples i rest before above)
    ∙ ap (λ (k : ℕ). let r : RasterAnswer = Err (AboveMaxval k) in r) (sym e)

-- a chunk, and then the others
pub chunk-pushed : (l : Limits) (old new xs ys all : List ℕ) → all ≡ xs ++ ys → Pushes l old xs new →
    length new ≡ length old + length xs → (rest : RasterAnswer) →
    after old (samples_then l (length old) all rest) ≡ after new (samples_then l (length new) ys rest)
chunk-pushed l old new xs ys all e step long rest =
    ap (λ (s : List ℕ). after old (samples_then l (length old) s rest)) e
    ∙ ap (after old) (samples-append l (length old) xs ys rest)
    ∙ step (samples_then l (length old + length xs) ys rest)
    ∙ ap (λ (k : ℕ). after new (samples_then l k ys rest)) (sym long)

-- samples that begin with a chunk that is refused are refused so
pub chunk-refused : (l : Limits) (old xs ys all : List ℕ) (fault : RasterFault) → all ≡ xs ++ ys →
    Refuses l old xs fault → Refuses l old all fault
chunk-refused l old xs ys all fault e step rest =
    ap (λ (s : List ℕ). after old (samples_then l (length old) s rest)) e
    ∙ ap (after old) (samples-append l (length old) xs ys rest)
    ∙ step (samples_then l (length old + length xs) ys rest)

-- ---- bytes that are a sample each

-- bytes that are still wanted are samples, and then the others come
pub bytes-samples : (l : Limits) (index at : ℕ) (bytes more : List ℕ) → index + length bytes ≤ l.count →
    bytes_from l index at (bytes ++ more)
    ≡ samples_then l index bytes (bytes_from l (index + length bytes) (at + length bytes) more)
bytes-samples l index at [] more room =
    let e : index ≡ index + 0 = omega arith in
    let f : at ≡ at + 0 = omega arith in
    ap₂ (λ (i : ℕ) (p : ℕ). bytes_from l i p more) e f
bytes-samples l index at (byte ∷ bytes) more room =
    let e : index + 1 + length bytes ≡ index + suc (length bytes) = omega arith in
    let f : at + 1 + length bytes ≡ at + suc (length bytes) = omega arith in
    cond-true _ _ _ (lt-ltb index l.count (omega arith))
    ∙ ap (sample_then l index byte) (bytes-samples l (index + 1) (at + 1) bytes more (omega arith)
    ∙ ap₂ (λ (i : ℕ) (p : ℕ). samples_then l (index + 1) bytes (bytes_from l i p more)) e f)

-- behind all samples the first byte is trailing
pub bytes-full : (l : Limits) (index at : ℕ) (bytes more : List ℕ) → l.count ≤ index → 0 < length bytes →
    bytes_from l index at (bytes ++ more) ≡ Err (Trailing at)
bytes-full l index at [] more full some = absurd (omega arith)
bytes-full l index at (byte ∷ bytes) more full some = cond-false _ _ _ (le-ltb index l.count full)

-- a prefix of a piece was added
pub bytes-front : (l : Limits) (old new piece : List ℕ) (at n : ℕ) → n ≤ length piece → length old + n ≤ l.count →
    Pushes l old (take n piece) new → length new ≡ length old + n → (more : List ℕ)
    → after old (bytes_from l (length old) at (piece ++ more))
    ≡ after new (bytes_from l (length new) (at + n) (drop n piece ++ more))
bytes-front l old new piece at n short room step long more =
    let size : length (take n piece) ≡ n = length-take-le n piece short in
    ap (λ (s : List ℕ). after old (bytes_from l (length old) at (s ++ more))) (sym (take-append-drop n piece))
    ∙ ap (λ (s : List ℕ). after old (bytes_from l (length old) at s)) (append_assoc (take n piece) (drop n piece) more)
    ∙ ap (after old) (bytes-samples l (length old) at (take n piece) (drop n piece ++ more) (omega arith))
    ∙ step (bytes_from l (length old + length (take n piece)) (at + length (take n piece)) (drop n piece ++ more))
    ∙ ap₂ (λ (i : ℕ) (p : ℕ). after new (bytes_from l i p (drop n piece ++ more))) (ap (λ (k : ℕ). length old + k) size
    ∙ sym long) (ap (λ (k : ℕ). at + k) size)

-- a prefix of a piece was refused, and so is the piece, whatever follows
pub bytes-front-refused : (l : Limits) (old piece : List ℕ) (at n : ℕ) (fault : RasterFault) → n ≤ length piece →
    length old + n ≤ l.count → Refuses l old (take n piece) fault → (more : List ℕ)
    → after old (bytes_from l (length old) at (piece ++ more)) ≡ Err fault
bytes-front-refused l old piece at n fault short room step more =
    let size : length (take n piece) ≡ n = length-take-le n piece short in
    ap (λ (s : List ℕ). after old (bytes_from l (length old) at (s ++ more))) (sym (take-append-drop n piece))
    ∙ ap (λ (s : List ℕ). after old (bytes_from l (length old) at s)) (append_assoc (take n piece) (drop n piece) more)
    ∙ ap (after old) (bytes-samples l (length old) at (take n piece) (drop n piece ++ more) (omega arith))
    ∙ step (bytes_from l (length old + length (take n piece)) (at + length (take n piece)) (drop n piece ++ more))

-- ---- bytes, two of which are a sample

-- pairs of bytes that are still wanted are samples, and then the others come
pub words-samples : (l : Limits) (index at : ℕ) (bytes more : List ℕ) (k : ℕ) → length bytes ≡ 2 * k →
    index + k ≤ l.count → words_from l index None at (bytes ++ more)
    ≡ samples_then l index (words_of bytes) (words_from l (index + k) None (at + length bytes) more)
words-samples l index at [] more k even room =
    let e : index ≡ index + k = omega arith in
    let f : at ≡ at + 0 = omega arith in
    ap₂ (λ (i : ℕ) (p : ℕ). words_from l i None p more) e f
words-samples l index at (high ∷ []) more k even room = absurd (omega arith)
words-samples l index at (high ∷ low ∷ bytes) more zero even room = absurd (omega arith)
words-samples l index at (high ∷ low ∷ bytes) more (suc k) even room =
    let e : index + 1 + k ≡ index + suc k = omega arith in
    let f : at + 1 + 1 + length bytes ≡ at + suc (suc (length bytes)) = omega arith in
    cond-true _ _ _ (lt-ltb index l.count (omega arith))
    ∙ ap (sample_then l index (256 * high + low))
    (words-samples l (index + 1) (at + 1 + 1) bytes more k (omega arith) (omega arith)
    ∙ ap₂ (λ (i : ℕ) (p : ℕ). samples_then l (index + 1) (words_of bytes) (words_from l i None p more)) e f)

-- behind all samples the first byte is trailing
pub words-full : (l : Limits) (index at : ℕ) (bytes more : List ℕ) → l.count ≤ index → 0 < length bytes →
    words_from l index None at (bytes ++ more) ≡ Err (Trailing at)
words-full l index at [] more full some = absurd (omega arith)
words-full l index at (byte ∷ bytes) more full some = cond-false _ _ _ (le-ltb index l.count full)

-- where a sample is still wanted, a byte is the first of its two
pub words-half : (l : Limits) (index at byte : ℕ) (more : List ℕ) → index < l.count →
    words_from l index None at (byte ∷ more) ≡ words_from l index (Some byte) (at + 1) more
words-half l index at byte more wanted = cond-true _ _ _ (lt-ltb index l.count wanted)

-- whole pairs at the beginning of a piece were added, and what is left of it comes
pub words-front : (l : Limits) (old new piece : List ℕ) (at k : ℕ) → 2 * k ≤ length piece → length old + k ≤ l.count →
    Pushes l old (words_of (take (2 * k) piece)) new → length new ≡ length old + k → (more : List ℕ)
    → after old (words_from l (length old) None at (piece ++ more))
    ≡ after new (words_from l (length new) None (at + 2 * k) (drop (2 * k) piece ++ more))
words-front l old new piece at k short room step long more =
    let size : length (take (2 * k) piece) ≡ 2 * k = length-take-le (2 * k) piece short in
    ap (λ (s : List ℕ). after old (words_from l (length old) None at (s ++ more)))
    (sym (take-append-drop (2 * k) piece))
    ∙ ap (λ (s : List ℕ). after old (words_from l (length old) None at s))
    (append_assoc (take (2 * k) piece) (drop (2 * k) piece) more)
    ∙ ap (after old) (words-samples l (length old) at (take (2 * k) piece) (drop (2 * k) piece ++ more) k size room)
    ∙ step (words_from l (length old + k) None (at + length (take (2 * k) piece)) (drop (2 * k) piece ++ more))
    ∙ ap₂ (λ (i : ℕ) (p : ℕ). after new (words_from l i None p (drop (2 * k) piece ++ more))) (sym long)
    (ap (λ (n : ℕ). at + n) size)

-- whole pairs at the beginning of a piece were refused, and so is the piece, whatever follows
pub words-front-refused : (l : Limits) (old piece : List ℕ) (at k : ℕ) (fault : RasterFault) → 2 * k ≤ length piece →
    length old + k ≤ l.count → Refuses l old (words_of (take (2 * k) piece)) fault → (more : List ℕ)
    → after old (words_from l (length old) None at (piece ++ more)) ≡ Err fault
words-front-refused l old piece at k fault short room step more =
    let size : length (take (2 * k) piece) ≡ 2 * k = length-take-le (2 * k) piece short in
    ap (λ (s : List ℕ). after old (words_from l (length old) None at (s ++ more)))
    (sym (take-append-drop (2 * k) piece))
    ∙ ap (λ (s : List ℕ). after old (words_from l (length old) None at s))
    (append_assoc (take (2 * k) piece) (drop (2 * k) piece) more)
    ∙ ap (after old) (words-samples l (length old) at (take (2 * k) piece) (drop (2 * k) piece ++ more) k size room)
    ∙ step (words_from l (length old + k) None (at + length (take (2 * k) piece)) (drop (2 * k) piece ++ more))

-- ---- how a piece ends

-- all bytes of a piece were added as samples: the piece has been read
pub bytes-taken : (l : Limits) (old new piece front : List ℕ) (at n : ℕ) → front ≡ take n piece → n ≡ length piece →
    length old + n ≤ l.count → Pushes l old front new → length new ≡ length old + n → (more : List ℕ)
    → after old (bytes_from l (length old) at (piece ++ more))
    ≡ after new (bytes_from l (length new) (at + length piece) more)
bytes-taken l old new piece front at n f e room step long more =
    let none : drop n piece ≡ [] = drop_all n piece (omega arith) in
    bytes-front l old new piece at n (omega arith) room (subst (λ (s : List ℕ). Pushes l old s new) f step) long more
    ∙ ap₂ (λ (p : ℕ) (s : List ℕ). after new (bytes_from l (length new) (at + p) (s ++ more))) e none

-- bytes of a piece were added up to the last sample: the byte behind them is trailing
pub bytes-trailing : (l : Limits) (old new piece front : List ℕ) (at n m : ℕ) → front ≡ take n piece →
    n < length piece → length old + n ≡ l.count → Pushes l old front new →
    length new ≡ length old + n → m ≡ n → (more : List ℕ)
    → after old (bytes_from l (length old) at (piece ++ more)) ≡ Err (Trailing (at + m))
bytes-trailing l old new piece front at n m f e room step long same more =
    bytes-front l old new piece at n (omega arith) (omega arith)
    (subst (λ (s : List ℕ). Pushes l old s new) f step) long more
    ∙ ap (after new) (bytes-full l (length new) (at + n) (drop n piece) more (omega arith)
    (omega (arith, length-drop n piece)))
    ∙ ap (λ (k : ℕ). let r : RasterAnswer = Err (Trailing (at + k)) in r) (sym same)

-- all bytes of a piece were added as pairs: the piece has been read
pub words-taken : (l : Limits) (old new piece front : List ℕ) (at k : ℕ) → front ≡ take (2 * k) piece →
    2 * k ≡ length piece → length old + k ≤ l.count → Pushes l old (words_of front) new →
    length new ≡ length old + k → (more : List ℕ)
    → after old (words_from l (length old) None at (piece ++ more))
    ≡ after new (words_from l (length new) None (at + length piece) more)
words-taken l old new piece front at k f e room step long more =
    let none : drop (2 * k) piece ≡ [] = drop_all (2 * k) piece (omega arith) in
    words-front l old new piece at k (omega arith) room
    (subst (λ (s : List ℕ). Pushes l old (words_of s) new) f step) long more
    ∙ ap₂ (λ (p : ℕ) (s : List ℕ). after new (words_from l (length new) None (at + p) (s ++ more))) e none

-- all bytes of a piece but the last were added as pairs: the last is the first half of a sample
pub words-cut_half : (l : Limits) (old new piece front back : List ℕ) (at k : ℕ) → front ≡ take (2 * k) piece →
    back ≡ drop (2 * k) piece → 2 * k + 1 ≡ length piece → length old + k < l.count →
    Pushes l old (words_of front) new → length new ≡ length old + k → (more : List ℕ)
    → after old (words_from l (length old) None at (piece ++ more))
    ≡ after new (words_from l (length new) (Some (get_or back 0 0)) (at + length piece) more)
words-cut_half l old new piece front back at k f b e room step long more =
    let one : length back ≡ 1 = ap length b ∙ length-drop (2 * k) piece ∙ omega arith in
    let rest : drop (2 * k) piece ≡ get_or back 0 0 ∷ [] = sym b ∙ one-entry back one in
    let place : at + 2 * k + 1 ≡ at + length piece = omega arith in
    words-front l old new piece at k (omega arith) (omega arith)
    (subst (λ (s : List ℕ). Pushes l old (words_of s) new) f step) long more
    ∙ ap (λ (s : List ℕ). after new (words_from l (length new) None (at + 2 * k) (s ++ more))) rest
    ∙ ap (after new) (words-half l (length new) (at + 2 * k) (get_or back 0 0) more (omega arith))
    ∙ ap (λ (p : ℕ). after new (words_from l (length new) (Some (get_or back 0 0)) p more)) place

-- pairs of a piece were added up to the last sample: the byte behind them is trailing
pub words-trailing : (l : Limits) (old new piece front : List ℕ) (at k m : ℕ) → front ≡ take (2 * k) piece →
    2 * k < length piece → length old + k ≡ l.count → Pushes l old (words_of front) new → length new ≡ length old + k →
    m ≡ 2 * k → (more : List ℕ)
    → after old (words_from l (length old) None at (piece ++ more)) ≡ Err (Trailing (at + m))
words-trailing l old new piece front at k m f e room step long same more =
    words-front l old new piece at k (omega arith) (omega arith)
    (subst (λ (s : List ℕ). Pushes l old (words_of s) new) f step) long more
    ∙ ap (after new) (words-full l (length new) (at + 2 * k) (drop (2 * k) piece) more (omega arith)
    (omega (arith, length-drop (2 * k) piece)))
    ∙ ap (λ (p : ℕ). let r : RasterAnswer = Err (Trailing (at + p)) in r) (sym same)

-- what is left of all samples, when some were added
abbrev pub Left : Limits → List ℕ → List ℕ → List ℕ → List ℕ → Type 0
Left l old all new left =
    (rest : RasterAnswer) →
    after old (samples_then l (length old) all rest) ≡ after new (samples_then l (length new) left rest)

-- ---- a refusal that is passed on

-- what holds of a refusal holds of a result that is this refusal
pub passed_on : {T : Type 0} → (r : Result T RasterFault) (f : RasterFault) (P : RasterFault → Type 0) →
    IsErrAnd r (λ e. e ≡ f) → P f → IfErr r P
passed_on (Ok x) f P same h = absurd same
passed_on (Err e) f P same h = subst P (sym same) h
