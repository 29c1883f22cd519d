-- Samples of two bytes each, in bytes.
use Rattle.std.proofs.Common.{◌≡◌, ℕ, zero, suc, ◌+◌, ◌*◌, ◌/◌, ◌%◌, ◌<◌, ◌≤◌, List, [], ◌∷◌, ◌++◌, length, take, drop}
use Rattle.std.proofs.Common.{refl, sym, ap, ap₂, ◌∙◌, arith, take-append-drop, length-take-le}
use Rattle.std.specs.List.{flat_map}
use Rattle.text_laws.specs.Words.{two_bytes, words_of}

-- behind an even number of bytes the samples go on with those of the rest
pub words-append : (xs ys : List ℕ) (k : ℕ) → length xs ≡ 2 * k → words_of (xs ++ ys) ≡ words_of xs ++ words_of ys
words-append [] ys k e = refl
words-append (high ∷ []) ys k e = absurd (omega arith)
words-append (high ∷ low ∷ xs) ys zero e = absurd (omega arith)
words-append (high ∷ low ∷ xs) ys (suc k) e =
    ap (λ (ws : List ℕ). (256 * high + low) ∷ ws) (words-append xs ys k (omega arith))

-- each two bytes are one sample
pub length-words : (bytes : List ℕ) (k : ℕ) → length bytes ≡ 2 * k → length (words_of bytes) ≡ k
length-words [] k e = omega arith
length-words (high ∷ []) k e = absurd (omega arith)
length-words (high ∷ low ∷ bytes) zero e = absurd (omega arith)
length-words (high ∷ low ∷ bytes) (suc k) e = ap suc (length-words bytes k (omega arith))

-- each sample is two bytes
pub length-flat : (samples : List ℕ) → length (flat_map two_bytes samples) ≡ 2 * length samples
length-flat [] = refl
length-flat (s ∷ samples) = omega (arith, length-flat samples)

-- the bytes of samples are read as these samples
pub words-flat : (samples : List ℕ) → words_of (flat_map two_bytes samples) ≡ samples
words-flat [] = refl
words-flat (s ∷ samples) =
    let e : 256 * (s / 256) + s % 256 ≡ s = omega arith in
    ap₂ (λ (x : ℕ) (xs : List ℕ). x ∷ xs) e (words-flat samples)

-- two bytes are those of the sample that they are
pub two_bytes-back : (high low : ℕ) → high < 256 → low < 256 → high ∷ low ∷ [] ≡ two_bytes (256 * high + low)
two_bytes-back high low h l =
    let first : high ≡ (256 * high + low) / 256 = omega arith in
    let second : low ≡ (256 * high + low) % 256 = omega arith in
    ap₂ (λ (x : ℕ) (y : ℕ). x ∷ y ∷ []) first second

-- bytes that are cut at an even place are the samples of both parts
pub words-cut : (bytes : List ℕ) (n k : ℕ) → n ≡ 2 * k → n ≤ length bytes →
    words_of bytes ≡ words_of (take n bytes) ++ words_of (drop n bytes)
words-cut bytes n k e short =
    ap words_of (sym (take-append-drop n bytes))
    ∙ words-append (take n bytes) (drop n bytes) k (length-take-le n bytes short ∙ e)

-- the same of two parts with names
pub words-parts : (bytes front back : List ℕ) (n k : ℕ) → front ≡ take n bytes → back ≡ drop n bytes → n ≡ 2 * k →
    n ≤ length bytes → words_of bytes ≡ words_of front ++ words_of back
words-parts bytes front back n k f b e short =
    words-cut bytes n k e short ∙ ap₂ (λ (xs : List ℕ) (ys : List ℕ). words_of xs ++ words_of ys) (sym f) (sym b)
