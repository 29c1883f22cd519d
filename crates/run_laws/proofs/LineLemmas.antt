-- The lines of a text that is known up to some byte.
use Rattle.std.proofs.Common.{◌≡◌, ◌≢◌, ℕ, List, [], ◌∷◌, ◌++◌, All, refl, ◌∙◌, ap}
use Rattle.std.specs.List.{AllByRecursion, onto_first}
use Rattle.std.proofs.lemmas.Bool.{ne_eqb, cond-false}
use Rattle.std.proofs.lemmas.List.Elements.{recursion_from_All}
use Rattle.run_laws.specs.Walk.{lines_of}

-- no byte is an LF, by recursion
abbrev pub NoEnd : List ℕ → Type 0
NoEnd part = AllByRecursion (λ byte. byte ≢ 10) part

-- so of a list whose entries are no LF
pub no_end : (part : List ℕ) → All (λ byte. byte ≢ 10) part → NoEnd part
no_end part one = recursion_from_All (λ byte. byte ≢ 10) part one

-- and of one byte more that is none
pub no_end-append : (part : List ℕ) (byte : ℕ) → NoEnd part → byte ≢ 10 → NoEnd (part ++ byte ∷ [])
no_end-append [] byte one other = (other, tt)
no_end-append (x ∷ part) byte one other = (one.0, no_end-append part byte one.1 other)

-- a byte other than LF goes onto the first line
pub lines_of-byte : (byte : ℕ) (bytes : List ℕ) → byte ≢ 10 → lines_of (byte ∷ bytes) ≡ onto_first byte (lines_of bytes)
lines_of-byte byte bytes other =
    cond-false _ ([] ∷ lines_of bytes) (onto_first byte (lines_of bytes)) (ne_eqb byte 10 other)

-- a line ends at its LF
pub lines_of-ends : (part more : List ℕ) → NoEnd part → lines_of (part ++ 10 ∷ more) ≡ part ∷ lines_of more
lines_of-ends [] more none = refl
lines_of-ends (byte ∷ part) more none =
    lines_of-byte byte (part ++ 10 ∷ more) none.0 ∙ ap (onto_first byte) (lines_of-ends part more none.1)

-- the last line needs no LF
pub lines_of-last : (byte : ℕ) (part : List ℕ) → NoEnd (byte ∷ part) → lines_of (byte ∷ part) ≡ (byte ∷ part) ∷ []
lines_of-last byte [] none = lines_of-byte byte [] none.0
lines_of-last byte (next ∷ part) none =
    lines_of-byte byte (next ∷ part) none.0 ∙ ap (onto_first byte) (lines_of-last next part none.1)

-- so of bytes that are some
pub lines_of-only : (part : List ℕ) → NoEnd part → part ≢ [] → lines_of part ≡ part ∷ []
lines_of-only [] none some = absurd (some refl)
lines_of-only (byte ∷ part) none some = lines_of-last byte part none

-- the first line and the others of a list that has one
abbrev pub BeginsWith : List ℕ → List (List ℕ) → Type 0
BeginsWith part lines = (tail : List ℕ) × (others : List (List ℕ)) × (lines ≡ (part ++ tail) ∷ others)

onto-BeginsWith : (byte : ℕ) (lines : List (List ℕ)) → BeginsWith (byte ∷ []) (onto_first byte lines)
onto-BeginsWith byte [] = ([], [], refl)
onto-BeginsWith byte (line ∷ lines) = (line, lines, refl)

-- bytes without an LF begin the first line, whatever follows
pub lines_of-begins : (byte : ℕ) (part more : List ℕ) → NoEnd (byte ∷ part) →
    BeginsWith (byte ∷ part) (lines_of (byte ∷ (part ++ more)))
lines_of-begins byte [] more none =
    let P : List (List ℕ) → Type 0 = λ lines. BeginsWith (byte ∷ []) lines in
    let e = lines_of-byte byte more none.0 in
    rw e (onto-BeginsWith byte (lines_of more))
lines_of-begins byte (next ∷ part) more none =
    let rest = lines_of-begins next part more none.1 in
    (rest.0, rest.1, lines_of-byte byte (next ∷ (part ++ more)) none.0 ∙ ap (onto_first byte) rest.2)
