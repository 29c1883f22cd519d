-- Fields of numbers, and texts that are put to their places one after another.
use Rattle.std.proofs.Common.{◌≡◌, ℕ, suc, ◌+◌, ◌-◌, ◌^◌, ◌<◌, ◌≤◌, List, [], ◌∷◌, ◌++◌, length, take, drop, get_or}
use Rattle.std.proofs.Common.{replicate, refl, sym, ◌∙◌, ap, arith, append_assoc, length-append, length-take-le}
use Rattle.std.proofs.Common.{length-drop, drop-cons, take-take, take_all, codes, decimal}
use Rattle.std.proofs.Math.ListN.{set}
use Rattle.std.proofs.Math.Seq.{take-append_seam, take-append-add}
use Rattle.std.proofs.lemmas.Fmt.{length-decimal-le}
use Rattle.std.proofs.lemmas.List.{get_or-take, get_or-replicate, length-set, take_more_set}
use Rattle.std.proofs.lemmas.Simd.{take_more_put_chunk, length-put_chunk}
use Rattle.std.specs.Simd.Lanes.{chunk, put_chunk}
use Rattle.obj_write.specs.declared.field.Field.{Field}
use Rattle.mesh_defs.specs.MeshText.{numbers_line}
use Rattle.obj_write.specs.Field.{IsFieldOf, IsWrittenAt, field_bytes, letter_line, number_field}

-- a number of 32 bits has at most ten digits
pub length-digits : (k : ℕ) → k < 2 ^ 32 → length (decimal k) ≤ 10
length-digits k fits = length-decimal-le 10 k (omega arith) (omega arith) (omega arith)

-- digits that were written behind blanks, with the last blank before them
pub blank-and-digits : (xs digits rest : List ℕ) (s : ℕ) → length xs ≡ 32 → s + 1 + length digits ≡ 16 →
    take (s + 1) xs ≡ take (s + 1) (replicate 32 32) → drop (s + 1) xs ≡ digits ++ rest →
    take (16 - s) (chunk 0 16 (take (32 - s) (drop s xs))) ≡ 32 ∷ digits
blank-and-digits xs digits rest s long ends before behind =
    let whole : take (32 - s) (drop s xs) ≡ drop s xs =
    take_all (32 - s) (drop s xs) (omega (arith, length-drop s xs)) in
    let blank : get_or xs s 0 ≡ 32 =
    sym (get_or-take (s + 1) xs s 0 (omega arith)) ∙ ap (λ l. get_or l s 0) before
    ∙ get_or-take (s + 1) (replicate 32 32) s 0 (omega arith) ∙ get_or-replicate 32 s 32 0 (omega arith) in
    let next : suc s ≡ s + 1 = omega arith in
    let tail : drop s xs ≡ 32 ∷ (digits ++ rest) =
    drop-cons xs s 0 (omega arith) ∙ ap (λ x. x ∷ drop (suc s) xs) blank ∙ ap (λ k. 32 ∷ drop k xs) next
    ∙ ap (λ l. 32 ∷ l) behind in
    let count : 16 - s ≡ length (32 ∷ digits) = omega arith in
    take-take (16 - s) 16 (take (32 - s) (drop s xs)) (omega arith)
    ∙ ap (take (16 - s)) (whole ∙ tail) ∙ ap (λ k. take k (32 ∷ (digits ++ rest))) count
    ∙ take-append_seam (32 ∷ digits) rest

-- one byte was put
pub placed-byte : (text : List ℕ) (at byte : ℕ) → at < length text →
    IsWrittenAt text (set text at byte) at (byte ∷ []) (at + 1)
placed-byte text at byte below = record {
  front = take_more_set text at byte below;
  moved = refl;
  long = length-set text at byte;
}

-- a field was copied with what stands behind it
pub placed-field : (text bytes : List ℕ) (at n : ℕ) → length bytes ≡ 16 → at + 16 ≤ length text → n ≤ 16 →
    IsWrittenAt text (put_chunk at text (chunk 0 16 bytes)) at (take n bytes) (at + n)
placed-field text bytes at n long room few =
    let copied : List ℕ = chunk 0 16 bytes in
    let all : length copied ≡ 16 = length-take-le 16 bytes (omega arith) in
    let before : length (take at text) ≡ at = length-take-le at text (omega arith) in
    record {
      front = sym (take-take (at + n) (at + 16) (put_chunk at text copied) (omega arith))
          ∙ ap (take (at + n)) (take_more_put_chunk at text copied (at + 16) (omega arith) room)
          ∙ ap (λ k. take (k + n) (take at text ++ copied)) (sym before)
          ∙ take-append-add (take at text) copied n
          ∙ ap (λ l. take at text ++ l) (take-take n 16 bytes few);
      moved = omega (arith, length-take-le n bytes (omega arith));
      long = length-put_chunk at text copied;
    }

-- one text behind another
pub placed-then : {a b c xs ys : List ℕ} {i j k : ℕ} → IsWrittenAt a b i xs j → IsWrittenAt b c j ys k →
    IsWrittenAt a c i (xs ++ ys) k
placed-then {a} {b} {c} {xs} {ys} {i} p q = record {
  front = q.front ∙ ap (λ l. l ++ ys) p.front ∙ append_assoc (take i a) xs ys;
  moved = omega (arith, p.moved, q.moved, length-append xs ys);
  long = q.long ∙ p.long;
}

-- the fields of three numbers behind a letter are their line
pub fields-line : (letter i j k : ℕ) (f g h : Field) → IsFieldOf f i → IsFieldOf g j → IsFieldOf h k →
    letter_line letter f g h ≡ numbers_line letter i j k
fields-line letter i j k f g h first second third =
    ap (λ t. (letter ∷ []) ++ (t ++ (field_bytes g ++ (field_bytes h ++ codes "\n")))) first.bytes
    ∙ ap (λ t. (letter ∷ []) ++ (number_field i ++ (t ++ (field_bytes h ++ codes "\n")))) second.bytes
    ∙ ap (λ t. (letter ∷ []) ++ (number_field i ++ (number_field j ++ (t ++ codes "\n")))) third.bytes
    ∙ joined (decimal i) (decimal j) (decimal k)
  where
    joined : (a b c : List ℕ) →
        (letter ∷ []) ++ ((codes " " ++ a) ++ ((codes " " ++ b) ++ ((codes " " ++ c) ++ codes "\n")))
        ≡ letter ∷ [] ++ codes " " ++ a ++ codes " " ++ b ++ codes " " ++ c ++ codes "\n"
    joined a b c = simp append_assoc
