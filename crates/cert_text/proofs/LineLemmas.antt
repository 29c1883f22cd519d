-- Texts of lines whose fields have one blank between them: a line is one line, and what it says is read back; and so are
-- lines one after the other.
use Rattle.std.proofs.Common.{◌≡◌, ◌≢◌, ℕ, zero, suc, ◌+◌, ◌-◌, ◌*◌, ◌%◌, ◌^◌, ◌<◌, ◌≤◌, Bool, false, true, List, [], ◌∷◌}
use Rattle.std.proofs.Common.{◌++◌, length, map, get_or, Option, Some, None, refl, sym, ap, ap₂, ◌∙◌, subst, arith, lit<}
use Rattle.std.proofs.Common.{append_assoc, length-append, if◌then◌else◌}
use Rattle.std.specs.Prelude.{◌||◌, ◌&&◌, ◌==◌, decimal, nat_lt, nat_le, All}
use Rattle.std.specs.List.{flat_map}
use Rattle.std.proofs.lemmas.List.{append-nil}
use Rattle.std.proofs.lemmas.List.Elements.{All-head, All-tail, All-cons, All-nil}
use Rattle.std.proofs.lemmas.Bool.{ne_eqb, cond-false, lt-ltb, le-leb, le-ltb}
use Rattle.std.proofs.lemmas.Fmt.{decimal_by_steps, decimal_nonempty, length-decimal-le}
use Rattle.std.proofs.lemmas.Option.{none-some}
use Rattle.std.proofs.Math.Pow.{pow_mono}
use Rattle.text_laws.specs.Fields.{without_last_cr, is_gap, fields_of}
use Rattle.text_laws.proofs.FieldLemmas.{IsOther, fields-gap, fields-run}
use Rattle.text_laws.proofs.NumberLemmas.{decimal-back}
use Rattle.cert_text.specs.Lines.{AreFrom, IsOneLine, lines_from, line_of, number_below, address_in}

-- bytes that are no less than some

from-append : (low : ℕ) (xs ys : List ℕ) → AreFrom low xs → AreFrom low ys → AreFrom low (xs ++ ys)
from-append low [] ys a b = b
from-append low (x ∷ xs) ys a b = (a.0, from-append low xs ys a.1 b)

from-lower : (low lower : ℕ) (xs : List ℕ) → lower ≤ low → AreFrom low xs → AreFrom lower xs
from-lower low lower [] less a = tt
from-lower low lower (x ∷ xs) less a = (let own = a.0 in omega arith, from-lower low lower xs less a.1)

-- digits are above the blank
pub from-decimal : (n : ℕ) → n < 2 ^ 64 → AreFrom 33 (decimal n)
from-decimal = decimal_by_steps (λ n ds. AreFrom 33 ds) (λ n small. (omega arith, tt))
    (λ n ds big rest. from-append 33 ds ((48 + n % 10) ∷ []) rest (omega arith, tt))

-- a byte of a field separates none
big-other : (byte : ℕ) → 33 ≤ byte → is_gap byte ≡ false
big-other byte big =
    ap₂ (λ (a b : Bool). a || b) (ne_eqb byte 32 (λ e. absurd (omega arith)))
    (ne_eqb byte 9 (λ e. absurd (omega arith)))

all-other : (bytes : List ℕ) → AreFrom 33 bytes → All IsOther bytes
all-other [] a = All-nil IsOther
all-other (byte ∷ bytes) a = All-cons IsOther byte bytes (big-other byte a.0) (all-other bytes a.1)

-- no CR is dropped
at-no_cr : (bytes : List ℕ) (k : ℕ) → AreFrom 32 bytes → get_or bytes k 0 ≢ 13
at-no_cr [] k a e = absurd (omega arith)
at-no_cr (byte ∷ bytes) zero a e = let own = a.0 in absurd (omega arith)
at-no_cr (byte ∷ bytes) (suc k) a e = at-no_cr bytes k a.1 e

cr-kept : (bytes : List ℕ) → AreFrom 32 bytes → without_last_cr bytes ≡ bytes
cr-kept bytes a =
    cond-false (get_or bytes (length bytes - 1) 0 == 13) _ bytes
    (ne_eqb (get_or bytes (length bytes - 1) 0) 13 (at-no_cr bytes (length bytes - 1) a))

-- bytes from the blank on are one line
no-end : (bytes : List ℕ) → AreFrom 32 bytes → IsOneLine bytes
no-end [] a = All-nil (λ byte. byte ≢ 10)
no-end (byte ∷ bytes) a =
    All-cons (λ b. b ≢ 10) byte bytes (λ e. (let own = a.0 in absurd (omega arith))) (no-end bytes a.1)

-- fields

-- a field: some bytes above the blank, and not many
pub record IsField (field : List ℕ) : Type 0 where
  pub some : 0 < length field
  pub short : length field ≤ 20
  pub big : AreFrom 33 field

-- the text of a number of 32 bits is one
pub decimal-short : (n : ℕ) → n < 2 ^ 32 → length (decimal n) ≤ 19
decimal-short n fits = length-decimal-le 19 n (lit< tt) (omega arith) (omega arith)

pub decimal-field : (n : ℕ) → n < 2 ^ 32 → IsField (decimal n)
decimal-field n fits = record {
  some = decimal_nonempty n (omega arith);
  short = (let short = decimal-short n fits in omega arith);
  big = from-decimal n (omega arith);
}

-- a first field, and the others behind it with a blank before each
abbrev pub joined : List ℕ → List (List ℕ) → List ℕ
joined first [] = first
joined first (field ∷ fields) = joined (first ++ 32 ∷ field) fields

-- the others
abbrev rest : List (List ℕ) → List ℕ
rest [] = []
rest (field ∷ fields) = 32 ∷ (field ++ rest fields)

joined-rest : (first : List ℕ) (fields : List (List ℕ)) → joined first fields ≡ first ++ rest fields
joined-rest first [] = sym (append-nil first)
joined-rest first (field ∷ fields) =
    joined-rest (first ++ 32 ∷ field) fields ∙ append_assoc first (32 ∷ field) (rest fields)

rest-from : (fields : List (List ℕ)) → All IsField fields → AreFrom 32 (rest fields)
rest-from [] all = tt
rest-from (field ∷ fields) all = (
  omega arith,
  from-append 32 field (rest fields)
      (from-lower 33 32 field (omega arith) (All-head IsField field fields all).big)
      (rest-from fields (All-tail IsField field fields all)),
)

rest-short : (fields : List (List ℕ)) → All IsField fields → length (rest fields) ≤ 21 * length fields
rest-short [] all = omega arith
rest-short (field ∷ fields) all =
    let own = (All-head IsField field fields all).short in
    let others = rest-short fields (All-tail IsField field fields all) in
    let both = length-append field (rest fields) in omega arith

-- a field, and what is behind its blank
fields-word : (field rest : List ℕ) → IsField field → fields_of (field ++ 32 ∷ rest) ≡ field ∷ fields_of rest
fields-word [] rest is = let some = is.some in absurd (omega arith)
fields-word (byte ∷ run) rest is =
    fields-run byte run (32 ∷ rest) (big-other byte is.big.0) (all-other run is.big.1) refl
    ∙ ap (λ l. (byte ∷ run) ∷ l) (fields-gap 32 rest refl)

-- the last field
fields-end : (field : List ℕ) → IsField field → fields_of field ≡ field ∷ []
fields-end [] is = let some = is.some in absurd (omega arith)
fields-end (byte ∷ run) is =
    ap (λ l. fields_of (byte ∷ l)) (sym (append-nil run))
    ∙ fields-run byte run [] (big-other byte is.big.0) (all-other run is.big.1) refl

fields-rest : (first : List ℕ) (fields : List (List ℕ)) → IsField first → All IsField fields →
    fields_of (first ++ rest fields) ≡ first ∷ fields
fields-rest first [] is all = ap fields_of (append-nil first) ∙ fields-end first is
fields-rest first (field ∷ fields) is all =
    fields-word first (field ++ rest fields) is
    ∙ ap (λ l. first ∷ l) (fields-rest field fields (All-head IsField field fields all)
    (All-tail IsField field fields all))

-- lines

joined-from : (first : List ℕ) (fields : List (List ℕ)) → IsField first → All IsField fields →
    AreFrom 32 (joined first fields)
joined-from first fields is all = subst (AreFrom 32) (sym (joined-rest first fields))
    (from-append 32 first (rest fields) (from-lower 33 32 first (omega arith) is.big) (rest-from fields all))

-- a line of fields has no LF
pub joined-one : (first : List ℕ) (fields : List (List ℕ)) → IsField first → All IsField fields →
    IsOneLine (joined first fields)
joined-one first fields is all = no-end (joined first fields) (joined-from first fields is all)

-- a line of few fields says what its fields say
pub joined-says : {L : Type 0} (says : List (List ℕ) → Option L) (first : List ℕ) (fields : List (List ℕ)) →
    IsField first → All IsField fields → length fields ≤ 8 →
    line_of says (joined first fields) ≡ says (first ∷ fields)
joined-says says first fields is all few =
    let line = joined first fields in
    let short : length line ≤ 200 = (
    let own = is.short in let others = rest-short fields all in let both = length-append first (rest fields) in
    let same = ap length (joined-rest first fields) in omega arith
    ) in
    cond-false (nat_lt 200 (length line)) None (says (fields_of (without_last_cr line)))
    (le-ltb 200 (length line) short)
    ∙ ap (λ l. says (fields_of l)) (cr-kept line (joined-from first fields is all))
    ∙ ap (λ l. says (fields_of l)) (joined-rest first fields) ∙ ap says (fields-rest first fields is all)

-- the ends of the addresses of a grid are small
pub end-high : (n k : ℕ) → n ≤ 14 → k ≤ 2 → 2 ^ (2 * n + k) ≤ 2 ^ 30
end-high n k top few = let h : 2 * n + k ≤ 30 = omega arith in pow_mono h

-- numbers and addresses are read back
pub number-back : (end k : ℕ) → k < end → end ≤ 2 ^ 32 → number_below end (decimal k) ≡ Some k
number-back end k high most =
    ap (λ (o : Option ℕ). elim o as (λ _. Option ℕ) [ None ↦ None | Some b ↦ if nat_lt b end then Some b else None ])
    (decimal-back 19 k (lit< tt) (omega arith) (omega arith))
    ∙ ap (λ (v : Bool). if v then Some k else None) (lt-ltb k end high)

pub address-back : (end a : ℕ) → 2 ≤ a → a < end → end ≤ 2 ^ 30 → address_in end (decimal a) ≡ Some a
address-back end a low high most =
    ap (λ (o : Option ℕ). elim o as (λ _. Option ℕ) [
      | None ↦ None
      | Some b ↦ if nat_le 2 b && nat_lt b end then Some b else None
    ])
    (decimal-back 19 a (lit< tt) (omega arith) (omega arith))
    ∙ ap (λ (v : Bool). if v then Some a else None) (ap₂ (λ (x y : Bool). x && y) (le-leb 2 a low) (lt-ltb a end high))

-- lines one after the other

-- a line that is read as one that may stand there
pub line-next : {S L : Type 0} (taken : L → Option S) (o : Option L) (line : L) (next : S) → o ≡ Some line →
    taken line ≡ Some next → (elim o as (λ _. Option S) [ None ↦ None | Some l ↦ taken l ]) ≡ Some next
line-next {S = S} {L = L} taken o line next is may =
    ap (λ (p : Option L). elim p as (λ _. Option S) [ None ↦ None | Some l ↦ taken l ]) is ∙ may

-- a line that may stand there, and the others
pub lines-step : {S : Type 0} (step : S → List ℕ → Option S) (read next : S) (bytes : List ℕ) (lines : List (List ℕ)) →
    step read bytes ≡ Some next → lines_from step read (bytes ∷ lines) ≡ lines_from step next lines
lines-step {S = S} step read next bytes lines is =
    ap (λ (o : Option S). elim o as (λ _. Option S) [ None ↦ None | Some after ↦ lines_from step after lines ]) is

-- the lines of a list's entries, where each may stand behind those before it: `at` tells what was read by then
pub entries-back : {S A : Type 0} (step : S → List ℕ → Option S) (at : List A → S) (text : A → List ℕ)
    (Is : A → Type 0) (most : ℕ) →
    ((done : List A) (a : A) → Is a → length done < most → step (at done) (text a) ≡ Some (at (done ++ a ∷ []))) →
    (done entries : List A) (more : List (List ℕ)) → All Is entries → length done + length entries ≤ most →
    lines_from step (at done) (map text entries ++ more) ≡ lines_from step (at (done ++ entries)) more
entries-back step at text Is most each done [] more all few =
    ap (λ l. lines_from step (at l) more) (sym (append-nil done))
entries-back step at text Is most each done (a ∷ entries) more all few =
    lines-step step (at done) (at (done ++ a ∷ [])) (text a) (map text entries ++ more)
    (each done a (All-head Is a entries all) (omega arith))
    ∙ entries-back step at text Is most each (done ++ a ∷ []) entries more (All-tail Is a entries all)
    (let e = length-append done (a ∷ []) in omega arith)
    ∙ ap (λ l. lines_from step (at l) more) (append_assoc done (a ∷ []) entries)

-- the same where they are the last
pub entries-end : {S A : Type 0} (step : S → List ℕ → Option S) (at : List A → S) (text : A → List ℕ)
    (Is : A → Type 0) (most : ℕ) →
    ((done : List A) (a : A) → Is a → length done < most → step (at done) (text a) ≡ Some (at (done ++ a ∷ []))) →
    (entries : List A) → All Is entries → length entries ≤ most →
    lines_from step (at []) (map text entries) ≡ Some (at entries)
entries-end step at text Is most each entries all few =
    ap (lines_from step (at [])) (sym (append-nil (map text entries)))
    ∙ entries-back step at text Is most each [] entries [] all (omega arith)

-- and none has an LF within
pub entries-whole : {A : Type 0} (text : A → List ℕ) (Is : A → Type 0) → ((a : A) → Is a → IsOneLine (text a)) →
    (entries : List A) (more : List (List ℕ)) → All Is entries → All IsOneLine more →
    All IsOneLine (map text entries ++ more)
entries-whole text Is each [] more all others = others
entries-whole text Is each (a ∷ entries) more all others =
    All-cons IsOneLine (text a) (map text entries ++ more) (each a (All-head Is a entries all))
    (entries-whole text Is each entries more (All-tail Is a entries all) others)

pub entries-one : {A : Type 0} (text : A → List ℕ) (Is : A → Type 0) → ((a : A) → Is a → IsOneLine (text a)) →
    (entries : List A) → All Is entries → All IsOneLine (map text entries)
entries-one text Is each [] all = All-nil IsOneLine
entries-one text Is each (a ∷ entries) all =
    All-cons IsOneLine (text a) (map text entries) (each a (All-head Is a entries all))
    (entries-one text Is each entries (All-tail Is a entries all))

-- lines that are ended by an LF (10)
pub lines-ended : {A : Type 0} (f : A → List ℕ) (xs : List A) →
    flat_map (λ line. line ++ 10 ∷ []) (map f xs) ≡ flat_map (λ x. f x ++ 10 ∷ []) xs
lines-ended f [] = refl
lines-ended f (x ∷ xs) = ap (λ l. f x ++ 10 ∷ [] ++ l) (lines-ended f xs)

-- how much lines say, of which each says one thing more

-- what is read counts as what it is
pub counted-some : {S : Type 0} (count : S → ℕ) (one next : S) (k : ℕ) → count one ≡ k →
    (let o : Option S = Some one in o) ≡ Some next → count next ≡ k
counted-some {S = S} count one next k is e = sym (ap count (same e)) ∙ is
  where
    same : (let o : Option S = Some one in o) ≡ Some next → one ≡ next
    same f = cc

-- behind a test
pub counted-if : {S : Type 0} (count : S → ℕ) (test : Bool) (one next : S) (k : ℕ) → count one ≡ k →
    (if test then Some one else None) ≡ Some next → count next ≡ k
counted-if count true one next k is e = counted-some count one next k is e
counted-if count false one next k is e = absurd (none-some next e)

-- behind what a line says
pub counted-line : {S L : Type 0} (count : S → ℕ) (taken : L → Option S) (next : S) (k : ℕ) →
    ((line : L) → taken line ≡ Some next → count next ≡ k) → (o : Option L) →
    (elim o as (λ _. Option S) [ None ↦ None | Some line ↦ taken line ]) ≡ Some next → count next ≡ k
counted-line count taken next k each None e = absurd (none-some next e)
counted-line count taken next k each (Some line) e = each line e
