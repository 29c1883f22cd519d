-- The fields of a line: what a separating byte does to them, and a run of others.
use Rattle.std.proofs.Common.{◌≡◌, ℕ, zero, suc, ◌+◌, ◌-◌, ◌<◌, ◌≤◌, Bool, true, false, List, [], ◌∷◌, ◌++◌, length}
use Rattle.std.proofs.Common.{get_or, take, drop, refl, sym, ap, ◌∙◌, subst, arith, add-one, drop-cons, length-append}
use Rattle.std.proofs.Common.{inl, inr}
use Rattle.std.specs.Prelude.{◌≢◌, ◌==◌, if◌then◌else◌}
use Rattle.std.specs.List.{All, onto_first}
use Rattle.std.proofs.lemmas.List.{take-append-drop, drop_all, append-nil}
use Rattle.std.proofs.Math.Seq.{get_or-append_seam, take-append_seam}
use Rattle.std.proofs.lemmas.Bool.Decides.{eqb_tells}
use Rattle.std.proofs.lemmas.List.Elements.{All-head, All-tail, All-cons, All-nil}
use Rattle.text_laws.specs.Fields.{without_last_cr, is_gap, begins_with_gap, fields_of, IsCutInto, NoField, Gap}
use Rattle.text_laws.specs.Fields.{LastField, Field}

-- a byte that separates fields is in none
pub fields-gap : (byte : ℕ) (bytes : List ℕ) → is_gap byte ≡ true → fields_of (byte ∷ bytes) ≡ fields_of bytes
fields-gap byte bytes gap =
    ap (λ (v : Bool). if v then fields_of bytes
    else (if begins_with_gap bytes then (byte ∷ []) ∷ fields_of bytes else onto_first byte (fields_of bytes))) gap

-- a byte of a field, as far as what follows it
pub fields-byte : (byte : ℕ) (bytes : List ℕ) → is_gap byte ≡ false
    → fields_of (byte ∷ bytes) ≡ (if begins_with_gap bytes then (byte ∷ []) ∷ fields_of bytes
    else onto_first byte (fields_of bytes))
fields-byte byte bytes other =
    ap (λ (v : Bool). if v then fields_of bytes
    else (if begins_with_gap bytes then (byte ∷ []) ∷ fields_of bytes else onto_first byte (fields_of bytes))) other

-- the last byte of a field
pub fields-last : (byte : ℕ) (bytes : List ℕ) → is_gap byte ≡ false → begins_with_gap bytes ≡ true →
    fields_of (byte ∷ bytes) ≡ (byte ∷ []) ∷ fields_of bytes
fields-last byte bytes other ends =
    fields-byte byte bytes other
    ∙ ap (λ (v : Bool). if v then (byte ∷ []) ∷ fields_of bytes else onto_first byte (fields_of bytes)) ends

-- a byte of a field that goes on
pub fields-inner : (byte : ℕ) (bytes : List ℕ) → is_gap byte ≡ false → begins_with_gap bytes ≡ false →
    fields_of (byte ∷ bytes) ≡ onto_first byte (fields_of bytes)
fields-inner byte bytes other goes_on =
    fields-byte byte bytes other
    ∙ ap (λ (v : Bool). if v then (byte ∷ []) ∷ fields_of bytes else onto_first byte (fields_of bytes)) goes_on

-- the byte is one of a field
abbrev pub IsOther : ℕ → Type 0
IsOther byte = is_gap byte ≡ false

-- a run of other bytes, up to the end or a separating byte, is a field
pub fields-run : (byte : ℕ) (run rest : List ℕ) → is_gap byte ≡ false → All IsOther run → begins_with_gap rest ≡ true
    → fields_of (byte ∷ (run ++ rest)) ≡ (byte ∷ run) ∷ fields_of rest
fields-run byte [] rest other none ends = fields-last byte rest other ends
fields-run byte (next ∷ run) rest other none ends =
    let first = All-head IsOther next run none in
    fields-inner byte (next ∷ (run ++ rest)) other first
    ∙ ap (onto_first byte) (fields-run next run rest first (All-tail IsOther next run none) ends)

-- the same, at a place
pub fields-cut : (bytes : List ℕ) (n : ℕ) → 0 < n → n ≤ length bytes → All IsOther (take n bytes) →
    begins_with_gap (drop n bytes) ≡ true
    → fields_of bytes ≡ take n bytes ∷ fields_of (drop n bytes)
fields-cut bytes zero positive within none ends = absurd (omega arith)
fields-cut [] (suc n) positive within none ends = absurd (omega arith)
fields-cut (byte ∷ bytes) (suc n) positive within none ends =
    ap (λ l. fields_of (byte ∷ l)) (sym (take-append-drop n bytes))
    ∙ fields-run byte (take n bytes) (drop n bytes) (All-head IsOther byte (take n bytes) none)
    (All-tail IsOther byte (take n bytes) none) ends

-- the bytes from a place on begin with a separating byte where that at the place is one
pub begins-drop : (bytes : List ℕ) (i : ℕ) (v : Bool) → i < length bytes → is_gap (get_or bytes i 0) ≡ v →
    begins_with_gap (drop i bytes) ≡ v
begins-drop bytes i v within is = ap begins_with_gap (drop-cons bytes i 0 within) ∙ is

-- bytes that begin with another one have none that separates at place 0
pub positive-gap : (bytes : List ℕ) (i : ℕ) → i < length bytes → is_gap (get_or bytes i 0) ≡ true →
    begins_with_gap bytes ≡ false → 0 < i
positive-gap [] i within gap other = absurd (omega arith)
positive-gap (byte ∷ bytes) zero within gap other = cc
positive-gap (byte ∷ bytes) (suc i) within gap other = omega arith

-- bytes of which none separates are one field
pub fields-whole : (bytes : List ℕ) (n : ℕ) → length bytes ≤ n → n ≤ length bytes → All IsOther (take n bytes) →
    begins_with_gap bytes ≡ false
    → fields_of bytes ≡ take (length bytes) bytes ∷ fields_of (drop (length bytes) bytes)
fields-whole [] n below within none other = cc
fields-whole (byte ∷ bytes) n below within none other =
    let e : n ≡ length (byte ∷ bytes) = omega arith in
    let all : All IsOther (take (length (byte ∷ bytes)) (byte ∷ bytes)) =
    subst (λ (k : ℕ). All IsOther (take k (byte ∷ bytes))) e none in
    fields-cut (byte ∷ bytes) (length (byte ∷ bytes)) (omega arith) (omega arith) all
    (ap begins_with_gap (drop_all (length (byte ∷ bytes)) (byte ∷ bytes) (omega arith)))

-- Runs

-- bytes that are cut into fields have these
pub fields-of_cut : (bytes : List ℕ) (fields : List (List ℕ)) → IsCutInto bytes fields → fields_of bytes ≡ fields
fields-of_cut _ _ NoField = refl
fields-of_cut _ _ (Gap byte bytes fields gap more) = fields-gap byte bytes gap ∙ fields-of_cut bytes fields more
fields-of_cut _ _ (LastField byte run other others) =
    ap (λ l. fields_of (byte ∷ l)) (sym (append-nil run)) ∙ fields-run byte run [] other others refl
fields-of_cut _ _ (Field byte run behind bytes fields other others gap more) =
    fields-run byte run (behind ∷ bytes) other others gap
    ∙ ap (λ l. (byte ∷ run) ∷ l) (fields-gap behind bytes gap ∙ fields-of_cut bytes fields more)

-- a byte before a field makes it longer; before a separating one it is a field
cut-more : (byte : ℕ) (bytes : List ℕ) (fields : List (List ℕ)) → is_gap byte ≡ false → begins_with_gap bytes ≡ false →
    IsCutInto bytes fields → IsCutInto (byte ∷ bytes) (onto_first byte fields)
cut-more byte _ _ other goes_on NoField = cc
cut-more byte _ _ other goes_on (Gap next bytes fields gap more) = cc
cut-more byte _ _ other goes_on (LastField next run first others) =
    LastField byte (next ∷ run) other (All-cons IsOther next run first others)
cut-more byte _ _ other goes_on (Field next run behind bytes fields first others gap more) =
    Field byte (next ∷ run) behind bytes fields other (All-cons IsOther next run first others) gap more

cut-alone : (byte : ℕ) (bytes : List ℕ) (fields : List (List ℕ)) → is_gap byte ≡ false → begins_with_gap bytes ≡ true →
    IsCutInto bytes fields → IsCutInto (byte ∷ bytes) ((byte ∷ []) ∷ fields)
cut-alone byte _ _ other ends NoField = LastField byte [] other (All-nil IsOther)
cut-alone byte _ _ other ends (Gap next bytes fields gap more) =
    Field byte [] next bytes fields other (All-nil IsOther) gap more
cut-alone byte _ _ other ends (LastField next run first others) = cc
cut-alone byte _ _ other ends (Field next run behind bytes fields first others gap more) = cc

cut-step : (byte : ℕ) (bytes : List ℕ) (gap begins : Bool) → is_gap byte ≡ gap → begins_with_gap bytes ≡ begins →
    IsCutInto bytes (fields_of bytes)
    → IsCutInto (byte ∷ bytes) (fields_of (byte ∷ bytes))
cut-step byte bytes true begins gap e more =
    subst (IsCutInto (byte ∷ bytes)) (sym (fields-gap byte bytes gap)) (Gap byte bytes (fields_of bytes) gap more)
cut-step byte bytes false true other e more =
    subst (IsCutInto (byte ∷ bytes)) (sym (fields-last byte bytes other e))
    (cut-alone byte bytes (fields_of bytes) other e more)
cut-step byte bytes false false other e more =
    subst (IsCutInto (byte ∷ bytes)) (sym (fields-inner byte bytes other e))
    (cut-more byte bytes (fields_of bytes) other e more)

-- each line is cut into its fields
pub cut-fields : (bytes : List ℕ) → IsCutInto bytes (fields_of bytes)
cut-fields [] = NoField
cut-fields (byte ∷ bytes) = cut-step byte bytes (is_gap byte) (begins_with_gap bytes) refl refl (cut-fields bytes)

-- A last CR

last-at : (bytes : List ℕ) (byte : ℕ) → get_or (bytes ++ byte ∷ []) (length (bytes ++ byte ∷ []) - 1) 0 ≡ byte
last-at bytes byte =
    let e : length (bytes ++ byte ∷ []) - 1 ≡ length bytes = omega (arith, length-append bytes (byte ∷ [])) in
    ap (λ k. get_or (bytes ++ byte ∷ []) k 0) e ∙ get_or-append_seam bytes byte [] 0

-- a CR that is the last byte is dropped
pub cr-dropped : (bytes : List ℕ) → without_last_cr (bytes ++ 13 ∷ []) ≡ bytes
cr-dropped bytes =
    let e : length (bytes ++ 13 ∷ []) - 1 ≡ length bytes = omega (arith, length-append bytes (13 ∷ [])) in
    ap (λ (v : Bool). if v then take (length (bytes ++ 13 ∷ []) - 1) (bytes ++ 13 ∷ []) else bytes ++ 13 ∷ [])
    (ap (λ b. b == 13) (last-at bytes 13))
    ∙ ap (λ k. take k (bytes ++ 13 ∷ [])) e ∙ take-append_seam bytes (13 ∷ [])

-- and no other last byte
pub last-kept : (bytes : List ℕ) (byte : ℕ) → byte ≢ 13 → without_last_cr (bytes ++ byte ∷ []) ≡ bytes ++ byte ∷ []
last-kept bytes byte differs =
    let other : (byte == 13) ≡ false = elim (eqb_tells byte 13) [ inl h ↦ absurd (differs h.1) | inr h ↦ h.0 ] in
    let test : (get_or (bytes ++ byte ∷ []) (length (bytes ++ byte ∷ []) - 1) 0 == 13) ≡ false =
    ap (λ b. b == 13) (last-at bytes byte) ∙ other in
    ap (λ (v : Bool). if v then take (length (bytes ++ byte ∷ []) - 1) (bytes ++ byte ∷ [])
    else bytes ++ byte ∷ []) test
