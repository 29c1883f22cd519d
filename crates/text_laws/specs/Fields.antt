-- The fields of a line, as the lines of a script and of a certificate are cut. This project's own format.
-- Words: without_last_cr, is_gap, begins_with_gap, fields_of, IsCutInto.
use Rattle.std.specs.Prelude.{◌≡◌, ℕ, ◌-◌, Bool, true, false, ◌==◌, ◌||◌, if◌then◌else◌, List, [], ◌∷◌, ◌++◌, length}
use Rattle.std.specs.Prelude.{take, slice_index}
use Rattle.std.specs.List.{All, onto_first}

-- a line without the CR (13) that is its last byte
abbrev pub without_last_cr : List ℕ → List ℕ
without_last_cr bytes = if slice_index bytes (length bytes - 1) == 13 then take (length bytes - 1) bytes else bytes

-- the byte separates fields: a blank (32) or a TAB (9)
abbrev pub is_gap : ℕ → Bool
is_gap byte = byte == 32 || byte == 9

-- the bytes have no first one, or it separates fields
abbrev pub begins_with_gap : List ℕ → Bool
begins_with_gap [] = true
begins_with_gap (byte ∷ bytes) = is_gap byte

-- the fields of a line: its longest runs of bytes other than blank and TAB
abbrev pub fields_of : List ℕ → List (List ℕ)
fields_of [] = []
fields_of (byte ∷ bytes) =
    if is_gap byte then fields_of bytes
    else (if begins_with_gap bytes then (byte ∷ []) ∷ fields_of bytes else onto_first byte (fields_of bytes))

-- the bytes are these fields, runs of other bytes with separating bytes before, between and behind them
pub data IsCutInto : List ℕ → List (List ℕ) → Type 0 where
  NoField : IsCutInto [] []
  Gap : (byte : ℕ) (bytes : List ℕ) (fields : List (List ℕ)) (gap : is_gap byte ≡ true)
      (more : IsCutInto bytes fields) → IsCutInto (byte ∷ bytes) fields
  LastField : (byte : ℕ) (run : List ℕ) (other : is_gap byte ≡ false) (others : All (λ b. is_gap b ≡ false) run) →
      IsCutInto (byte ∷ run) ((byte ∷ run) ∷ [])
  Field : (byte : ℕ) (run : List ℕ) (behind : ℕ) (bytes : List ℕ) (fields : List (List ℕ)) (other : is_gap byte ≡ false)
      (others : All (λ b. is_gap b ≡ false) run)
      (gap : is_gap behind ≡ true) (more : IsCutInto bytes fields) →
      IsCutInto (byte ∷ (run ++ behind ∷ bytes)) ((byte ∷ run) ∷ fields)
