-- The line of a certificate of a fitted mesh that some bytes are. This project's own format; fields are cut as those of
-- a script.
--
-- Words: fit_line_word, tolerance_line, off_of, tolerance_fields, off_fields, mesh_fields, fit_word_line,
-- fit_fields_line, read_fit_line, fit_line_is.
use Rattle.std.specs.Prelude.{◌≡◌, refl, ℕ, ◌+◌, ◌*◌, ◌^◌, if◌then◌else◌, List, [], ◌∷◌, Option, Some, None, codes, bytes_eq}
use Rattle.cert_text.specs.Lines.{line_of, number_below, address_in}
use Rattle.cert_text.specs.declared.fit_line.FitLine.{FitLine}
use Rattle.cert_text.specs.declared.fit_line.FitLine.TheVariants.{ToleranceLine, OffLine, MeshLine}
use Rattle.cert_text.specs.declared.fit_line.FitWord.{FitWord}
use Rattle.cert_text.specs.declared.fit_line.FitWord.TheVariants.{ToleranceWord, OffWord, MeshWord}

-- the word that the first field of a line is
abbrev pub fit_line_word : List ℕ → Option FitWord
fit_line_word field =
    if bytes_eq field (codes "tolerance") then Some ToleranceWord
    else (if bytes_eq field (codes "off") then Some OffWord
    else (if bytes_eq field (codes "mesh") then Some MeshWord else None))

-- the line of a tolerance
abbrev pub tolerance_line : Option ℕ → Option FitLine
tolerance_line None = None
tolerance_line (Some tolerance) = Some (ToleranceLine tolerance)

-- the line of a reason
abbrev pub off_of : Option ℕ → Option ℕ → Option ℕ → Option FitLine
off_of (Some a) (Some x) (Some y) = Some (OffLine (record { triangle = a; x = x; y = y }))
off_of _ _ _ = None

-- one number
abbrev pub tolerance_fields : List (List ℕ) → Option FitLine
tolerance_fields (field ∷ []) = tolerance_line (number_below (2 ^ 32) field)
tolerance_fields _ = None

-- an address of a triangle that may be split, a column and a row of the grid
abbrev pub off_fields : ℕ → List (List ℕ) → Option FitLine
off_fields n (a ∷ (x ∷ (y ∷ []))) =
    off_of (address_in (2 ^ (2 * n + 1)) a) (number_below (2 ^ n + 1) x) (number_below (2 ^ n + 1) y)
off_fields n _ = None

-- nothing more
abbrev pub mesh_fields : List (List ℕ) → Option FitLine
mesh_fields [] = Some MeshLine
mesh_fields _ = None

-- the line of a word and the fields behind it
abbrev pub fit_word_line : ℕ → Option FitWord → List (List ℕ) → Option FitLine
fit_word_line n None fields = None
fit_word_line n (Some ToleranceWord) fields = tolerance_fields fields
fit_word_line n (Some OffWord) fields = off_fields n fields
fit_word_line n (Some MeshWord) fields = mesh_fields fields

-- the line of these fields; there is none without a field
abbrev pub fit_fields_line : ℕ → List (List ℕ) → Option FitLine
fit_fields_line n [] = None
fit_fields_line n (first ∷ fields) = fit_word_line n (fit_line_word first) fields

-- The line that these bytes are, of a certificate of the grid with this n.
unfoldable pub read_fit_line : ℕ → List ℕ → Option FitLine
read_fit_line n bytes = line_of (fit_fields_line n) bytes

-- it is what its fields say
pub fit_line_is : (n : ℕ) (bytes : List ℕ) → read_fit_line n bytes ≡ line_of (fit_fields_line n) bytes
unfolding read_fit_line
fit_line_is n bytes = refl
