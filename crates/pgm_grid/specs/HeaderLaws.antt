-- What bytes mean, in the words of the format.
use Rattle.std.specs.Prelude.{◌≡◌, ◌≢◌, ◌↔◌, ℕ, ◌^◌, ◌<◌, ◌≤◌, IsTrue, List, [], ◌++◌, length, take}
use Rattle.std.specs.List.{list_all}
use Rattle.pgm_grid.specs.declared.header_reader.TheConstants.{MOST_HEADER_BYTES}
use Rattle.mesh_defs.specs.HeightField.{side_of}
use Rattle.pgm_grid.specs.declared.header_machine.HeaderValues.{HeaderValues}
use Rattle.pgm_grid.specs.declared.accepted_header.Header.{Header}
use Rattle.pgm_grid.specs.declared.header_fault.HeaderFault.{HeaderFault}
use Rattle.pgm_grid.specs.declared.header_fault.HeaderFault.TheVariants.{BadMagic, BadHeader, HeaderTooLong, BadMaxval}
use Rattle.pgm_grid.specs.declared.header_fault.HeaderFault.TheVariants.{NotSquare, BadSide}
use Rattle.pgm_grid.specs.HeaderText.{is_comment_text, IsHeaderText, written_header, IsProperPrefix, IsUnfitAt}
use Rattle.pgm_grid.specs.HeaderText.{BeginsWithHeader}
use Rattle.pgm_grid.specs.AcceptedHeader.{IsLevel, IsMaxval, Accepts, Part, Whole, Bad}
use Rattle.pgm_grid.specs.HeaderReading.{header_of}

-- a header's text of at most `MOST_HEADER_BYTES` whose values are accepted is read, whatever follows
abbrev pub HeaderTextsAreRead : Type 0
HeaderTextsAreRead =
    (text rest : List ℕ) (values : HeaderValues) (header : Header) → IsHeaderText text values →
    length text ≤ MOST_HEADER_BYTES → Accepts values header
    → header_of (text ++ rest) ≡ Whole header rest

-- what is read is such a text, and then what is left
abbrev pub ReadTextsAreHeaders : Type 0
ReadTextsAreHeaders = (bytes rest : List ℕ) (header : Header) → header_of bytes ≡ Whole header rest
    → (text : List ℕ) × (values : HeaderValues) × IsHeaderText text values × (length text ≤ MOST_HEADER_BYTES)
    × Accepts values header × (bytes ≡ text ++ rest)

-- a header as programs write it is a header's text, with any comment lines
abbrev pub WrittenHeadersAreTexts : Type 0
WrittenHeadersAreTexts =
    (values : HeaderValues) (comments : List (List ℕ)) → values.width < 10 ^ 9 →
    values.height < 10 ^ 9 → values.maxval < 10 ^ 9
    → IsTrue (list_all is_comment_text comments) → IsHeaderText (written_header values comments) values

-- no header's text goes on as another, and none has two values
abbrev pub NoTextGoesOn : Type 0
NoTextGoesOn =
    (text more : List ℕ) (values others : HeaderValues) → IsHeaderText text values → IsHeaderText (text ++ more) others
    → (more ≡ []) × (others ≡ values)

-- bytes are a part of a header exactly where they are a proper prefix of one, and fewer than `MOST_HEADER_BYTES`
abbrev pub PartsArePrefixes : Type 0
PartsArePrefixes =
    (bytes : List ℕ) → (header_of bytes ≡ Part) ↔ (IsProperPrefix bytes × (length bytes < MOST_HEADER_BYTES))

-- a bad magic is answered exactly where the first or the second byte continues no header
abbrev pub HeadersRefuseBadMagics : Type 0
HeadersRefuseBadMagics =
    (bytes : List ℕ) → (header_of bytes ≡ Bad BadMagic) ↔ ((place : ℕ) × (place < 2) × IsUnfitAt bytes place)

-- a bad header is answered exactly at the place of a later byte that continues none
abbrev pub HeadersRefuseBadBytes : Type 0
HeadersRefuseBadBytes =
    (bytes : List ℕ) (place : ℕ) →
    (header_of bytes ≡ Bad (BadHeader place)) ↔ ((2 ≤ place) × (place < MOST_HEADER_BYTES) × IsUnfitAt bytes place)

-- a header is too long exactly where as many bytes as it may have are a proper prefix of one
abbrev pub HeadersRefuseTooMuch : Type 0
HeadersRefuseTooMuch =
    (bytes : List ℕ) → (header_of bytes ≡ Bad HeaderTooLong)
    ↔ ((MOST_HEADER_BYTES ≤ length bytes) × IsProperPrefix (take MOST_HEADER_BYTES bytes))

-- the maxval is tested first
abbrev pub HeadersRefuseBadMaxvals : Type 0
HeadersRefuseBadMaxvals =
    (bytes : List ℕ) → (header_of bytes ≡ Bad BadMaxval)
    ↔ ((values : HeaderValues) × BeginsWithHeader bytes values × ¬ IsMaxval values.maxval)

-- then the width and the height
abbrev pub HeadersRefuseOblongs : Type 0
HeadersRefuseOblongs = (bytes : List ℕ) → (header_of bytes ≡ Bad NotSquare)
    ↔ ((values : HeaderValues) × BeginsWithHeader bytes values × IsMaxval values.maxval
    × (values.width ≢ values.height))

-- and then the side
abbrev pub HeadersRefuseBadSides : Type 0
HeadersRefuseBadSides = (bytes : List ℕ) → (header_of bytes ≡ Bad BadSide)
    ↔ ((values : HeaderValues) × BeginsWithHeader bytes values × IsMaxval values.maxval × (values.width ≡ values.height)
    × ((n : ℕ) → IsLevel n → values.width ≢ side_of n))

-- no later byte changes a header that was read: it is left
abbrev pub ReadHeadersStand : Type 0
ReadHeadersStand =
    (bytes rest more : List ℕ) (header : Header) → header_of bytes ≡ Whole header rest →
    header_of (bytes ++ more) ≡ Whole header (rest ++ more)

-- nor a refusal
abbrev pub RefusalsStand : Type 0
RefusalsStand =
    (bytes more : List ℕ) (fault : HeaderFault) → header_of bytes ≡ Bad fault → header_of (bytes ++ more) ≡ Bad fault

-- bytes that are a part of a header are refused with some that follow
abbrev pub PartsAreRefusable : Type 0
PartsAreRefusable =
    (bytes : List ℕ) → header_of bytes ≡ Part →
    (more : List ℕ) × (fault : HeaderFault) × (header_of (bytes ++ more) ≡ Bad fault)
