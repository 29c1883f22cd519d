-- The text of a PGM file's header, byte by byte. The form is that of the Netpbm manual, "pgm"; that a
-- comment stands directly after whitespace, that exactly one whitespace byte follows the maxval, and that
-- a number has at most nine digits are this project's own.
--
-- Words: GapItem, item_bytes, is_comment_text, is_item, IsGap, IsNumberText, magic_text, IsHeaderText, comment_line,
-- written_header, IsHeaderPrefix, IsProperPrefix, IsUnfitAt, BeginsWithHeader.
use Rattle.std.specs.Prelude.{◌≡◌, ℕ, ◌+◌, ◌<◌, ◌≤◌, Bool, true, false, ◌&&◌, not, IsTrue, List, [], ◌∷◌, ◌++◌, length}
use Rattle.std.specs.Prelude.{take}
use Rattle.std.specs.Char.{is_ascii_digit}
use Rattle.std.specs.Fmt.{decimal}
use Rattle.std.specs.List.{flat_map, list_all}
use Rattle.pgm_grid.specs.declared.header_reader.TheConstants.{MOST_HEADER_BYTES}
use Rattle.text_laws.specs.Digits.{value_of}
use Rattle.text_laws.specs.Blanks.{is_white, is_line_end}
use Rattle.pgm_grid.specs.declared.header_machine.HeaderValues.{HeaderValues}

-- a part of a gap: a whitespace byte, or a comment with the line end that ends it
pub data GapItem : Type 0 where
  White : (byte : ℕ) → GapItem
  Comment : (text : List ℕ) (last : ℕ) → GapItem

-- the bytes of a part: a comment begins with `#` (35)
abbrev pub item_bytes : GapItem → List ℕ
item_bytes (White byte) = byte ∷ []
item_bytes (Comment text last) = 35 ∷ (text ++ last ∷ [])

-- no line end is among the bytes
abbrev pub is_comment_text : List ℕ → Bool
is_comment_text bytes = list_all (λ byte. not (is_line_end byte)) bytes

-- the bytes are of their kinds: no line end stands in a comment's text, and one stands after it
abbrev pub is_item : GapItem → Bool
is_item (White byte) = is_white byte
is_item (Comment text last) = is_comment_text text && is_line_end last

-- the bytes are a gap: one whitespace byte, and any parts. As each part ends with whitespace, each
-- comment stands directly after a whitespace byte
pub record IsGap (bytes : List ℕ) : Type 0 where
  pub first : ℕ
  pub items : List GapItem
  pub white : IsTrue (is_white first)
  pub valid : IsTrue (list_all is_item items)
  pub text : bytes ≡ first ∷ flat_map item_bytes items

-- the bytes are 1 to 9 digits, which are this number; zeros may lead
pub record IsNumberText (bytes : List ℕ) (number : ℕ) : Type 0 where
  pub some : 1 ≤ length bytes
  pub short : length bytes ≤ 9
  pub digits : IsTrue (list_all is_ascii_digit bytes)
  pub value : number ≡ value_of bytes

-- `P2` where the raster is plain, `P5` where it is raw
abbrev pub magic_text : Bool → List ℕ
magic_text true = 80 ∷ 50 ∷ []
magic_text false = 80 ∷ 53 ∷ []

-- the bytes are the text of a header with these values: the magic, a gap, the width, a gap, the height, a gap, the
-- maxval, and one whitespace byte
pub record IsHeaderText (bytes : List ℕ) (values : HeaderValues) : Type 0 where
  pub gap : List ℕ
  pub width_text : List ℕ
  pub second_gap : List ℕ
  pub height_text : List ℕ
  pub third_gap : List ℕ
  pub maxval_text : List ℕ
  pub last : ℕ
  pub is_gap : IsGap gap
  pub is_width : IsNumberText width_text values.width
  pub is_second_gap : IsGap second_gap
  pub is_height : IsNumberText height_text values.height
  pub is_third_gap : IsGap third_gap
  pub is_maxval : IsNumberText maxval_text values.maxval
  pub is_last : IsTrue (is_white last)
  pub text : bytes ≡ magic_text values.plain
      ++ (gap ++ (width_text ++ (second_gap ++ (height_text ++ (third_gap ++ (maxval_text ++ last ∷ []))))))

-- a comment that has a line of its own: `#`, its text, LF
abbrev pub comment_line : List ℕ → List ℕ
comment_line inside = 35 ∷ (inside ++ 10 ∷ [])

-- a header as programs write it: the magic, LF, comment lines, the width, a blank, the height, LF, the maxval, LF
abbrev pub written_header : HeaderValues → List (List ℕ) → List ℕ
written_header values comments =
    magic_text values.plain
    ++ ((10 ∷ flat_map comment_line comments) ++ (decimal values.width
    ++ (32 ∷ [] ++ (decimal values.height ++ (10 ∷ [] ++ (decimal values.maxval ++ 10 ∷ []))))))

-- the bytes are a prefix of the text of a header, or the whole of it
abbrev pub IsHeaderPrefix : List ℕ → Type 0
IsHeaderPrefix bytes = (rest : List ℕ) × (values : HeaderValues) × IsHeaderText (bytes ++ rest) values

-- the bytes are a prefix of the text of a header, and not the whole of it
abbrev pub IsProperPrefix : List ℕ → Type 0
IsProperPrefix bytes =
    (rest : List ℕ) × (values : HeaderValues) × (0 < length rest) × IsHeaderText (bytes ++ rest) values

-- the byte at this place is the first that continues no header
pub record IsUnfitAt (bytes : List ℕ) (place : ℕ) : Type 0 where
  pub within : place < length bytes
  pub good : IsProperPrefix (take place bytes)
  pub bad : IsHeaderPrefix (take (place + 1) bytes) → ⊥

-- the bytes begin with a header's text of at most `MOST_HEADER_BYTES`, which has these values
pub record BeginsWithHeader (bytes : List ℕ) (values : HeaderValues) : Type 0 where
  pub header : List ℕ
  pub rest : List ℕ
  pub is_text : IsHeaderText header values
  pub short : length header ≤ MOST_HEADER_BYTES
  pub text : bytes ≡ header ++ rest
