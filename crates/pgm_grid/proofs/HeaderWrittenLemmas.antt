-- Headers as programs write them.
use Rattle.std.proofs.Common.{◌≡◌, ℕ, ◌^◌, ◌<◌, true, List, [], ◌∷◌, ◌++◌, refl, ap, arith}
use Rattle.std.specs.Fmt.{decimal}
use Rattle.std.specs.List.{flat_map, list_all}
use Rattle.std.proofs.lemmas.Bool.{and_parts, and_from}
use Rattle.std.proofs.lemmas.Fmt.{decimal_nonempty, length-decimal-le}
use Rattle.text_laws.proofs.DigitLemmas.{decimal-is}
use Rattle.pgm_grid.specs.HeaderText.{GapItem, Comment, item_bytes, is_comment_text, is_item, IsGap, IsNumberText}
use Rattle.pgm_grid.specs.HeaderText.{comment_line}
use Rattle.pgm_grid.specs.HeaderLaws.{WrittenHeadersAreTexts}
use Rattle.pgm_grid.proofs.HeaderMachineLemmas.{gap_first}

-- Numbers.

-- the decimal text of a number is a number's text
number-decimal : (n : ℕ) → n < 10 ^ 9 → IsNumberText (decimal n) n
number-decimal n small =
    let fits : n < 2 ^ 64 = omega arith in
    let parts = decimal-is n fits in
    record {
      some = omega (arith, decimal_nonempty n fits);
      short = length-decimal-le 9 n (omega arith) small fits;
      digits = parts.0;
      value = parts.1;
    }

-- Comment lines.

-- the parts of the gap that the comment lines are
abbrev lines_of : List (List ℕ) → List GapItem
lines_of [] = []
lines_of (inside ∷ comments) = Comment inside 10 ∷ lines_of comments

lines_bytes : (comments : List (List ℕ)) → flat_map comment_line comments ≡ flat_map item_bytes (lines_of comments)
lines_bytes [] = refl
lines_bytes (inside ∷ comments) = ap (λ (t : List ℕ). comment_line inside ++ t) (lines_bytes comments)

lines_valid : (comments : List (List ℕ)) → list_all is_comment_text comments ≡ true →
    list_all is_item (lines_of comments) ≡ true
lines_valid [] good = refl
lines_valid (inside ∷ comments) good =
    let both : (is_comment_text inside ≡ true) × (list_all is_comment_text comments ≡ true) =
    and_parts (is_comment_text inside) (list_all is_comment_text comments) good in
    and_from (is_item (Comment inside 10)) (list_all is_item (lines_of comments))
    (and_from (is_comment_text inside) true both.0 refl) (lines_valid comments both.1)

lines_gap : (comments : List (List ℕ)) → list_all is_comment_text comments ≡ true →
    IsGap (10 ∷ flat_map comment_line comments)
lines_gap comments good =
    record {
      first = 10;
      items = lines_of comments;
      white = refl;
      valid = lines_valid comments good;
      text = ap (λ (t : List ℕ). 10 ∷ t) (lines_bytes comments);
    }

-- a header as programs write it is a header's text, with any comment lines
pub written : WrittenHeadersAreTexts
written = λ values comments width height maxval good.
    record {
      gap = 10 ∷ flat_map comment_line comments;
      width_text = decimal values.width;
      second_gap = 32 ∷ [];
      height_text = decimal values.height;
      third_gap = 10 ∷ [];
      maxval_text = decimal values.maxval;
      last = 10;
      is_gap = lines_gap comments good;
      is_width = number-decimal values.width width;
      is_second_gap = gap_first 32 refl;
      is_height = number-decimal values.height height;
      is_third_gap = gap_first 10 refl;
      is_maxval = number-decimal values.maxval maxval;
      is_last = refl;
      text = refl;
    }
