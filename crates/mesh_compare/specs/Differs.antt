-- Where a file differs from a text, and how far the two go together. This project's own words.
-- Words: first_difference, FindsDifference, HasFront, Gives, Matches, Agrees, IsReadInPart, left_of.
use Rattle.std.specs.Prelude.{◌≡◌, ℕ, suc, ◌<◌, ◌==◌, if◌then◌else◌, List, [], ◌∷◌, ◌++◌, length, Option, Some, None}
use Rattle.std.specs.Prelude.{option_map}
use Rattle.roam_edge.specs.Told.{IsPrefix}

-- the first place, counted from 0, where two texts differ or where only one goes on; none where they are the same
abbrev pub first_difference : List ℕ → List ℕ → Option ℕ
first_difference [] [] = None
first_difference [] (b ∷ bs) = Some 0
first_difference (a ∷ xs) [] = Some 0
first_difference (a ∷ xs) (b ∷ bs) = if a == b then option_map (λ k. suc k) (first_difference xs bs) else Some 0

-- what is left of a file, where it is told: bytes that were read and not yet compared, and the unread ones
abbrev pub left_of : List ℕ → Option (List ℕ) → Option (List ℕ)
left_of window unread = option_map (λ bytes. window ++ bytes) unread

-- where the file is told, what was found is the first difference of text and file
abbrev pub FindsDifference : List ℕ → Option (List ℕ) → Option ℕ → Type 0
FindsDifference text file found = (bytes : List ℕ) → file ≡ Some bytes → found ≡ first_difference text bytes

-- where the file is told, it begins with these bytes, and this is left behind them
abbrev pub HasFront : List ℕ → Option (List ℕ) → Option (List ℕ) → Type 0
HasFront front file left = (bytes : List ℕ) → file ≡ Some bytes →
    (behind : List ℕ) × (left ≡ Some behind) × (bytes ≡ front ++ behind)

-- the next byte of a file, and what is left behind it; none at its end
abbrev pub Gives : Option ℕ → Option (List ℕ) → Option (List ℕ) → Type 0
Gives None file left = (bytes : List ℕ) → file ≡ Some bytes → (bytes ≡ []) × (left ≡ Some [])
Gives (Some byte) file left = HasFront (byte ∷ []) file left

-- The file begins with this piece; or it differs from the piece at a place of it, whatever follows the piece.
abbrev pub Matches : List ℕ → Option (List ℕ) → Option (List ℕ) → Option ℕ → Type 0
Matches piece file left None = HasFront piece file left
Matches piece file left (Some k) =
    (k < length piece) × ((more : List ℕ) → FindsDifference (piece ++ more) file (Some k))

-- So many bytes of a text were compared, and the file has them. Of both the rest is left.
pub record Agrees (text : List ℕ) (file : Option (List ℕ)) (to_come : List ℕ)
    (left : Option (List ℕ)) (at : ℕ) : Type 0 where
  pub front : List ℕ
  pub of_text : text ≡ front ++ to_come
  pub of_file : HasFront front file left
  pub place : length front ≡ at

-- What was read of the file is a prefix of the text, and this is left unread.
pub record IsReadInPart (text : List ℕ) (file left : Option (List ℕ)) : Type 0 where
  pub read : List ℕ
  pub of_text : IsPrefix read text
  pub of_file : HasFront read file left
