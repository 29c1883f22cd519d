-- A table of numbers with a flag for each block of 64 places. This project's own words.
-- Words: is_used, AreFlagged, block_end, IsCounted.
use Rattle.std.specs.Prelude.{◌≡◌, ℕ, ◌+◌, ◌*◌, ◌/◌, ◌≤◌, ◌++◌, Bool, false, List, length, take, drop, min, slice_index}
use Rattle.std.specs.Prelude.{slice_index_or}
use Rattle.obj_write.specs.VertexMarks.{numbered, marked}

-- the flag of the block of a place
abbrev pub is_used : List Bool → ℕ → Bool
is_used used k = slice_index_or used (k / 64) false

-- each place has a block with a flag, no flag is more than needed, and no number stands in a block whose flag is not
-- set
pub record AreFlagged (numbers : List ℕ) (used : List Bool) : Type 0 where
  pub room : length numbers ≤ 64 * length used
  pub close : 64 * length used ≤ length numbers + 64
  pub clear : (k : ℕ) → is_used used k ≡ false → slice_index numbers k ≡ 0

-- the first place behind so many blocks
abbrev pub block_end : List ℕ → ℕ → ℕ
block_end numbers blocks = min (64 * blocks) (length numbers)

-- The marks before a place are counted and numbered, so many, and those from there on are as they were.
pub record IsCounted (marks numbers : List ℕ) (count at : ℕ) : Type 0 where
  pub few : count ≤ at
  pub within : at ≤ length numbers
  pub so_far : numbered 0 marks ≡ take at numbers ++ numbered count (drop at numbers)
  pub total : marked marks ≡ count + marked (drop at numbers)
