-- Places that are passed over because no number stands there. This project's own words.
-- Words: IsClear, IsFirstIn, first_set.
use Rattle.std.specs.Prelude.{◌≡◌, ℕ, ◌+◌, ◌<◌, ◌≤◌, ◌==◌, if◌then◌else◌, List, slice_index}
use Rattle.std.specs.Int.{w64, trailing_zeros}

-- no number stands from one place to the other
abbrev pub IsClear : List ℕ → ℕ → ℕ → Type 0
IsClear numbers from to = (k : ℕ) → from ≤ k → k < to → slice_index numbers k ≡ 0

-- of n places from this one on so many are clear, and then one is not, if there are more
pub record IsFirstIn (numbers : List ℕ) (at n passed : ℕ) : Type 0 where
  pub few : passed ≤ n
  pub clear : IsClear numbers at (at + passed)
  pub number : passed < n → slice_index numbers (at + passed) ≡ 0 → ⊥

-- the place of the lowest bit that is set, or n
abbrev pub first_set : ℕ → ℕ → ℕ
first_set mask n = if mask == 0 then n else trailing_zeros w64 mask
