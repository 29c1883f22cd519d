-- The least and the greatest of some samples.
use Rattle.std.specs.Prelude.{ℕ, ◌≤◌, List, All}
use Rattle.std.specs.List.{Contains}

-- this is one of the samples, and none is less
pub record IsLeast (samples : List ℕ) (low : ℕ) : Type 0 where
  pub bound : All (λ h. low ≤ h) samples
  pub held : Contains samples low

-- this is one of the samples, and none is greater
pub record IsGreatest (samples : List ℕ) (high : ℕ) : Type 0 where
  pub bound : All (λ h. h ≤ high) samples
  pub held : Contains samples high

-- low is the least of the samples and high the greatest
pub record IsRangeOf (samples : List ℕ) (low high : ℕ) : Type 0 where
  pub least : IsLeast samples low
  pub greatest : IsGreatest samples high
