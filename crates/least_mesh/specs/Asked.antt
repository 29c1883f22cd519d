-- Flags that are set from the first address up.
-- Words: AreWantedFlagged.
use Rattle.std.specs.Prelude.{◌≡◌, ℕ, ◌<◌, ◌≤◌, Bool, false, List}
use Rattle.mesh_laws.specs.Sweep.{is_flagged}

-- below k the flags are those of the wanted ones, and from k up none is set
pub record AreWantedFlagged (wanted : ℕ → Bool) (flags : List Bool) (k : ℕ) : Type 0 where
  pub below : (a : ℕ) → a < k → is_flagged flags a ≡ wanted a
  pub above : (a : ℕ) → k ≤ a → is_flagged flags a ≡ false
