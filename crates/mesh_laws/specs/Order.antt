-- The order of ranks where two may be the same.
-- Words: IsNoLater, RanksNoLater.
use Rattle.std.specs.Prelude.{◌≡◌, ℕ, ◌<◌, ◌≤◌, ◌⊎◌}

-- triangle a with priority p is before b with q, or it is the same with an equal one
abbrev pub IsNoLater : ℕ → ℕ → ℕ → ℕ → Type 0
IsNoLater p a q b = (q < p) ⊎ ((p ≡ q) × (a ≤ b))

-- a ranks before b or is b
abbrev pub RanksNoLater : (ℕ → ℕ) → ℕ → ℕ → Type 0
RanksNoLater priority a b = IsNoLater (priority a) a (priority b) b
