-- A count that stands still at the end of its type.
use Rattle.std.specs.Prelude.{ℕ, ◌+◌, ◌-◌, ◌^◌, min}

-- the count after one more
abbrev pub counted : ℕ → ℕ
counted count = min (count + 1) (2 ^ 64 - 1)
