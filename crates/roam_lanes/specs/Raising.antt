-- A sample that is raised or lowered, within the bounds of its grid.
use Rattle.std.specs.Prelude.{ℕ, ℤ, pos, negsuc, ◌+ℤ◌, min}

-- the greatest fall of a height of 16 bits
abbrev pub least_change : ℤ
least_change = negsuc 65534

-- the greatest rise of a height of 16 bits
abbrev pub greatest_change : ℤ
greatest_change = pos 65535

-- a number brought into 0 to maxval
abbrev pub brought_into : ℕ → ℤ → ℕ
brought_into maxval (pos k) = min k maxval
brought_into maxval (negsuc _) = 0

-- the sample plus delta, brought into 0 to maxval
abbrev pub raised : ℕ → ℤ → ℕ → ℕ
raised maxval delta h = brought_into maxval (pos h +ℤ delta)
