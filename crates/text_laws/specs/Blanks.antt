-- Whitespace, as the Netpbm manual, "pgm", has it but for VT and FF: a choice of this project.
use Rattle.std.specs.Prelude.{◌≡◌, ℕ, Bool, ◌==◌, ◌||◌, ◌⊎◌}

-- the byte is a CR (13) or an LF (10)
abbrev pub is_line_end : ℕ → Bool
is_line_end byte = byte == 13 || byte == 10

-- the byte is whitespace, as a test
abbrev pub is_white : ℕ → Bool
is_white byte = byte == 32 || (byte == 9 || is_line_end byte)

-- the byte is whitespace: a blank (32), a TAB (9), a CR (13) or an LF (10)
abbrev pub IsWhite : ℕ → Type 0
IsWhite byte = (byte ≡ 32) ⊎ ((byte ≡ 9) ⊎ ((byte ≡ 13) ⊎ (byte ≡ 10)))
