-- Samples of two bytes, as the Netpbm manual, "pgm", lays them out.
use Rattle.std.specs.Prelude.{ℕ, ◌+◌, ◌*◌, ◌/◌, ◌%◌, List, [], ◌∷◌}

-- a sample as two bytes, the most significant first
abbrev pub two_bytes : ℕ → List ℕ
two_bytes sample = sample / 256 ∷ sample % 256 ∷ []

-- the samples of these bytes, each of two bytes with the most significant first; a last odd byte is none
abbrev pub words_of : List ℕ → List ℕ
words_of [] = []
words_of (high ∷ []) = []
words_of (high ∷ low ∷ bytes) = (256 * high + low) ∷ words_of bytes
