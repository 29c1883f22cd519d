-- Tables of bits in words of 64, and what the bits of a tile say.
-- This project's own form. Words: has_bit, is_kept, splits_at.
use Rattle.std.specs.Prelude.{ℕ, ◌+◌, ◌*◌, ◌/◌, ◌%◌, Bool, ◌&&◌, ◌||◌, nat_eq, nat_lt, List, get_or}
use Rattle.std.specs.Int.{bit_at}
use Rattle.mesh_defs.specs.Triangle.{level_of}
use Rattle.mosaic_rounds.specs.Border.{is_border, bit_of}

-- the bit with this number is set
unfoldable pub has_bit : List ℕ → ℕ → Bool
has_bit words i = nat_eq (bit_at (get_or words (i / 64) 0) (i % 64)) 1

-- what is kept of a tile: 2, whose centre is that of the tile, and each triangle that may be split and has its base on
-- a side
abbrev pub is_kept : ℕ → ℕ → Bool
is_kept n a = nat_eq a 2 || (nat_lt (level_of a) (2 * n) && is_border a)

-- what the bits from this one on say of a triangle: the first one of 2
abbrev pub splits_at : ℕ → List ℕ → ℕ → ℕ → Bool
splits_at n words first a =
    (nat_eq a 2 && has_bit words first)
    || ((nat_lt (level_of a) (2 * n) && is_border a) && has_bit words (first + bit_of n a))
