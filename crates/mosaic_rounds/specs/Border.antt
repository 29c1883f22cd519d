-- Triangles with their base on a side of their square, told by their addresses: the four quarters 4 to 7, and of each
-- such triangle a the grandchildren 4a + 1 and 4a + 2, whose bases are the halves of its base.
-- This project's own form. Words: backward, is_border_at, side_at, place_at, is_border, side_of, place_of, bit_of.
use Rattle.std.specs.Prelude.{ℕ, zero, suc, ◌+◌, ◌*◌, ◌/◌, ◌%◌, ◌^◌, Bool, ◌&&◌, ◌||◌, nat_eq}
use Rattle.mesh_defs.specs.Triangle.{level_of}

-- Bases run counterclockwise: along the lower (0) and the right side (3) coordinates rise, along the left (1) and the
-- upper side (2), where this is 1, they fall.
abbrev pub backward : ℕ → ℕ
backward zero = 0
backward (suc zero) = 1
backward (suc (suc zero)) = 1
backward (suc (suc (suc _))) = 0

-- whether a, so many grandparents below a quarter, has its base on a side
abbrev pub is_border_at : ℕ → ℕ → Bool
is_border_at zero a = nat_eq (a / 4) 1
is_border_at (suc steps) a = (nat_eq (a % 4) 1 || nat_eq (a % 4) 2) && is_border_at steps (a / 4)

-- on which side: lower, left, upper or right, as its quarter
abbrev pub side_at : ℕ → ℕ → ℕ
side_at zero a = a % 4
side_at (suc steps) a = side_at steps (a / 4)

-- and where: the whole side is at 1, and the halves of what is at k are at 2k and 2k + 1, that with the lesser
-- coordinates first
abbrev pub place_at : ℕ → ℕ → ℕ
place_at zero a = 1
place_at (suc steps) a = 2 * place_at steps (a / 4) + (a % 4 + 1 + backward (side_at steps (a / 4))) % 2

abbrev pub is_border : ℕ → Bool
is_border a = is_border_at (level_of a / 2) a

abbrev pub side_of : ℕ → ℕ
side_of a = side_at (level_of a / 2) a

abbrev pub place_of : ℕ → ℕ
place_of a = place_at (level_of a / 2) a

-- the number of its bit, of those that a tile of side 2 ^ n has
abbrev pub bit_of : ℕ → ℕ → ℕ
bit_of n a = side_of a * 2 ^ n + place_of a
