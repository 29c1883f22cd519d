-- What a mesh has on the border of its square: of 2 and of each triangle with its base on a side, whether it is split,
-- and so whether its centre is a vertex. This project's own form.
-- Words: IsKept, BorderState, border_of, has_split, IsBorder.
use Rattle.std.specs.Prelude.{◌≡◌, ◌⊎◌, ℕ, ◌+◌, ◌*◌, ◌^◌, ◌≤◌, Bool, List, length}
use Rattle.mesh_defs.specs.Triangle.{IsSplittable, HasBorderBase}
use Rattle.mesh_defs.specs.declared.level.TheConstants.{GREATEST_LEVEL}
use Rattle.mosaic_rounds.specs.Bits.{splits_at}

-- the triangles of which is known whether they are split
abbrev pub IsKept : ℕ → ℕ → Type 0
IsKept n a = (a ≡ 2) ⊎ (IsSplittable n a × HasBorderBase n a)

-- a square of side 2 ^ n, and a bit for each of these triangles
pub record BorderState : Type 0 where
  pub n : ℕ
  pub bits : List ℕ

-- such a state, by its fields
abbrev pub border_of : ℕ → List ℕ → BorderState
border_of n words = record { n = n; bits = words }

-- whether the mesh has split this triangle; of one of which it is not known this is false
abbrev pub has_split : BorderState → ℕ → Bool
has_split b a = splits_at b.n b.bits 0 a

-- room for the bits of a grid
pub record IsBorder (n : ℕ) (words : List ℕ) : Type 0 where
  pub low : 1 ≤ n
  pub high : n ≤ GREATEST_LEVEL
  pub room : 2 ^ (n + 2) ≤ 64 * length words
