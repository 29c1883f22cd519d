-- What is asked of a tile across one of its sides, by the bits of the tile beyond. This project's own form.
-- Words: IsAcross, LacksAcross, IsAskedBy, LacksBy.
use Rattle.std.specs.Prelude.{◌≡◌, ◌⊎◌, ℕ, ◌+◌, ◌*◌, ◌%◌, ◌^◌, ◌<◌, ◌≤◌, false, IsTrue, List}
use Rattle.mesh_defs.specs.declared.point.Point.{Point}
use Rattle.mesh_defs.specs.Triangle.{level_of}
use Rattle.mosaic_laws.specs.Tile.{IsTile}
use Rattle.mosaic_rounds.specs.declared.shape.Shape.{Shape}
use Rattle.mosaic_rounds.specs.Border.{is_border, side_of, place_of}
use Rattle.mosaic_rounds.specs.Bits.{has_bit, splits_at}
use Rattle.mosaic_rounds.specs.Side.{IsNeighbour}
use Rattle.mosaic_rounds.specs.Shape.{first_of}

-- a may be split, its base is on this side of tile t, and the tile beyond has the bit at the same place of the facing
-- side
pub record IsAcross (s : Shape) (words : List ℕ) (t : Point) (across a : ℕ) : Type 0 where
  pub low : 2 ≤ a
  pub coarse : level_of a < 2 * s.n
  pub border : IsTrue (is_border a)
  pub side : side_of a ≡ across
  pub other : Point
  pub tile : IsTile s.columns s.rows other
  pub beyond : IsNeighbour across t other
  pub there : IsTrue (has_bit words (first_of s other + ((across + 2) % 4 * 2 ^ s.n + place_of a)))

-- and the tile itself has not split it
abbrev pub LacksAcross : Shape → List ℕ → Point → ℕ → Type 0
LacksAcross s words t side =
    (a : ℕ) × IsAcross s words t side a × (splits_at s.n words (first_of s t) a ≡ false)

-- a is 2, or asked for across one of the first sides
abbrev pub IsAskedBy : Shape → List ℕ → Point → ℕ → ℕ → Type 0
IsAskedBy s words t sides a = (a ≡ 2) ⊎ ((side : ℕ) × (side < sides) × IsAcross s words t side a)

-- 2 is not split, or something lacks across one of the first sides
abbrev pub LacksBy : Shape → List ℕ → Point → ℕ → Type 0
LacksBy s words t sides =
    (splits_at s.n words (first_of s t) 2 ≡ false) ⊎ ((side : ℕ) × (side < sides) × LacksAcross s words t side)
