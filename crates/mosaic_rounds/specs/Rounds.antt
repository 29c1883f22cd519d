-- What is kept of the tiles of a rectangle while they are fitted in rounds: of each tile what was split of 2 and of the
-- triangles with their base on a side, in the mesh that was put last; and whose turn it is.
-- This project's own form. Words: RoundsState, rounds_of, splits, IsKept, IsAskedOf, IsSettled, Lacks, turn_of,
-- wait_of, IsRoomFor.
use Rattle.std.specs.Prelude.{◌≡◌, ◌⊎◌, ℕ, ◌+◌, ◌-◌, ◌*◌, ◌^◌, ◌≤◌, Bool, true, false, IsTrue}
use Rattle.std.specs.Prelude.{nat_le, List, length}
use Rattle.mesh_defs.specs.declared.point.Point.{Point}
use Rattle.mesh_defs.specs.Triangle.{IsAddress}
use Rattle.mosaic_laws.specs.Tile.{IsTile}
use Rattle.mosaic_laws.specs.Mirror.{IsBeyond}
use Rattle.mosaic_rounds.specs.declared.shape.Shape.{Shape}
use Rattle.mosaic_rounds.specs.Bits.{splits_at}
use Rattle.mosaic_rounds.specs.BorderPoints.{BorderState}
use Rattle.mosaic_rounds.specs.Shape.{first_of, IsShape}
use Rattle.mosaic_rounds.specs.Turn.{turn_in}

-- so many columns and rows of tiles of side 2 ^ n, the turn that comes next, and the bits of all tiles, row by row
pub record RoundsState : Type 0 where
  pub columns : ℕ
  pub rows : ℕ
  pub n : ℕ
  pub turn : ℕ
  pub bits : List ℕ

-- such a state, by its fields
abbrev pub rounds_of : Shape → ℕ → List ℕ → RoundsState
rounds_of s turn words = record { columns = s.columns; rows = s.rows; n = s.n; turn = turn; bits = words }

-- whether this triangle of the tile is split; of a triangle that is not kept this is false
abbrev pub splits : RoundsState → Point → ℕ → Bool
splits r t a =
    splits_at r.n r.bits (first_of (record { columns = r.columns; rows = r.rows; n = r.n }) t) a

-- Triangle a of tile t is asked for, where has tells of each tile what is split there: a is 2, or its mirror image beyond
-- a side is split in the tile there.
abbrev pub IsAskedIn : ℕ → ℕ → ℕ → (Point → ℕ → Bool) → Point → ℕ → Type 0
IsAskedIn columns rows n has t a =
    (a ≡ 2)
    ⊎ ((u : Point) × (c : ℕ) × IsTile columns rows u × (4 ≤ a) × IsAddress n a × IsBeyond n t u a c × IsTrue (has u c))

abbrev pub IsAskedOf : RoundsState → Point → ℕ → Type 0
IsAskedOf r t a = IsAskedIn r.columns r.rows r.n (splits r) t a

-- each tile has split what is asked of it
abbrev pub IsSettled : RoundsState → Type 0
IsSettled r = (t : Point) (a : ℕ) → IsTile r.columns r.rows t → IsAskedOf r t a → IsTrue (splits r t a)

-- something is asked of the tile that is not split there
abbrev pub Lacks : RoundsState → Point → Type 0
Lacks r t = (a : ℕ) × IsAskedOf r t a × (splits r t a ≡ false)

-- the turn of a tile
abbrev pub turn_of : RoundsState → Point → ℕ
turn_of r t = turn_in (record { columns = r.columns; rows = r.rows; n = r.n }) t

-- how many turns come before that of the tile, from the next one on; after the last turn comes the first
abbrev pub wait_of : RoundsState → Point → ℕ
wait_of r t = elim (nat_le r.turn (turn_of r t)) as (λ _. ℕ) [
  | true ↦ turn_of r t - r.turn
  | false ↦ turn_of r t + 2 * (r.columns * r.rows) - r.turn
]

-- room for the bits of all tiles, and for those of one mesh
pub record IsRoomFor (s : Shape) (turn : ℕ) (words : List ℕ) (fresh : BorderState) : Type 0 where
  pub shape : IsShape s
  pub room : s.columns * s.rows * 2 ^ (s.n + 2) ≤ 64 * length words
  pub one : fresh.n ≡ s.n
  pub turns : turn ≤ 2 * (s.columns * s.rows)
