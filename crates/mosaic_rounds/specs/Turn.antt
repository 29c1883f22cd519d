-- Whose turn it is. This project's own form. Words: turn_in, Waits.
use Rattle.std.specs.Prelude.{◌≡◌, ℕ, ◌+◌, ◌*◌, ◌%◌, List}
use Rattle.mesh_defs.specs.declared.point.Point.{Point}
use Rattle.mosaic_laws.specs.Tile.{IsTile}
use Rattle.mosaic_rounds.specs.declared.shape.Shape.{Shape}
use Rattle.mosaic_rounds.specs.Across.{LacksBy}

-- the turn of a tile, from 0: first those whose column and row add up to an even number, row by row, then the others
abbrev pub turn_in : Shape → Point → ℕ
turn_in s t = (t.x + t.y) % 2 * (s.columns * s.rows) + (t.y * s.columns + t.x)

-- this is the turn of a tile that lacks something
abbrev pub Waits : Shape → List ℕ → ℕ → Type 0
Waits s words turn = (t : Point) × IsTile s.columns s.rows t × (turn_in s t ≡ turn) × LacksBy s words t 4
