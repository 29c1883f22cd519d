-- The tiles' lists one after another. This project's own form. Words: tile_at, joined.
use Rattle.std.specs.Prelude.{ℕ, zero, suc, ◌/◌, ◌%◌, List, [], ◌++◌, map}
use Rattle.mesh_defs.specs.declared.point.Point.{Point}
use Rattle.mosaic_laws.specs.Tile.{in_tile}

-- the tile with this number, counted from 0 row by row from below and in a row from the left
abbrev pub tile_at : ℕ → ℕ → Point
tile_at columns number = record { x = number % columns; y = number / columns }

-- the lists of the first so many tiles one after another, as triangles of the large grid
abbrev pub joined : ℕ → ℕ → (Point → List ℕ) → ℕ → List ℕ
joined p columns lists zero = []
joined p columns lists (suc k) =
    joined p columns lists k ++ map (in_tile p (tile_at columns k)) (lists (tile_at columns k))
