-- A terrain of so many columns and rows of tiles, each with heights of its own. This project's own form.
-- Words: is_tile, terrain_error.
use Rattle.std.specs.Prelude.{ℕ, ◌*◌, Bool, true, false, ◌&&◌, nat_lt, List}
use Rattle.mesh_defs.specs.declared.point.Point.{Point}
use Rattle.mesh_defs.specs.Triangle.{level_of}
use Rattle.fit_laws.specs.Error.{error_of}
use Rattle.mosaic_laws.specs.Glue.{tile_of, local_of}

-- the tile is one of so many columns and rows
abbrev pub is_tile : ℕ → ℕ → Point → Bool
is_tile columns rows t = nat_lt t.x columns && nat_lt t.y rows

-- The error of triangle x of the large grid: in a tile of the terrain the error by the tile's own heights; none beyond
-- the terrain, nor above the tiles' quarters.
abbrev pub terrain_error : ℕ → ℕ → ℕ → ℕ → (Point → List ℕ) → ℕ → ℕ
terrain_error columns rows n p heights x =
    elim (is_tile columns rows (tile_of p x) && nat_lt (2 * p) (level_of x)) as (λ _. ℕ) [
      | true ↦ error_of n (heights (tile_of p x)) (local_of p x)
      | false ↦ 0
    ]
