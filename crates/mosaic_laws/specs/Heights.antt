-- A tile's own heights: those of the grid points of its square. This project's own form.
use Rattle.std.specs.Prelude.{◌≡◌, ℕ, ◌+◌, ◌^◌, ◌≤◌, List}
use Rattle.mesh_defs.specs.declared.point.Point.{Point}
use Rattle.mesh_defs.specs.Thickness.{height_of}
use Rattle.mosaic_laws.specs.Tile.{placed}

-- each height of the small grid is that of the large grid at the point that is moved to this square
pub record AreTileHeights (n p : ℕ) (t : Point) (small large : List ℕ) : Type 0 where
  pub each : (r : Point) → r.x ≤ 2 ^ n → r.y ≤ 2 ^ n → height_of n small r ≡ height_of (n + p) large
      (placed (2 ^ n) t r)
