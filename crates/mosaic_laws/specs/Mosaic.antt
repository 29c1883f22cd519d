-- Mosaics: a list for each tile of a rectangle; together they are one mesh without cracks.
-- This project's own form. Words: IsMosaic, IsLeastMosaic.
use Rattle.std.specs.Prelude.{ℕ, ◌≤◌, IsTrue, List, length, Contains}
use Rattle.mesh_defs.specs.declared.point.Point.{Point}
use Rattle.mesh_defs.specs.Tiling.{IsConforming}
use Rattle.mesh_defs.specs.ClosedSet.{IsSubset}
use Rattle.mesh_defs.specs.Priority.{worst_of}
use Rattle.mesh_laws.specs.Ancestors.{ancestors_of}
use Rattle.mesh_laws.specs.Least.{IsLyingIn}
use Rattle.mosaic_laws.specs.Tile.{IsTile}
use Rattle.mosaic_laws.specs.Glue.{splits_of, IsAgreed}
use Rattle.mosaic_laws.specs.Rounds.{tile_error}

-- each tile's list is conforming, within the tolerance, and has the tile's centre as a vertex, and the tiles agree on
-- their borders
pub record IsMosaic (columns rows n p tolerance : ℕ) (error : ℕ → ℕ) (lists : Point → List ℕ) : Type 0 where
  pub conforming : (t : Point) → IsTile columns rows t → IsConforming n (lists t)
  pub within : (t : Point) → IsTile columns rows t → worst_of (tile_error p error t) (lists t) ≤ tolerance
  pub centre : (t : Point) → IsTile columns rows t → IsTrue (ancestors_of (lists t) 2)
  pub agreed : IsAgreed columns rows n p (splits_of lists)

-- The least mosaic: what is split in a tile is split there in each mosaic, which has at least as many triangles there,
-- and each of them lies in one of these.
pub record IsLeastMosaic (columns rows n p tolerance : ℕ) (error : ℕ → ℕ) (lists : Point → List ℕ) : Type 0 where
  pub mosaic : IsMosaic columns rows n p tolerance error lists
  pub inside : (others : Point → List ℕ) → IsMosaic columns rows n p tolerance error others →
      (t : Point) → IsTile columns rows t → IsSubset (ancestors_of (lists t)) (ancestors_of (others t))
  pub fewest : (others : Point → List ℕ) → IsMosaic columns rows n p tolerance error others →
      (t : Point) → IsTile columns rows t → length (lists t) ≤ length (others t)
  pub refined : (others : Point → List ℕ) → IsMosaic columns rows n p tolerance error others →
      (t : Point) → IsTile columns rows t → (a : ℕ) → Contains (others t) a → IsLyingIn (lists t) a
