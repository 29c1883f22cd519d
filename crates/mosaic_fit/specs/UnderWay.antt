-- What a loop over tiles has, when some of them were fitted, once or more. This project's own form.
-- Words: IsFitted, IsUnderWay.
use Rattle.std.specs.Prelude.{◌≡◌, ◌⊎◌, ℕ, ◌*◌, ◌^◌, ◌≤◌, Bool, IsTrue, List, [], length}
use Rattle.mesh_defs.specs.declared.point.Point.{Point}
use Rattle.mesh_defs.specs.ClosedSet.{leaves_of}
use Rattle.mesh_laws.specs.Ancestors.{ancestors_of}
use Rattle.fit_laws.specs.Error.{error_of}
use Rattle.fit_laws.specs.Required.{IsLeastMeshWith}
use Rattle.mosaic_laws.specs.Tile.{IsTile}
use Rattle.mosaic_laws.specs.Glue.{splits_of}
use Rattle.mosaic_laws.specs.Join.{joined}
use Rattle.mosaic_laws.specs.Rounds.{IsReachedIn}
use Rattle.mosaic_laws.specs.Terrain.{terrain_error}
use Rattle.mosaic_rounds.specs.BorderPoints.{IsKept}
use Rattle.mosaic_rounds.specs.Rounds.{IsAskedIn}

-- the tile's mesh is the least one that splits what was required of it, and that is 2 and what is asked of it
pub record IsFitted (columns rows n tolerance : ℕ) (has : Point → ℕ → Bool) (heights : List ℕ) (t : Point)
    (required : ℕ → Bool) (mesh list : List ℕ) : Type 0 where
  pub tile : IsTile columns rows t
  pub stored : mesh ≡ list
  pub least : IsLeastMeshWith n tolerance (error_of n heights) required list
  pub order : leaves_of n (ancestors_of list) ≡ list
  pub centre : IsTrue (required 2)
  pub asked : (a : ℕ) → IsTrue (required a) → IsAskedIn columns rows n has t a

-- Each tile has no list yet, or is fitted; what is kept is what the lists have split; that is reached in rounds, for
-- each large grid that holds the tiles; and there are so many triangles, at least.
pub record IsUnderWay (columns rows n tolerance steps : ℕ) (has : Point → ℕ → Bool) (heights meshes : Point → List ℕ)
    : Type 0 where
  pub lists : Point → List ℕ
  pub required : Point → ℕ → Bool
  pub each : (t : Point) →
      (lists t ≡ []) ⊎ IsFitted columns rows n tolerance has (heights t) t (required t) (meshes t) (lists t)
  pub only : (t : Point) (a : ℕ) → IsTile columns rows t → IsTrue (has t a) → IsTrue (ancestors_of (lists t) a)
  pub kept : (t : Point) (a : ℕ) → IsTile columns rows t → IsKept n a → IsTrue (ancestors_of (lists t) a) →
      IsTrue (has t a)
  pub reached : (p : ℕ) → columns ≤ 2 ^ p → rows ≤ 2 ^ p →
      (k : ℕ) × IsReachedIn k columns rows n p tolerance (terrain_error columns rows n p heights) (splits_of lists)
  pub count : steps ≤ length (joined 0 columns lists (columns * rows))
