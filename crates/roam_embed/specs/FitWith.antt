-- The mesh of heights alone with required points, in one call. This project's own.
-- Words: IsFitWith, IsFitWithOf, IsFitWithTold.
use Rattle.std.specs.Prelude.{◌≡◌, ℕ, ◌*◌, ◌^◌, ◌<◌, ◌≤◌, ◌↔◌, ◌⊎◌, List, ◌++◌, length, drop}
use Rattle.mesh_defs.specs.MeshText.{vertices_of}
use Rattle.fit_laws.specs.PlaneHeight.{deviation_of}
use Rattle.fit_laws.specs.Required.{IsLeastMeshWith}
use Rattle.fit_mesh.specs.Required.{is_centred_at}
use Rattle.fit_mesh.specs.Splits.{IsMeshListed}
use Rattle.mesh_arrays.specs.Indices.{indices_of}
use Rattle.roam_embed.specs.declared.answer.Answer.{Answer}
use Rattle.roam_embed.specs.declared.answer.Answer.TheVariants.{Done, NoMemory, BadGrid, OutsideGrid, NoRoom}
use Rattle.roam_embed.specs.declared.answer.Answer.TheVariants.{BadTolerance}
use Rattle.roam_embed.specs.declared.notes.Fitted.{Fitted}
use Rattle.roam_embed.specs.Grid.{HasGrid, IsPointCount}
use Rattle.roam_embed.specs.Asked.{scaled, AreTolerances, ArePlaces, tolerance_for, error_for}

-- the mesh of the fewest triangles within the tolerances in which each required point is a vertex, depth first
pub record IsFitWith (n : ℕ) (heights : List ℕ) (thousandths : ℕ) (tolerances required leaves : List ℕ) : Type 0 where
  pub least : IsLeastMeshWith n (tolerance_for n thousandths (scaled n tolerances))
      (error_for n heights (scaled n tolerances)) (is_centred_at n required) leaves
  pub listed : IsMeshListed n leaves

-- of heights of a grid of this n: its indices stand in the first places of an array, and it is told of
pub record IsFitWithOf (n : ℕ) (heights : List ℕ) (thousandths : ℕ) (tolerances required array_before array : List ℕ)
    (told : Fitted) (answer : Answer) : Type 0 where
  pub outside_grid : (answer ≡ OutsideGrid) ↔ (ArePlaces n required → ⊥)
  pub bad_tolerance : (answer ≡ BadTolerance) ↔ (ArePlaces n required × (AreTolerances n thousandths tolerances → ⊥))
  pub others : ((answer ≡ Done) ⊎ ((answer ≡ NoRoom) ⊎ (answer ≡ NoMemory)))
      ↔ (ArePlaces n required × AreTolerances n thousandths tolerances)
  pub no_room : answer ≡ NoRoom → (leaves : List ℕ) × IsFitWith n heights thousandths tolerances required leaves
      × (length array_before < 3 * length leaves)
  pub fitted : answer ≡ Done → (leaves : List ℕ) × IsFitWith n heights thousandths tolerances required leaves
      × (array ≡ indices_of n leaves ++ drop (3 * length leaves) array_before)
      × (told.off ≡ deviation_of n heights leaves) × (told.over ≡ 2 ^ n)
      × (told.triangles ≡ length leaves) × (told.vertices ≡ length (vertices_of n leaves))

-- and of any heights
pub record IsFitWithTold (heights : List ℕ) (thousandths : ℕ) (tolerances required array_before array : List ℕ)
    (told_before told : Fitted) (answer : Answer) : Type 0 where
  pub bad_grid : (answer ≡ BadGrid) ↔ (HasGrid (length heights) → ⊥)
  pub of_grid : (answer ≡ BadGrid → ⊥) → (n : ℕ) × IsPointCount (length heights) n
      × IsFitWithOf n heights thousandths tolerances required array_before array told answer
  pub unwritten : (answer ≡ Done → ⊥) → array ≡ array_before
  pub untold : (answer ≡ Done → ⊥) → told ≡ told_before
