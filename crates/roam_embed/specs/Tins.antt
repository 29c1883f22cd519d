-- The mesh of triangles of any shape for heights alone, in one call. This project's own.
-- Words: IsTinWritten, IsFewestWritten, IsTinOf, IsTinTold.
use Rattle.std.specs.Prelude.{◌≡◌, ℕ, ◌*◌, ◌/◌, ◌^◌, ◌<◌, ◌↔◌, ◌⊎◌, List, [], ◌++◌, length, drop}
use Rattle.mesh_defs.specs.HeightField.{HeightField}
use Rattle.mesh_defs.specs.MeshText.{vertices_of}
use Rattle.fit_laws.specs.PlaneHeight.{deviation_of}
use Rattle.mesh_arrays.specs.Indices.{indices_of}
use Rattle.tin_mesh.specs.Tin.{TinMesh, IsTin}
use Rattle.roam_embed.specs.declared.answer.Answer.{Answer}
use Rattle.roam_embed.specs.declared.answer.Answer.TheVariants.{Done, NoMemory, BadGrid, NoRoom, BadTolerance}
use Rattle.roam_embed.specs.declared.notes.Fitted.{Fitted}
use Rattle.roam_embed.specs.Grid.{HasGrid, IsPointCount}
use Rattle.roam_embed.specs.Asked.{AreTolerances}
use Rattle.roam_embed.specs.FitWith.{IsFitWith}

-- the places of a mesh of triangles of any shape within the error, of at most so many triangles, stand in an array, and it is
-- told of
abbrev pub IsTinWritten : HeightField → (thousandths most : ℕ) → (array_before array : List ℕ) → Fitted → Type 0
IsTinWritten grid thousandths most array_before array told = (mesh : TinMesh) × IsTin grid thousandths most mesh
    × (array ≡ mesh.places ++ drop (length mesh.places) array_before)
    × (told.off ≡ mesh.deviation.gap) × (told.over ≡ mesh.deviation.area)
    × (told.triangles ≡ length mesh.corners / 3) × (told.vertices ≡ length mesh.points)

-- the indices of a list of right triangles stand in it
abbrev pub IsFewestWritten : HeightField → (leaves array_before array : List ℕ) → Fitted → Type 0
IsFewestWritten grid leaves array_before array told =
    (array ≡ indices_of grid.n leaves ++ drop (3 * length leaves) array_before)
    × (told.off ≡ deviation_of grid.n grid.heights leaves) × (told.over ≡ 2 ^ grid.n)
    × (told.triangles ≡ length leaves) × (told.vertices ≡ length (vertices_of grid.n leaves))

-- Of heights of a grid of this n: a mesh of triangles of any shape stands in the array, of no more triangles than the mesh of
-- the fewest right triangles, or that mesh itself. There is always room for it where there is room for that.
pub record IsTinOf (n : ℕ) (heights : List ℕ) (thousandths : ℕ) (array_before array : List ℕ) (told : Fitted)
    (answer : Answer) : Type 0 where
  pub bad_tolerance : (answer ≡ BadTolerance) ↔ (AreTolerances n thousandths [] → ⊥)
  pub others : ((answer ≡ Done) ⊎ ((answer ≡ NoRoom) ⊎ (answer ≡ NoMemory))) ↔ AreTolerances n thousandths []
  pub no_room : answer ≡ NoRoom → (leaves : List ℕ) × IsFitWith n heights thousandths [] [] leaves
      × (length array_before < 3 * length leaves)
  pub found : answer ≡ Done → (leaves : List ℕ) × IsFitWith n heights thousandths [] [] leaves
      × (IsTinWritten (record { n = n; maxval = 65535; heights = heights }) thousandths (length leaves)
      array_before array told
      ⊎ IsFewestWritten (record { n = n; maxval = 65535; heights = heights }) leaves array_before array told)

-- and of any heights
pub record IsTinTold (heights : List ℕ) (thousandths : ℕ) (array_before array : List ℕ) (told_before told : Fitted)
    (answer : Answer) : Type 0 where
  pub bad_grid : (answer ≡ BadGrid) ↔ (HasGrid (length heights) → ⊥)
  pub of_grid : (answer ≡ BadGrid → ⊥) → (n : ℕ) × IsPointCount (length heights) n
      × IsTinOf n heights thousandths array_before array told answer
  pub unwritten : (answer ≡ Done → ⊥) → array ≡ array_before
  pub untold : (answer ≡ Done → ⊥) → told ≡ told_before
