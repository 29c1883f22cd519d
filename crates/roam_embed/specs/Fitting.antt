-- The mesh of the heights alone for a tolerance and a budget. This project's own.
-- Words: fit_tolerance_of, most_triangles, IsFit, IsFitTold.
use Rattle.std.specs.Prelude.{◌≡◌, ℕ, ◌*◌, ◌/◌, ◌^◌, ◌<◌, ◌≤◌, ◌↔◌, ◌⊎◌, min, List, ◌++◌, length, drop}
use Rattle.mesh_defs.specs.HeightField.{HeightField}
use Rattle.mesh_defs.specs.MeshText.{vertices_of}
use Rattle.fit_laws.specs.PlaneHeight.{deviation_of}
use Rattle.mesh_laws.specs.Least.{IsLeastMesh}
use Rattle.fit_laws.specs.Error.{error_of}
use Rattle.fit_laws.specs.Budget.{IsBudgetMesh}
use Rattle.fit_mesh.specs.Splits.{IsMeshListed}
use Rattle.mesh_arrays.specs.Indices.{indices_of}
use Rattle.roam_embed.specs.declared.answer.Answer.{Answer}
use Rattle.roam_embed.specs.declared.answer.Answer.TheVariants.{Done, NoMemory, BadBudget, NoRoom, BadTolerance}
use Rattle.roam_embed.specs.declared.notes.Fitted.{Fitted}
use Rattle.roam_embed.specs.declared.fitting.TheConstants.{GREATEST_TOLERANCE}

-- a tolerance in thousandths of a unit of height, times 2 ^ n, rounded down: errors are whole numbers of these
abbrev pub fit_tolerance_of : ℕ → ℕ → ℕ
fit_tolerance_of n thousandths = thousandths * 2 ^ n / 1000

-- the most triangles that a mesh of the budget can have
abbrev pub most_triangles : ℕ → ℕ → ℕ
most_triangles n budget = min budget (2 * 4 ^ n)

-- The mesh for a tolerance: no triangle has an error above it, and there are as few as can be. Where these are more
-- than the budget, the greatest error is the least that a mesh of the budget can have, and for that there are as few as
-- can be. It stands depth first.
pub record IsFit (grid : HeightField) (thousandths budget : ℕ) (leaves : List ℕ) (told : Fitted) : Type 0 where
  pub listed : IsMeshListed grid.n leaves
  pub within : length leaves ≤ budget
  pub off : told.off ≡ deviation_of grid.n grid.heights leaves
  pub over : told.over ≡ 2 ^ grid.n
  pub least : IsLeastMesh grid.n told.off (error_of grid.n grid.heights) leaves
  pub fewest : told.off ≤ fit_tolerance_of grid.n thousandths →
      IsLeastMesh grid.n (fit_tolerance_of grid.n thousandths) (error_of grid.n grid.heights) leaves
  pub best : fit_tolerance_of grid.n thousandths < told.off →
      IsBudgetMesh grid.n budget (error_of grid.n grid.heights) leaves
  pub triangles : told.triangles ≡ length leaves
  pub vertices : told.vertices ≡ length (vertices_of grid.n leaves)

-- the indices of that mesh stand in the first places of an array, and it is told of
pub record IsFitTold (grid : HeightField) (thousandths budget : ℕ) (array_before array : List ℕ)
    (told_before told : Fitted) (answer : Answer) : Type 0 where
  pub bad_budget : (answer ≡ BadBudget) ↔ (budget < 2)
  pub no_room : (answer ≡ NoRoom) ↔ ((2 ≤ budget) × (length array_before < 3 * most_triangles grid.n budget))
  pub bad_tolerance : (answer ≡ BadTolerance)
      ↔ ((2 ≤ budget) × (3 * most_triangles grid.n budget ≤ length array_before) × (GREATEST_TOLERANCE < thousandths))
  pub others : ((answer ≡ Done) ⊎ (answer ≡ NoMemory))
      ↔ ((2 ≤ budget) × (3 * most_triangles grid.n budget ≤ length array_before) × (thousandths ≤ GREATEST_TOLERANCE))
  pub fitted : answer ≡ Done → (leaves : List ℕ) × IsFit grid thousandths budget leaves told
      × (array ≡ indices_of grid.n leaves ++ drop (3 * length leaves) array_before)
  pub unwritten : (answer ≡ Done → ⊥) → array ≡ array_before
  pub untold : (answer ≡ Done → ⊥) → told ≡ told_before
