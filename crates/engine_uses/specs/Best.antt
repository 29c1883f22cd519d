-- What a caller knows of a frame: its mesh is a best one of the state, and the sight tells of it.
-- All of it is this project's own.
-- Words: IsBestSeen, IsBestFrom, AreBestFrom.
use Rattle.std.specs.Prelude.{◌≡◌, ℕ, List, length}
use Rattle.std.specs.List.{AllZip}
use Rattle.mesh_defs.specs.HeightField.{HeightField}
use Rattle.mesh_defs.specs.BoundingBox.{CameraAt}
use Rattle.mesh_defs.specs.State.{State, start_state, with_camera, priority_in}
use Rattle.mesh_defs.specs.Priority.{worst_of}
use Rattle.mesh_defs.specs.BestMesh.{IsBestMesh}
use Rattle.engine_uses.specs.declared.step.Sight.{Sight}

-- The triangles are a best mesh of the state: conforming, within the budget, and no conforming list within the budget
-- has a lower worst. The sight tells how many they are, and their worst.
pub record IsBestSeen (state : State) (triangles : List ℕ) (sight : Sight) : Type 0 where
  pub best : IsBestMesh state.grid.n state.budget (priority_in state) triangles
  pub count : sight.triangles ≡ length triangles
  pub greatest : sight.worst ≡ worst_of (priority_in state) triangles

-- the sight is that of a best mesh of the grid, from the place
pub record IsBestFrom (grid : HeightField) (budget : ℕ) (place : CameraAt) (sight : Sight) : Type 0 where
  pub triangles : List ℕ
  pub seen : IsBestSeen (with_camera place (start_state grid 1 budget)) triangles sight

-- there are as many sights as places, and each is that of a best mesh from its place of the path
abbrev pub AreBestFrom : HeightField → ℕ → List CameraAt → List Sight → Type 0
AreBestFrom grid budget path sights = AllZip (IsBestFrom grid budget) path sights
