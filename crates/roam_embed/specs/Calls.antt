-- What each call does to an engine and to the caller's arrays, and when each answer comes. Where several causes hold,
-- the answer is the one with the least number, and out of memory comes last; after an answer other than Done all is as
-- before.
-- All of it is this project's own.
-- Words: IsOpenAnswerOf, IsOpenAnswer, IsOpened, IsCameraMoved, IsPlaneAdded, ArePlanesCleared, IsThresholdPut,
-- IsBudgetPut, IsHeightPut, IsAreaRaised, IsFrameMade, AreIndicesTold, AreLeavesTold.
use Rattle.std.specs.Prelude.{◌≡◌, ◌≢◌, ℕ, ◌+◌, ◌<◌, ◌≤◌, ◌↔◌, ◌⊎◌, true, List, length, All}
use Rattle.std.specs.Prelude.{Contains, None, ℤ, unsigned_abs, []}
use Rattle.mesh_defs.specs.BoundingBox.{CameraAt, holds_point, point}
use Rattle.mesh_defs.specs.View.{ViewPlane}
use Rattle.mesh_defs.specs.State.{start_state, with_camera, with_plane, without_planes, with_budget, with_height}
use Rattle.mesh_defs.specs.State.{with_threshold, with_raised, move_length, priority_in}
use Rattle.mesh_defs.specs.Triangle.{corners_of}
use Rattle.mesh_defs.specs.BestMesh.{IsBestMesh}
use Rattle.bintree_laws.specs.Areas.{overlaps}
use Rattle.triangle_pool.specs.declared.pool.TheConstants.{MOST_LEAVES}
use Rattle.wedgie_tree.specs.declared.wedges.TheConstants.{GREATEST_SPACING}
use Rattle.wedgie_tree.specs.Edits.{area_between}
use Rattle.cull_marks.specs.Plane.{IsPlane}
use Rattle.view_priority.specs.Camera.{IsCamera}
use Rattle.roam_mesh.specs.Mesh.{stamp_of, pool_members}
use Rattle.frame_loop.specs.Changes.{no_changes, AreChangesOf}
use Rattle.frame_loop.specs.Engine.{EngineState, mesh_seen, IsExpired, IsFrameDone}
use Rattle.roam_embed.specs.declared.answer.Answer.{Answer}
use Rattle.roam_embed.specs.declared.answer.Answer.TheVariants.{Done, NoMemory, BadGrid, BadBudget, BadSpacing}
use Rattle.roam_embed.specs.declared.answer.Answer.TheVariants.{BadCamera, BadPlane, TooManyPlanes, OutsideGrid}
use Rattle.roam_embed.specs.declared.answer.Answer.TheVariants.{BadChange, Worn}
use Rattle.roam_embed.specs.declared.notes.Frame.{Frame}
use Rattle.roam_embed.specs.declared.view.TheConstants.{LONGEST_WAY, MOST_PLANES}
use Rattle.roam_embed.specs.declared.ground.TheConstants.{GREATEST_CHANGE}
use Rattle.frame_loop.specs.declared.limits.TheConstants.{MOST_FRAMES}
use Rattle.roam_embed.specs.Grid.{HasGrid, IsPointCount, IsPointOf, IsAreaOf}
use Rattle.roam_embed.specs.Told.{note_of}
use Rattle.roam_embed.specs.Listed.{AreIndicesOf, AreNumbersTold}

-- of a budget and a spacing for a grid, which may be none: which of them is refused, and whether the rest is up to memory
pub record IsOpenAnswerOf (Grid : Type 0) (budget spacing : ℕ) (answer : Answer) : Type 0 where
  pub bad_grid : (answer ≡ BadGrid) ↔ (Grid → ⊥)
  pub bad_budget : (answer ≡ BadBudget) ↔ (Grid × ((budget < 2) ⊎ (MOST_LEAVES < budget)))
  pub bad_spacing : (answer ≡ BadSpacing) ↔ (Grid × (2 ≤ budget) × (budget ≤ MOST_LEAVES)
      × ((spacing < 1) ⊎ (GREATEST_SPACING < spacing)))
  pub others : ((answer ≡ Done) ⊎ (answer ≡ NoMemory)) ↔ (Grid × (2 ≤ budget) × (budget ≤ MOST_LEAVES)
      × (1 ≤ spacing) × (spacing ≤ GREATEST_SPACING))

-- the same of heights, of which there is a grid if they are as many as one has
abbrev pub IsOpenAnswer : List ℕ → ℕ → ℕ → Answer → Type 0
IsOpenAnswer heights = IsOpenAnswerOf (HasGrid (length heights))

-- an engine of these heights: seen from (0, 0, 0), no plane, the two halves of the square, no stamp, all counts 0, and
-- nothing changed by a frame
pub record IsOpened (heights : List ℕ) (budget spacing : ℕ) (e : EngineState) : Type 0 where
  pub level : IsPointCount (length heights) e.state.grid.n
  pub state : e.state ≡ start_state (record { n = e.state.grid.n; maxval = 65535; heights = heights }) spacing budget
  pub most : e.most ≡ budget
  pub base : pool_members e.mesh.pool ≡ []
  pub stamps : (a : ℕ) → stamp_of e.mesh a ≡ None
  pub odometer : e.odometer ≡ 0
  pub frames : e.frames ≡ 0
  pub evaluations : e.evaluations ≡ 0
  pub changes : e.changes ≡ no_changes

-- the camera is put to a place
pub record IsCameraMoved (before after : EngineState) (place : CameraAt) (answer : Answer) : Type 0 where
  pub done : (answer ≡ Done) ↔ (IsCamera place × (before.odometer ≤ LONGEST_WAY))
  pub bad_camera : (answer ≡ BadCamera) ↔ (IsCamera place → ⊥)
  pub worn : (answer ≡ Worn) ↔ (IsCamera place × (LONGEST_WAY < before.odometer))
  pub moved : answer ≡ Done → after ≡ record before {
    state = with_camera place before.state;
    odometer = before.odometer + move_length before.state.view.camera place;
  }
  pub kept : (answer ≡ Done → ⊥) → after ≡ before

-- one plane more is in force, and all stamps are expired
pub record IsPlaneAdded (before after : EngineState) (plane : ViewPlane) (answer : Answer) : Type 0 where
  pub done : (answer ≡ Done) ↔ (IsPlane plane × (length before.state.view.planes < MOST_PLANES))
  pub bad_plane : (answer ≡ BadPlane) ↔ (IsPlane plane → ⊥)
  pub too_many : (answer ≡ TooManyPlanes) ↔ (IsPlane plane × (MOST_PLANES ≤ length before.state.view.planes))
  pub added : answer ≡ Done → after ≡ record before { state = with_plane plane before.state; mesh = after.mesh }
  pub expired : answer ≡ Done → IsExpired before.mesh after.mesh (λ a. true)
  pub kept : (answer ≡ Done → ⊥) → after ≡ before

-- no plane is in force, and all stamps are expired
pub record ArePlanesCleared (before after : EngineState) (answer : Answer) : Type 0 where
  pub done : answer ≡ Done
  pub cleared : after ≡ record before { state = without_planes before.state; mesh = after.mesh }
  pub expired : IsExpired before.mesh after.mesh (λ a. true)

-- the threshold is replaced, and all stamps are expired; nothing changes where it is in force
pub record IsThresholdPut (before after : EngineState) (threshold : ℕ) (answer : Answer) : Type 0 where
  pub done : answer ≡ Done
  pub put : after ≡ record before { state = with_threshold threshold before.state; mesh = after.mesh }
  pub same : threshold ≡ before.state.view.threshold → after ≡ before
  pub expired : (threshold ≡ before.state.view.threshold → ⊥) → IsExpired before.mesh after.mesh (λ a. true)

-- the budget is replaced
pub record IsBudgetPut (before after : EngineState) (budget : ℕ) (answer : Answer) : Type 0 where
  pub done : (answer ≡ Done) ↔ ((2 ≤ budget) × (budget ≤ before.most))
  pub bad_budget : (answer ≡ BadBudget) ↔ ((budget < 2) ⊎ (before.most < budget))
  pub put : answer ≡ Done → after ≡ record before { state = with_budget budget before.state }
  pub kept : (answer ≡ Done → ⊥) → after ≡ before

-- the height of the point (x, y) is replaced, and just the stamps of the triangles that hold it are expired
pub record IsHeightPut (before after : EngineState) (x y height : ℕ) (answer : Answer) : Type 0 where
  pub done : (answer ≡ Done) ↔ (IsPointOf before.state.grid.n x y × (height ≤ before.state.grid.maxval))
  pub outside_grid : (answer ≡ OutsideGrid) ↔ (IsPointOf before.state.grid.n x y → ⊥)
  pub bad_change : (answer ≡ BadChange) ↔ (IsPointOf before.state.grid.n x y × (before.state.grid.maxval < height))
  pub put : answer ≡ Done → after ≡ record before { state = with_height x y height before.state; mesh = after.mesh }
  pub expired : answer ≡ Done → IsExpired before.mesh after.mesh (λ a. holds_point before.state.grid.n a (point x y))
  pub kept : (answer ≡ Done → ⊥) → after ≡ before

-- each height of the area is raised, and just the stamps of the triangles whose bounding rectangle meets it are expired
pub record IsAreaRaised (before after : EngineState) (x0 y0 x1 y1 : ℕ) (dz : ℤ) (answer : Answer) : Type 0 where
  pub done : (answer ≡ Done) ↔ (IsAreaOf before.state.grid.n x0 y0 x1 y1 × (unsigned_abs dz ≤ GREATEST_CHANGE))
  pub outside_grid : (answer ≡ OutsideGrid) ↔ (IsAreaOf before.state.grid.n x0 y0 x1 y1 → ⊥)
  pub bad_change : (answer ≡ BadChange)
      ↔ (IsAreaOf before.state.grid.n x0 y0 x1 y1 × (GREATEST_CHANGE < unsigned_abs dz))
  pub raised : answer ≡ Done → after ≡ record before {
    state = with_raised (area_between x0 y0 x1 y1) dz before.state;
    mesh = after.mesh;
  }
  pub expired : answer ≡ Done →
      IsExpired before.mesh after.mesh (λ a. overlaps (corners_of before.state.grid.n a) (area_between x0 y0 x1 y1))
  pub kept : (answer ≡ Done → ⊥) → after ≡ before

-- the mesh is the best one of the state, what is told of it, and which triangles went and came
pub record IsFrameMade (before after : EngineState) (told_before told : Frame) (answer : Answer) : Type 0 where
  pub done : (answer ≡ Done) ↔ (before.frames < MOST_FRAMES)
  pub worn : (answer ≡ Worn) ↔ (MOST_FRAMES ≤ before.frames)
  pub made : answer ≡ Done → IsFrameDone before after (note_of told)
  pub best : answer ≡ Done →
      IsBestMesh after.state.grid.n after.state.budget (priority_in after.state) (mesh_seen after)
  pub triangles : answer ≡ Done → told.triangles ≡ length (mesh_seen after)
  pub unblocked : answer ≡ Done → ((told.blocking ≡ 0) ↔ All (λ a. priority_in after.state a ≡ 0) (mesh_seen after))
  pub certificate : answer ≡ Done → told.blocking ≢ 0 → (after.state.budget < told.need)
      × (priority_in after.state told.blocking ≡ told.worst) × Contains (mesh_seen after) told.blocking
  pub unneeded : answer ≡ Done → told.blocking ≡ 0 → told.need ≡ 0
  pub spare : answer ≡ Done → told.spare ≡ 0
  pub changed : answer ≡ Done → AreChangesOf (mesh_seen before) (mesh_seen after) after.changes
  pub kept : (answer ≡ Done → ⊥) → after ≡ before
  pub untold : (answer ≡ Done → ⊥) → told ≡ told_before

-- the indices of the mesh stand in the first places of an array, and how many triangles there are is told
abbrev pub AreIndicesTold : EngineState → List ℕ → List ℕ → ℕ → ℕ → Answer → Type 0
AreIndicesTold e array_before array count_before count answer =
    AreIndicesOf e.state.grid.n (mesh_seen e) array_before array count_before count answer

-- the same of the addresses of the triangles
abbrev pub AreLeavesTold : EngineState → List ℕ → List ℕ → ℕ → ℕ → Answer → Type 0
AreLeavesTold e array_before array count_before count answer =
    AreNumbersTold (mesh_seen e) array_before array count_before count answer
