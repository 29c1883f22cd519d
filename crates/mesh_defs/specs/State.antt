-- The state of a script after some of its lines, on which the next frame depends: the heights as they are,
-- the view, and the budget in force. Each kind of line that changes it has one function here.
-- This project's own words.
-- Words: State, SceneState, scene_of, start_state, with_camera, with_heights, with_height, with_plane, without_planes,
-- with_threshold, with_budget, Area, is_in_area, clamped, raised_at, raised_heights, with_raised, priority_seen,
-- priority_in, text_in, move_length.
use Rattle.std.specs.Prelude.{ℕ, ◌+◌, ◌-◌, ◌^◌, ◌/◌, ◌%◌, min, Bool, ◌&&◌, nat_le, if◌then◌else◌, List, [], ◌∷◌, ◌++◌}
use Rattle.std.specs.Prelude.{map, slice_set, ℤ, pos, ◌+ℤ◌, ◌-ℤ◌, int_lt, unsigned_abs}
use Rattle.std.specs.List.{enumerate_from}
use Rattle.mesh_defs.specs.HeightField.{HeightField, side_of, place_of}
use Rattle.mesh_defs.specs.BoundingBox.{CameraAt}
use Rattle.mesh_defs.specs.View.{View, ViewPlane, start_view}
use Rattle.mesh_defs.specs.Priority.{priority_of}
use Rattle.mesh_defs.specs.MeshText.{mesh_text}

-- the height field with its heights as they are, the view, and the budget in force
pub record State : Type 0 where
  pub grid : HeightField
  pub view : View
  pub budget : ℕ

-- a state without its budget, on which no priority depends: the heights as they are, and the view
pub record SceneState : Type 0 where
  pub grid : HeightField
  pub view : View

-- the scene of a state
abbrev pub scene_of : State → SceneState
scene_of state = record { grid = state.grid; view = state.view }

-- the state before the first line: the heights of the grid, the camera at the origin, no plane
abbrev pub start_state : HeightField → ℕ → ℕ → State
start_state field spacing most = record { grid = field; view = start_view spacing; budget = most }

-- the camera is put to a point
abbrev pub with_camera : CameraAt → State → State
with_camera place state = record state { view = record state.view { camera = place } }

-- the grid has these heights in place of its own
abbrev pub with_heights : List ℕ → State → State
with_heights all state = record state { grid = record state.grid { heights = all } }

-- the height of the point (x, y) is replaced
abbrev pub with_height : ℕ → ℕ → ℕ → State → State
with_height x y h state = with_heights (slice_set state.grid.heights (place_of state.grid.n x y) h) state

-- one plane more is in force
abbrev pub with_plane : ViewPlane → State → State
with_plane plane state = record state { view = record state.view { planes = state.view.planes ++ plane ∷ [] } }

-- no plane is in force
abbrev pub without_planes : State → State
without_planes state = record state { view = record state.view { planes = [] } }

-- the threshold is replaced
abbrev pub with_threshold : ℕ → State → State
with_threshold t state = record state { view = record state.view { threshold = t } }

-- the budget is replaced
abbrev pub with_budget : ℕ → State → State
with_budget most state = record state { budget = most }

-- a rectangle of grid points: columns x0 to x1 and rows y0 to y1
pub record Area : Type 0 where
  pub x0 : ℕ
  pub y0 : ℕ
  pub x1 : ℕ
  pub y1 : ℕ

-- the point (x, y) lies in the area
abbrev pub is_in_area : Area → ℕ → ℕ → Bool
is_in_area area x y = nat_le area.x0 x && nat_le x area.x1 && nat_le area.y0 y && nat_le y area.y1

-- a number brought into 0 to maxval
abbrev pub clamped : ℕ → ℤ → ℕ
clamped maxval v = if int_lt v (pos 0) then 0 else min maxval (unsigned_abs v)

-- for a place in file order and its height: the height there after the area was raised by dz
abbrev pub raised_at : HeightField → Area → ℤ → ℕ × ℕ → ℕ
raised_at field area dz entry =
    let side : ℕ = side_of field.n in
    if is_in_area area (entry.0 % side) (2 ^ field.n - entry.0 / side)
    then clamped field.maxval (pos entry.1 +ℤ dz) else entry.1

-- all heights in file order, those of the area raised by dz and brought into 0 to maxval
abbrev pub raised_heights : HeightField → Area → ℤ → List ℕ
raised_heights field area dz = map (raised_at field area dz) (enumerate_from 0 field.heights)

-- each height of the area is raised
abbrev pub with_raised : Area → ℤ → State → State
with_raised area dz state = with_heights (raised_heights state.grid area dz) state

-- the priority of a triangle in this scene
abbrev pub priority_seen : SceneState → ℕ → ℕ
priority_seen scene = priority_of scene.grid.n scene.grid.heights scene.view

-- the priority of a triangle in this state
abbrev pub priority_in : State → ℕ → ℕ
priority_in state = priority_of state.grid.n state.grid.heights state.view

-- the text of the mesh of these triangles in this state
abbrev pub text_in : State → List ℕ → List ℕ
text_in state triangles = mesh_text state.grid.n state.grid.heights state.view.spacing state.view.planes triangles

-- the length of a move: the sum of its lengths on the three axes
abbrev pub move_length : CameraAt → CameraAt → ℕ
move_length old new = unsigned_abs (new.x -ℤ old.x) + unsigned_abs (new.y -ℤ old.y) + unsigned_abs (new.z -ℤ old.z)
