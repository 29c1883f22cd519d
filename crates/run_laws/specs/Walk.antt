-- How far a script leads: a fold over its lines, up to its end or to the first line that is refused.
-- This project's own.
-- Words: Refusal, Walk, start_walk, limits_of, state_after, shown_by, way_of, after_line, refused_walk, after_text,
-- walk_along, walk_lines, lines_of, walk_of, AreWhole, HasBegun.
use Rattle.std.specs.Prelude.{◌≡◌, ◌≢◌, ℕ, ◌+◌, ◌==◌, ◌≤◌, ◌⊎◌, cond, List, [], ◌∷◌, ◌++◌, length, All, Option, Some}
use Rattle.std.specs.Prelude.{None, Ok, Err}
use Rattle.std.specs.List.{onto_first}
use Rattle.mesh_defs.specs.State.{State, with_camera, with_height, with_plane, without_planes, with_budget, with_raised}
use Rattle.mesh_defs.specs.State.{move_length}
use Rattle.roam_script.specs.declared.line.Line.{Line}
use Rattle.roam_script.specs.declared.line.Line.TheVariants.{Blank, Camera, Set, Plane, NoPlanes, Budget, Raise, Frame}
use Rattle.roam_script.specs.declared.script_fault.ScriptFault.{ScriptFault}
use Rattle.roam_script.specs.declared.limits.Limits.{Limits}
use Rattle.roam_script.specs.declared.limits.TheConstants.{MOST_LINES, MOST_LINE_BYTES}
use Rattle.roam_script.specs.LineText.{line_in}

-- the line of this number, counted from 1, is refused
pub record Refusal : Type 0 where
  pub line : ℕ
  pub fault : ScriptFault

-- the greatest budget that a line may set, the state, how many lines were carried out, the states at the
-- frame lines, in order, how far the camera went, and why the script goes no further
pub record Walk : Type 0 where
  pub most : ℕ
  pub state : State
  pub lines : ℕ
  pub frames : List State
  pub odometer : ℕ
  pub stop : Option Refusal

-- before the first line
abbrev pub start_walk : ℕ → State → Walk
start_walk greatest first =
    record { most = greatest; state = first; lines = 0; frames = []; odometer = 0; stop = None }

-- what the next line is read under
abbrev pub limits_of : Walk → Limits
limits_of walk = record {
  n = walk.state.grid.n;
  maxval = walk.state.grid.maxval;
  planes = length walk.state.view.planes;
  line = walk.lines + 1;
  frames = length walk.frames;
  budget = walk.most;
}

-- the state after an accepted line
abbrev pub state_after : Line → State → State
state_after Blank state = state
state_after (Camera i j k) state = with_camera (record { x = i; y = j; z = k }) state
state_after (Set x y h) state = with_height x y h state
state_after Frame state = state
state_after (Plane i j k l) state = with_plane (record { a = i; b = j; c = k; d = l }) state
state_after NoPlanes state = without_planes state
state_after (Budget n) state = with_budget n state
state_after (Raise i j k l dz) state = with_raised (record { x0 = i; y0 = j; x1 = k; y1 = l }) dz state

-- the states that a line shows: a frame line the one at it
abbrev pub shown_by : Line → State → List State
shown_by Frame state = state ∷ []
shown_by _ state = []

-- how far the camera goes with a line
abbrev pub way_of : Line → State → ℕ
way_of (Camera i j k) state = move_length state.view.camera (record { x = i; y = j; z = k })
way_of _ state = 0

-- after an accepted line
abbrev pub after_line : Line → Walk → Walk
after_line line walk = record walk {
  state = state_after line walk.state;
  lines = walk.lines + 1;
  frames = walk.frames ++ shown_by line walk.state;
  odometer = walk.odometer + way_of line walk.state;
}

-- after accepted lines
abbrev pub walk_along : Walk → List Line → Walk
walk_along walk [] = walk
walk_along walk (line ∷ lines) = walk_along (after_line line walk) lines

-- the next line is refused
abbrev pub refused_walk : ScriptFault → Walk → Walk
refused_walk why walk = record walk { stop = Some (record { line = walk.lines + 1; fault = why }) }

-- after the bytes of a line: where it is refused the walk stops, and a walk that has stopped stays so
abbrev pub after_text : Walk → List ℕ → Walk
after_text walk bytes = elim walk.stop as (λ _. Walk) [
  | Some refusal ↦ walk
  | None ↦ elim (line_in (limits_of walk) bytes) as (λ _. Walk) [
    | Ok line ↦ after_line line walk
    | Err why ↦ refused_walk why walk
  ]
]

-- after the bytes of lines
abbrev pub walk_lines : Walk → List (List ℕ) → Walk
walk_lines walk [] = walk
walk_lines walk (bytes ∷ lines) = walk_lines (after_text walk bytes) lines

-- The lines of a text: it is cut at each LF (10), and bytes after the last LF are a line too.
abbrev pub lines_of : List ℕ → List (List ℕ)
lines_of [] = []
lines_of (byte ∷ bytes) = cond (byte == 10) ([] ∷ lines_of bytes) (onto_first byte (lines_of bytes))

-- The walk of a script's bytes.
unfoldable pub walk_of : Walk → List ℕ → Walk
walk_of walk bytes = walk_lines walk (lines_of bytes)

-- nothing, or lines that all end with their LF
abbrev pub AreWhole : List ℕ → Type 0
AreWhole bytes = (bytes ≡ []) ⊎ ((rest : List ℕ) × (bytes ≡ rest ++ 10 ∷ []))

-- Behind so many lines these bytes have begun a line that no byte has refused yet: no LF is among them,
-- they are no more than a line may have, and no line has begun behind the last that may stand.
pub record HasBegun (lines : ℕ) (begun : List ℕ) : Type 0 where
  pub one_line : All (λ byte. byte ≢ 10) begun
  pub short : length begun ≤ MOST_LINE_BYTES
  pub last : (begun ≡ []) ⊎ (lines + 1 ≤ MOST_LINES)
