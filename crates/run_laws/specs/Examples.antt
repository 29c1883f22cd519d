-- What small scripts come to, worked by hand from the format, and what small meshes are measured to be.
-- Words: flat, walk_under, refused, limits_at, corner_strip, and an example a word.
use Rattle.std.specs.Prelude.{◌≡◌, ℕ, List, [], ◌∷◌, ◌++◌, length, replicate, map, Option, Some, None, Ok, Err, codes}
use Rattle.mesh_defs.specs.HeightField.{HeightField}
use Rattle.mesh_defs.specs.State.{State, start_state}
use Rattle.roam_script.specs.declared.limits.Limits.{Limits}
use Rattle.roam_script.specs.declared.line.Line.TheVariants.{Frame, Blank}
use Rattle.roam_script.specs.declared.script_fault.ScriptFault.{ScriptFault}
use Rattle.roam_script.specs.declared.script_fault.ScriptFault.TheVariants.{LineTooLong, UnknownCommand, WrongFields}
use Rattle.roam_script.specs.declared.script_fault.ScriptFault.TheVariants.{BadNumber, OutOfRange, TooManyLines}
use Rattle.roam_script.specs.declared.script_fault.ScriptFault.TheVariants.{TooManyFrames, TooManyPlanes}
use Rattle.roam_script.specs.LineText.{line_in}
use Rattle.fit_laws.specs.PlaneHeight.{deviation_of, thickest_of}
use Rattle.run_laws.specs.Turns.{left_turns, right_turns}
use Rattle.run_laws.specs.Walk.{Refusal, Walk, start_walk, walk_of}

-- nine points of height 0
abbrev pub flat : HeightField
flat = record { n = 1; maxval = 65535; heights = replicate 9 0 }

-- the walk of a script over them
abbrev pub walk_under : ℕ → List ℕ → Walk
walk_under budget script = walk_of (start_walk budget (start_state flat 1 budget)) script

abbrev pub refused : ℕ → ScriptFault → Option Refusal
refused number why = Some (record { line = number; fault = why })

abbrev pub limits_at : ℕ → ℕ → Limits
limits_at number made = record { n = 1; maxval = 65535; planes = 0; line = number; frames = made; budget = 8 }

-- one frame, and then a line with two numbers in place of three
abbrev pub WrongFieldsStop : Type 0
WrongFieldsStop =
    let walk : Walk = walk_under 8 (codes "frame\ncamera 1 2") in
    (walk.stop ≡ refused 2 WrongFields) × (length walk.frames ≡ 1) × (walk.lines ≡ 1)
    × (length (walk_under 8 (codes "frame")).frames ≡ 1) × (length (walk_under 8 []).frames ≡ 0)

-- an unknown word, a field that is no number, a column out of the grid, and 201 bytes; but not 200
abbrev pub FirstLinesAreRefused : Type 0
FirstLinesAreRefused =
    ((walk_under 8 (codes "fly")).stop ≡ refused 1 UnknownCommand)
    × ((walk_under 8 (codes "camera 1 two 3")).stop ≡ refused 1 (BadNumber 2))
    × ((walk_under 8 (codes "set 3 0 0")).stop ≡ refused 1 (OutOfRange 1))
    × ((walk_under 8 (replicate 201 35)).stop ≡ refused 1 LineTooLong)
    × ((walk_under 8 (replicate 200 35)).stop ≡ None)
    × ((walk_under 8 (replicate 200 35)).lines ≡ 1)

-- the millionth frame, and line 10,000,001
abbrev pub CountsAreBounded : Type 0
CountsAreBounded =
    (line_in (limits_at 1 999999) (codes "frame") ≡ Err TooManyFrames)
    × (line_in (limits_at 1 999998) (codes "frame") ≡ Ok Frame)
    × (line_in (limits_at 10000001 0) (codes "") ≡ Err TooManyLines)
    × (line_in (limits_at 10000000 0) (codes " \t\r") ≡ Ok Blank)

-- the seventh plane
abbrev pub SeventhPlaneStops : Type 0
SeventhPlaneStops =
    (walk_under 8 (codes
    "plane 1 0 0 0\nplane 1 0 0 0\nplane 1 0 0 0\nplane 1 0 0 0\nplane 1 0 0 0\nplane 1 0 0 0\nplane 1 0 0 0\n")).stop
    ≡ refused 7 TooManyPlanes

-- the budgets in force at the frame lines, and one above that of the words
abbrev pub BudgetsAreInForce : Type 0
BudgetsAreInForce =
    (map (λ (s : State). s.budget) (walk_under 9 (codes "frame\nbudget 7\nframe\nbudget 9\nframe\n")).frames
    ≡ 9 ∷ 7 ∷ 9 ∷ [])
    × ((walk_under 9 (codes "frame\nbudget 10\nframe\nbudget 9\nframe\n")).stop ≡ refused 2 (OutOfRange 1))
    × (length (walk_under 9 (codes "frame\nbudget 10\nframe\nbudget 9\nframe\n")).frames ≡ 1)

-- one point is raised, and then a whole grid up to its maxval; an area that ends before it begins
abbrev pub AreasAreRaised : Type 0
AreasAreRaised =
    ((walk_under 4 (codes "raise 1 1 1 1 10\nframe\n")).state.grid.heights ≡ 0 ∷ 0 ∷ 0 ∷ 0 ∷ 10 ∷ 0 ∷ 0 ∷ 0 ∷ 0 ∷ [])
    × ((walk_under 4 (codes "raise 0 0 2 2 65535\nraise 1 1 1 1 1\nframe\n")).state.grid.heights ≡ replicate 9 65535)
    × ((walk_under 4 (codes "raise 2 0 1 2 5")).stop ≡ refused 1 (OutOfRange 3))

-- a camera that goes and comes, and a height by column and row from the lower left corner
abbrev pub WaysAreAddedUp : Type 0
WaysAreAddedUp =
    ((walk_under 4 (codes "camera -3 -4 0\ncamera 1 0 2\r\n\tframe\n# x\n")).odometer ≡ 17)
    × ((walk_under 4 (codes "set 1 0 7\n")).state.grid.heights ≡ 0 ∷ 0 ∷ 0 ∷ 0 ∷ 0 ∷ 0 ∷ 0 ∷ 7 ∷ 0 ∷ [])

-- the strip of the mesh that a high corner needs in a grid of side 4
abbrev pub corner_strip : List ℕ
corner_strip = 9 ∷ (16 ∷ (35 ∷ (34 ∷ (22 ∷ (23 ∷ (10 ∷ (6 ∷ (7 ∷ []))))))))

-- two triangles have no turn, the four quarters of a square have two, and that strip seven
abbrev pub TurnsOfStrips : Type 0
TurnsOfStrips =
    (left_turns 1 (2 ∷ (3 ∷ [])) ≡ 0) × (right_turns 1 (2 ∷ (3 ∷ [])) ≡ 0)
    × (left_turns 1 (4 ∷ (5 ∷ (6 ∷ (7 ∷ [])))) ≡ 0) × (right_turns 1 (4 ∷ (5 ∷ (6 ∷ (7 ∷ [])))) ≡ 2)
    × (left_turns 2 corner_strip ≡ 2) × (right_turns 2 corner_strip ≡ 5)

-- a peak of 10 between two triangles and among four; and a corner of 1, which is off by three quarters beside it
abbrev pub MeshesAreMeasured : Type 0
MeshesAreMeasured =
    let peak : List ℕ = 0 ∷ 0 ∷ 0 ∷ 0 ∷ 10 ∷ 0 ∷ 0 ∷ 0 ∷ 0 ∷ [] in
    let corner : List ℕ = replicate 20 0 ++ 1 ∷ replicate 4 0 in
    (deviation_of 1 peak (2 ∷ (3 ∷ [])) ≡ 20) × (thickest_of 1 peak (2 ∷ (3 ∷ [])) ≡ 20)
    × (deviation_of 1 peak (4 ∷ (5 ∷ (6 ∷ (7 ∷ [])))) ≡ 0) × (thickest_of 1 peak (4 ∷ (5 ∷ (6 ∷ (7 ∷ [])))) ≡ 0)
    × (deviation_of 2 corner (2 ∷ (3 ∷ [])) ≡ 3) × (thickest_of 2 corner (2 ∷ (3 ∷ [])) ≡ 3)
