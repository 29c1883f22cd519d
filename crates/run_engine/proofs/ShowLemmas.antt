-- Frames as strips and as measures: what is written is what the picture says.
use Rattle.std.proofs.Common.{◌≡◌, ℕ, List, length, Result, sym, ap, subst}
use Rattle.mesh_defs.specs.ClosedSet.{among}
use Rattle.mesh_laws.specs.Strip.{strip_of}
use Rattle.roam_mesh.specs.Mesh.{pool_members}
use Rattle.frame_loop.specs.Engine.{EngineState}
use Rattle.frame_loop.specs.declared.note.FrameNote.{FrameNote}
use Rattle.run_laws.specs.Turns.{left_turns, right_turns}
use Rattle.run_laws.specs.Moment.{Moment, Does}
use Rattle.run_laws.specs.Picture.{Picture}
use Rattle.run_laws.specs.Outcome.{picture_acts}
use Rattle.run_laws.specs.ReportText.{strip_line}
use Rattle.run_words.specs.declared.showing.Showing.{Showing}
use Rattle.run_words.specs.ShowView.{show_seen}
use Rattle.run_engine.specs.NoteSeen.{picture_seen}
use Rattle.run_engine.specs.ShowView.{strip_numbers}

-- the line of a strip is that of the picture
pub strip-line : (engine : EngineState) (note : FrameNote) (number : ℕ) (order : List ℕ) →
    order ≡ strip_of engine.state.grid.n (among (pool_members engine.mesh.pool))
    → strip_numbers number (length order) (left_turns engine.state.grid.n order) (right_turns engine.state.grid.n order)
    ≡ strip_line number (picture_seen engine note)
strip-line engine note number order is =
    ap (λ (l : List ℕ). strip_numbers number (length l) (left_turns engine.state.grid.n l)
    (right_turns engine.state.grid.n l)) is

-- what a frame does that is shown in a known way
pub shown-does : {T E : Type 0} (before now : Moment) (showing other : Showing) (number : ℕ)
    (picture : Picture) (answer : Result T E)
    → showing ≡ other → Does before now (picture_acts (show_seen other) number picture) answer
    → Does before now (picture_acts (show_seen showing) number picture) answer
shown-does before now showing other number picture answer is does =
    subst (λ (s : Showing). Does before now (picture_acts (show_seen s) number picture) answer) (sym is) does
