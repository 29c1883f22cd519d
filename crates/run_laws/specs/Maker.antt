-- What makes the frames of a script: how it begins, what a frame line does, and how a script ends.
-- Words: refusal, TellsFrames, Starts, Begins, TakesFrame, LeavesEngine, IsScriptEnd, DoesAs, EndsScript,
-- ScriptHasCome.
use Rattle.std.specs.Prelude.{◌≡◌, ◌⊎◌, ℕ, ◌+◌, ◌≤◌, IsTrue, List, [], ◌∷◌, ◌++◌, length, None, Result, OnOk, OnErr}
use Rattle.mesh_defs.specs.declared.level.TheConstants.{GREATEST_LEVEL}
use Rattle.roam_script.specs.declared.line.Line.TheVariants.{Frame}
use Rattle.roam_script.specs.declared.script_fault.ScriptFault.{ScriptFault}
use Rattle.run_laws.specs.declared.status.Status.{Status}
use Rattle.run_laws.specs.declared.status.Status.TheVariants as ends
use Rattle.run_laws.specs.Walk.{Refusal, Walk, walk_of, after_line}
use Rattle.run_words.specs.Words.{Show}
use Rattle.run_laws.specs.Act.{Sinks, Stands, IsCutShort}
use Rattle.run_laws.specs.Picture.{Picture, IsPicture, last_members}
use Rattle.run_laws.specs.Outcome.{Outcome, picture_acts, sum_acts, engine_for, IsFramesOutcome}
use Rattle.run_laws.specs.Promise.{is_complete}
use Rattle.run_laws.specs.Laws.{KeepsStates}
use Rattle.run_laws.specs.Step.{Place, HasCome}

-- the refusal of the line of this number
abbrev pub refusal : ℕ → ScriptFault → Refusal
refusal number why = record { line = number; fault = why }

-- where frames are shown so, nothing is told but the frames
abbrev pub TellsFrames : Show → Type 0
TellsFrames show = (pictures : List Picture) → sum_acts show pictures ≡ []

-- the walk starts with a state of a grid of this program, and with a budget of at least 2
pub record Starts (start : Walk) : Type 0 where
  pub keeps : KeepsStates start.state.grid.n start
  pub n_low : 1 ≤ start.state.grid.n
  pub n_high : start.state.grid.n ≤ GREATEST_LEVEL

-- the walk is at its beginning, and what makes the frames follows it
pub record Begins (show : Show) (follows : Show → Walk → List Picture → Type 0) (start : Walk) : Type 0 where
  pub starts : Starts start
  pub goes : start.stop ≡ None
  pub none : start.frames ≡ []
  pub first : start.lines ≡ 0
  pub followed : follows show start []
  pub alone : TellsFrames show

-- What a frame line does, by its answer: its frame has this picture, and is shown, or cut short.
pub record TakesFrame {T E : Type 0} (before now : Sinks) (show : Show) (walk : Walk) (pictures : List Picture)
    (follows : Show → Walk → List Picture → Type 0) (answer : Result T E) : Type 0 where
  pub picture : Picture
  pub is_picture : IsPicture show (last_members [] pictures) walk.state picture
  pub followed : follows show (after_line Frame walk) (pictures ++ picture ∷ [])
  pub shown : OnOk answer (Stands before now (picture_acts show (1 + length walk.frames) picture))
  pub cut_short : OnErr answer (IsCutShort before now (picture_acts show (1 + length walk.frames) picture))

-- what makes the frames has followed a walk, behind which the engine of the outcome is left
pub record LeavesEngine (show : Show) (follows : Show → Walk → List Picture → Type 0) (end : Outcome) : Type 0 where
  pub walk : Walk
  pub pictures : List Picture
  pub followed : follows show walk pictures
  pub left : engine_for show walk pictures ≡ end.engine

-- a script ends so once it was read
abbrev pub IsScriptEnd : Status → Type 0
IsScriptEnd end = (end ≡ ends.Done) ⊎ ((end ≡ ends.ScriptRefused) ⊎ (end ≡ ends.WriteFault))

-- what an outcome says stands, by the status of the run
pub record DoesAs (before now : Sinks) (end : Outcome) (status : Status) : Type 0 where
  pub complete : IsTrue (is_complete status) → Stands before now end.acts × (status ≡ end.status)
  pub cut_short : status ≡ ends.WriteFault → IsCutShort before now end.acts

-- The end of a script does as an outcome of its walk says, and where all of it stands what makes the frames has come to
-- its end.
abbrev pub EndsScript : Sinks → Sinks → Show → (Show → Walk → List Picture → Type 0) → Walk → List ℕ → Status → Type 0
EndsScript before now show follows start read status =
    (end : Outcome) × IsFramesOutcome show 2 (walk_of start read) end × DoesAs before now end status
    × (IsTrue (is_complete status) → LeavesEngine show follows end)

-- a script was carried out as far as these bytes of it lead
abbrev pub ScriptHasCome : Sinks → Sinks → Show → Walk → List ℕ → Type 0
ScriptHasCome before now show start read = (here : Place) × HasCome before now show start read here
