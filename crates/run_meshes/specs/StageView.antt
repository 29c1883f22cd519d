-- What contracts see of a stage, and how it and what makes the frames show a place of a script.
-- Words: IsScriptStage, Shows, IsScriptAt.
use Rattle.std.specs.Prelude.{◌≡◌, ℕ, ◌≤◌, List, length}
use Rattle.roam_script.specs.declared.limits.TheConstants.{MOST_LINES, MOST_LINE_BYTES}
use Rattle.run_laws.specs.Walk.{Walk}
use Rattle.run_words.specs.Words.{Show}
use Rattle.run_laws.specs.Picture.{Picture}
use Rattle.run_laws.specs.Act.{Sinks}
use Rattle.run_laws.specs.Step.{Place, HasCome}
use Rattle.run_laws.specs.Maker.{TellsFrames}
use Rattle.run_meshes.specs.declared.stage.Stage.{Stage}

-- no more lines than may be, nor bytes of a line
pub record IsScriptStage (stage : Stage) : Type 0 where
  pub few_lines : stage.lines ≤ MOST_LINES
  pub short : length stage.part.items ≤ MOST_LINE_BYTES

-- the stage holds what the place says, and what makes the frames has followed its walk
pub record Shows (show : Show) (follows : Show → Walk → List Picture → Type 0) (stage : Stage)
    (here : Place) : Type 0 where
  pub followed : follows show here.walk here.pictures
  pub lines : stage.lines ≡ here.walk.lines
  pub begun : stage.part.items ≡ here.begun

-- a script was carried out as far as it was read, and the stage shows the place that was reached
pub record IsScriptAt (before now : Sinks) (show : Show) (follows : Show → Walk → List Picture → Type 0) (start : Walk)
    (read : List ℕ) (stage : Stage) : Type 0 where
  pub here : Place
  pub come : HasCome before now show start read here
  pub shows : Shows show follows stage here
  pub alone : TellsFrames show
