-- What the calls do that carry a script out, by their answers.
-- Words: status_for, NotFailed, StopsHaveCause, OnlyTakes, OnlyEnds, GoesOn, IsRefused, TakesBytes, TakesMore.
use Rattle.std.specs.Prelude.{◌≡◌, ◌≢◌, ℕ, List, ◌++◌, Result, Err, OnOk}
use Rattle.roam_edge.specs.Fault.{IsInTime, next_count}
use Rattle.run_laws.specs.declared.status.Status.{Status}
use Rattle.run_laws.specs.declared.status.Status.TheVariants as ends
use Rattle.run_laws.specs.Walk.{Walk}
use Rattle.run_words.specs.Words.{Show}
use Rattle.run_laws.specs.Act.{Sinks}
use Rattle.run_laws.specs.Cause.{NoFault, WriteFaults, StatusWritesHaveCause}
use Rattle.run_laws.specs.Moment.{Moment}
use Rattle.run_laws.specs.Picture.{Picture}
use Rattle.run_laws.specs.Outcome.{engine_for}
use Rattle.run_laws.specs.Step.{Refuses, Cuts}
use Rattle.run_laws.specs.Maker.{Starts}
use Rattle.run_meshes.specs.declared.script.Stop.{Stop}
use Rattle.run_meshes.specs.declared.script.Stop.TheVariants.{Refused, Failed}
use Rattle.run_meshes.specs.declared.stage.Stage.{Stage}
use Rattle.run_meshes.specs.StageView.{IsScriptAt}

-- the status of a run that goes no further
abbrev pub status_for : Stop → Status
status_for Refused = ends.ScriptRefused
status_for Failed = ends.WriteFault

-- the answer is no failure of a write
abbrev pub NotFailed : {T : Type 0} → Result T Stop → Type 0
NotFailed answer = answer ≢ Err Failed

-- a call fails exactly where a count rose; every other answer leaves both counts as they were
pub record StopsHaveCause {T : Type 0} (meshes meshes' report report' : ℕ) (answer : Result T Stop) : Type 0 where
  pub failed : answer ≡ Err Failed → WriteFaults meshes meshes' report report'
  pub others : NotFailed answer → NoFault meshes meshes' report report'

-- Taking bytes calls no shelf, and fails exactly where a sink does; else no other mesh is under way than before.
pub record OnlyTakes {T : Type 0} (before now : Moment) (answer : Result T Stop) : Type 0 where
  pub shelf : now.shelf ≡ before.shelf
  pub shelf_faults : now.shelf_faults ≡ before.shelf_faults
  pub shelf_late : now.shelf_late ≡ before.shelf_late
  pub idle : NotFailed answer → now.under_way ≡ before.under_way
  pub faults : StopsHaveCause before.sinks.mesh_faults now.sinks.mesh_faults
      before.sinks.report_faults now.sinks.report_faults answer
  pub meshes_in_time : IsInTime before.mesh_late before.sinks.mesh_faults now.mesh_late
  pub report_in_time : IsInTime before.report_late before.sinks.report_faults now.report_late

-- the same of the end of a script, by the status
pub record OnlyEnds (before now : Moment) (status : Status) : Type 0 where
  pub shelf : now.shelf ≡ before.shelf
  pub shelf_faults : now.shelf_faults ≡ before.shelf_faults
  pub shelf_late : now.shelf_late ≡ before.shelf_late
  pub idle : status ≢ ends.WriteFault → now.under_way ≡ before.under_way
  pub faults : StatusWritesHaveCause before.sinks.mesh_faults now.sinks.mesh_faults
      before.sinks.report_faults now.sinks.report_faults status
  pub meshes_in_time : IsInTime before.mesh_late before.sinks.mesh_faults now.mesh_late
  pub report_in_time : IsInTime before.report_late before.sinks.report_faults now.report_late

-- a script was opened, and nothing has failed since
pub record GoesOn (before now : Moment) : Type 0 where
  pub files : now.shelf.files ≡ before.shelf.files
  pub opens : now.shelf.opens ≡ next_count before.shelf.opens
  pub shelf_faults : now.shelf_faults ≡ before.shelf_faults
  pub idle : now.under_way ≡ before.under_way
  pub faults : NoFault before.sinks.mesh_faults now.sinks.mesh_faults before.sinks.report_faults now.sinks.report_faults
  pub shelf_in_time : IsInTime before.shelf_late before.shelf_faults now.shelf_late
  pub meshes_in_time : IsInTime before.mesh_late before.sinks.mesh_faults now.mesh_late
  pub report_in_time : IsInTime before.report_late before.sinks.report_faults now.report_late

-- A line that was read is refused, whatever follows. What makes the frames has followed the walk of the lines before
-- it, behind which the same engine is left.
pub record IsRefused (before now : Sinks) (show : Show) (follows : Show → Walk → List Picture → Type 0) (start : Walk)
    (read : List ℕ) : Type 0 where
  pub refuses : Refuses before now show start read
  pub gone : Walk
  pub followed : follows show gone refuses.pictures
  pub same_end : engine_for show refuses.walk refuses.pictures ≡ engine_for show gone refuses.pictures

-- what taking bytes does, by its answer
pub record TakesBytes {T : Type 0} (before now : Sinks) (show : Show) (follows : Show → Walk → List Picture → Type 0)
    (start : Walk) (read : List ℕ) (stage : Stage) (answer : Result T Stop) : Type 0 where
  pub ok : OnOk answer (IsScriptAt before now show follows start read stage)
  pub refused : answer ≡ Err Refused → IsRefused before now show follows start read
  pub failed : answer ≡ Err Failed → Cuts before now show 2 start read

-- the same of these bytes behind any others, by what the sinks told, what makes the frames had followed, and the stage
-- was, before them and after
abbrev pub TakesMore : {T : Type 0} → List ℕ → Sinks → Sinks → (Show → Walk → List Picture → Type 0)
    → (Show → Walk → List Picture → Type 0) → Stage → Stage → Result T Stop → Type 0
TakesMore bytes old new followed follows held stage answer =
    (before : Sinks) (show : Show) (start : Walk) (read : List ℕ) → Starts start
    → IsScriptAt before old show followed start read held
    → TakesBytes before new show follows start (read ++ bytes) stage answer
