-- How a command is carried out: how it ends, what its engine tells then, and what reading its files and telling its end
-- come to.
-- Words: CommandEnds, RunsCommand, HasOpened, HasFailed, MeshHasRead, ReadsGrid, KeepsPoints, ReadsPoints, EndsWith,
-- TellsLast, LeavesByScript.
use Rattle.std.specs.Prelude.{◌≡◌, ◌≢◌, ◌⊎◌, ℕ, ◌+◌, ◌^◌, ◌≤◌, false, IsTrue, All, List, [], ◌∷◌, length, slice_get}
use Rattle.std.specs.Prelude.{Option, Some, Ok, Err}
use Rattle.mesh_defs.specs.declared.point.Point.{Point}
use Rattle.mesh_defs.specs.HeightField.{HeightField}
use Rattle.bintree_laws.specs.Corners.{IsInSquare}
use Rattle.roam_edge.specs.Fault.{Rose, IsInTime, next_count}
use Rattle.roam_edge.specs.Shelf.{NamedFile, bytes_of}
use Rattle.roam_edge.specs.Told.{IsPrefix}
use Rattle.pgm_grid.specs.Progress.{grid_of}
use Rattle.run_laws.specs.declared.status.Status.{Status}
use Rattle.roam_script.specs.PointText.{most_points}
use Rattle.run_laws.specs.declared.status.Status.TheVariants.{Done, NoMemory, ScriptRefused, ReadFault, WriteFault}
use Rattle.run_words.specs.Words.{Command, Job, OnGrid}
use Rattle.run_words.specs.Jobs.{names_of, file_count}
use Rattle.run_laws.specs.Walk.{Refusal}
use Rattle.run_laws.specs.PointFile.{points_in, PointsHaveRead}
use Rattle.run_laws.specs.ReportText.{line_refusal}
use Rattle.run_laws.specs.Act.{Act, ReportText, Sinks, meshes_of}
use Rattle.run_laws.specs.Cause.{StatusHasCause, StatusWritesHaveCause}
use Rattle.run_laws.specs.Outcome.{Outcome, EngineEnd, IsJobOutcome, IsCommandOutcome, plain_outcome, text_outcome}
use Rattle.run_laws.specs.Promise.{ShelfState, EndsAs, HasEnded, JobHasRead, HasReadHeader, is_complete, may_end}
use Rattle.run_laws.specs.Promise.{leaves_engine}
use Rattle.run_laws.specs.FileStop.{StopsReading}
use Rattle.run_laws.specs.Maker.{DoesAs}
use Rattle.run_laws.specs.Moment.{Moment, OnlyReads, SameMeshes}
use Rattle.run_laws.specs.Statement.{EndsByStatus, LeavesOutside}

-- unless memory ran out or a read failed, the command ends as its outcome, and leaves its engine
pub record CommandEnds (before now : Sinks) (old new : ShelfState) (command : Command)
    (files : List NamedFile) (status : Status)
    (left : Option EngineEnd) : Type 0 where
  pub ends : status ≢ NoMemory → status ≢ ReadFault
      → (end : Outcome) × IsCommandOutcome command files end × EndsAs before now old new end status
      × (IsTrue (is_complete status) → left ≡ end.engine)

-- This command was carried out, or the words are none: what stands by the status, how the outside and the engine are
-- left, and that the status has its cause. Every function that carries a command out promises this.
pub record RunsCommand (before now : Moment) (command : Option Command) (status : Status)
    (left : Option EngineEnd) : Type 0 where
  pub ends : EndsByStatus before now command status left
  pub leaves : LeavesOutside before now command status left
  pub allowed : IsTrue (may_end command status)
  pub causes : StatusHasCause before.shelf_faults now.shelf_faults before.sinks.mesh_faults now.sinks.mesh_faults
      before.sinks.report_faults now.sinks.report_faults status

-- so many files were opened and read, no read failed, and the sinks tell the same as before
pub record HasOpened (before now : Moment) (files : ℕ) : Type 0 where
  pub only : OnlyReads before now
  pub opens : now.shelf.opens ≡ before.shelf.opens + files
  pub faults : now.shelf_faults ≡ before.shelf_faults
  pub in_time : IsInTime before.shelf_late before.shelf_faults now.shelf_late

-- So many files were opened, and a read of the last one failed, or its opening. It has this name, and of what was read
-- of it this holds, where the shelf tells its files.
pub record HasFailed (before now : Moment) (files : ℕ) (name : List ℕ) (holds : List ℕ → Type 0) : Type 0 where
  pub only : OnlyReads before now
  pub opens : now.shelf.opens ≡ before.shelf.opens + files
  pub failed : Rose before.shelf_faults now.shelf_faults
  pub in_time : IsInTime before.shelf_late before.shelf_faults now.shelf_late
  pub stops : (all : List NamedFile) → before.shelf.files ≡ Some all
      → StopsReading holds (bytes_of all name) now.shelf.rest now.shelf.ended

-- so much of a mesh with this text was read: a prefix
abbrev pub MeshHasRead : List ℕ → List ℕ → Type 0
MeshHasRead text read = IsPrefix read text

-- the grid of this name was read to its end, and it is this grid, where the shelf tells its files
pub record ReadsGrid (before now : Moment) (name : List ℕ) (grid : HeightField) : Type 0 where
  pub opened : HasOpened before now 1
  pub ended : HasEnded now.shelf
  pub header : (files : List NamedFile) → before.shelf.files ≡ Some files
      → HasReadHeader (bytes_of files name) now.shelf.rest
  pub is_grid : (files : List NamedFile) → before.shelf.files ≡ Some files → grid_of (bytes_of files name) ≡ Ok grid

-- The job on the grid of this name reads the points of that name behind it, and ends at a line of them that is refused.
pub record KeepsPoints (name points : List ℕ) (job : Job) : Type 0 where
  pub second : slice_get (names_of (OnGrid name job)) 1 ≡ Some points
  pub two : 2 ≤ file_count (Some (OnGrid name job))
  pub allowed : IsTrue (may_end (Some (OnGrid name job)) ScriptRefused)
  pub no_engine : leaves_engine (Some (OnGrid name job)) ScriptRefused ≡ false
  pub has_read : (grid : HeightField) (files : List NamedFile) (read : List ℕ) → PointsHaveRead grid.n read
      → JobHasRead job grid files 0 read []
  pub refused : (grid : HeightField) (files : List NamedFile) (refusal : Refusal)
      → points_in grid.n (bytes_of files points) ≡ Err refusal
      → IsJobOutcome job grid files (text_outcome (line_refusal refusal) ScriptRefused 2)

-- the points of this name were read to their end behind the grid, where they are these, where the shelf tells its files
pub record ReadsPoints (before now : Moment) (name : List ℕ) (grid : HeightField) (points : List Point) : Type 0 where
  pub opened : HasOpened before now 1
  pub ended : HasEnded now.shelf
  pub are_points : (files : List NamedFile) → before.shelf.files ≡ Some files
      → points_in grid.n (bytes_of files name) ≡ Ok points
  pub inside : All (IsInSquare (2 ^ grid.n)) points
  pub few : length points ≤ most_points grid.n

-- The last acts of a run were done, which ends with this status unless they were cut short.
pub record EndsWith (before now : Moment) (acts : List Act) (meant status : Status) : Type 0 where
  pub shelf : now.shelf ≡ before.shelf
  pub shelf_faults : now.shelf_faults ≡ before.shelf_faults
  pub shelf_late : now.shelf_late ≡ before.shelf_late
  pub ends : (status ≡ meant) ⊎ (status ≡ WriteFault)
  pub does : (files : ℕ) → DoesAs before.sinks now.sinks (plain_outcome acts meant files) status
  pub idle : status ≢ WriteFault → now.under_way ≡ before.under_way
  pub writes : StatusWritesHaveCause before.sinks.mesh_faults now.sinks.mesh_faults
      before.sinks.report_faults now.sinks.report_faults status
  pub meshes_in_time : IsInTime before.mesh_late before.sinks.mesh_faults now.mesh_late
  pub report_in_time : IsInTime before.report_late before.sinks.report_faults now.report_late
  pub no_mesh : meshes_of acts ≡ [] → SameMeshes before now

-- the last of them is one text
abbrev pub TellsLast : Moment → Moment → List ℕ → Status → Status → Type 0
TellsLast before now text meant status = EndsWith before now (ReportText text ∷ []) meant status

-- A script was opened once, and read to its end where the run is done. How it leaves the outside, and that the status
-- has its cause.
pub record LeavesByScript (before now : Moment) (status : Status) : Type 0 where
  pub files : now.shelf.files ≡ before.shelf.files
  pub opens : now.shelf.opens ≡ next_count before.shelf.opens
  pub read_out : status ≡ Done → HasEnded now.shelf
  pub idle : status ≢ WriteFault → now.under_way ≡ before.under_way
  pub causes : StatusHasCause before.shelf_faults now.shelf_faults before.sinks.mesh_faults now.sinks.mesh_faults
      before.sinks.report_faults now.sinks.report_faults status
  pub shelf_in_time : IsInTime before.shelf_late before.shelf_faults now.shelf_late
  pub meshes_in_time : IsInTime before.mesh_late before.sinks.mesh_faults now.mesh_late
  pub report_in_time : IsInTime before.report_late before.sinks.report_faults now.report_late
