-- What a run promises: the meshes, what stands, the causes. Each speaks of the moments before the run and after it
-- (`now`), of the words of its command line or of the command that they are, of its status, and of the engine that it
-- leaves. This project's own.
-- Contents are told (`Some ..`) or not (`None`). From elsewhere: `Grows old new more` says that where the old ones are
-- told, the new ones are these with just `more` at their end; `IsInTime`, that an object which had not failed is not
-- called again once a call of it has failed. A count of faults is how often an object has failed, from its beginning.
-- Words: KeepsBestMeshes, CertifiesMesh, TellsCertificates, DoesAll, IsCutOff, EndsByStatus, LeavesOutside, IsCaused.
use Rattle.std.specs.Prelude.{◌≡◌, ◌≢◌, ◌⊎◌, ◌↔◌, ℕ, ◌+◌, ◌<◌, ◌≤◌, IsTrue, IsSome, is_some, List, All, Option}
use Rattle.std.specs.Prelude.{Some, None, Ok}
use Rattle.mesh_defs.specs.declared.point.Point.{Point}
use Rattle.mesh_defs.specs.HeightField.{HeightField}
use Rattle.roam_edge.specs.MeshSink.{WrittenMesh}
use Rattle.roam_edge.specs.Shelf.{NamedFile, bytes_of}
use Rattle.roam_edge.specs.Fault.{IsInTime}
use Rattle.obj_write.specs.Written.{Grows}
use Rattle.run_laws.specs.declared.status.Status.{Status}
use Rattle.run_laws.specs.declared.status.Status.TheVariants.{Done, NoMemory, Usage, ReadFault, WriteFault}
use Rattle.run_words.specs.Words.{Scripted, Checking, Fitting, Keeping, FitChecking, KeptChecking, Frames, Check, Fit}
use Rattle.run_words.specs.Words.{Keep, CheckFit, CheckKept, Command, command_of, prefix_of}
use Rattle.run_words.specs.Jobs.{file_count}
use Rattle.run_laws.specs.Act.{Stands, IsCutShort}
use Rattle.run_laws.specs.Picture.{IsCertified}
use Rattle.run_laws.specs.Outcome.{EngineEnd, Outcome, IsOutcome}
use Rattle.run_laws.specs.Promise.{AreFiles, is_complete, HasEnded, may_end, OpensForStatus, CommandReadFault}
use Rattle.run_laws.specs.Promise.{CommandNoMemory, leaves_engine}
use Rattle.run_words.specs.Jobs.{is_of_text}
use Rattle.run_laws.specs.Headline.{IsRunOf, KeepsGoodMeshes, IsCertifiedMesh, IsCertifiedFit, KeepsFitMesh}
use Rattle.run_laws.specs.Headline.{IsCertifiedKept, KeepsKeptMesh}
use Rattle.run_laws.specs.PointFile.{points_in}
use Rattle.run_laws.specs.Moment.{Moment, SameMeshes}

-- The meshes.

-- Each mesh that the run finished is the right one, whatever the status: of a script the best within the budget in
-- force at its frame line, or the least of the tolerance; of a fit the fitted one of its error or its budget; of a fit
-- that keeps points the one of the fewest triangles for its error that has these points as vertices. (Where the shelf
-- tells its files, and the sink its meshes. `IsRunOf`: the words are this command, and its grid is accepted.)
pub record KeepsBestMeshes (before now : Moment) (words : List (List ℕ)) (status : Status) : Type 0 where
  pub of_script : (files : List NamedFile) (all : List WrittenMesh) (s : Scripted) (grid : HeightField)
      → before.shelf.files ≡ Some files → before.sinks.meshes ≡ Some all → IsRunOf words files (Frames s) grid
      → IsSome (prefix_of s.show) → KeepsGoodMeshes s grid (bytes_of files s.script) all now.sinks.meshes status
  pub of_fit : (files : List NamedFile) (all : List WrittenMesh) (f : Fitting) (grid : HeightField)
      → before.shelf.files ≡ Some files → before.sinks.meshes ≡ Some all → IsRunOf words files (Fit f) grid
      → KeepsFitMesh f grid before.sinks now.sinks all status
  pub of_keep : (files : List NamedFile) (all : List WrittenMesh) (k : Keeping) (grid : HeightField)
      (points : List Point) → before.shelf.files ≡ Some files → before.sinks.meshes ≡ Some all
      → IsRunOf words files (Keep k) grid → points_in grid.n (bytes_of files k.points) ≡ Ok points
      → KeepsKeptMesh k points grid before.sinks now.sinks all status

-- With Done of a check, the report got one line, which says that its mesh is certified; and so it is, whoever made it.
-- One that `certify check` certifies is optimal, though perhaps not the mesh that `mesh` writes; one that `certify
-- check-fit` certifies has the fewest triangles for its error, or the least error for its budget; and with `keep` the
-- fewest for its error of those that have the points as vertices. (Where the shelf tells its files.)
pub record CertifiesMesh (before now : Moment) (words : List (List ℕ)) (status : Status) : Type 0 where
  pub of_check : (files : List NamedFile) (c : Checking) (grid : HeightField) → before.shelf.files ≡ Some files
      → IsRunOf words files (Check c) grid → status ≡ Done → (line : List ℕ)
      × Grows before.sinks.report now.sinks.report line × IsCertifiedMesh c grid (bytes_of files c.mesh) line
  pub of_check_fit : (files : List NamedFile) (c : FitChecking) (grid : HeightField) → before.shelf.files ≡ Some files
      → IsRunOf words files (CheckFit c) grid → status ≡ Done → (line : List ℕ)
      × Grows before.sinks.report now.sinks.report line × IsCertifiedFit c grid (bytes_of files c.mesh) line
  pub of_check_kept : (files : List NamedFile) (c : KeptChecking) (grid : HeightField) → before.shelf.files ≡ Some files
      → IsRunOf words files (CheckKept c) grid → status ≡ Done → (points : List Point)
      × (points_in grid.n (bytes_of files c.points) ≡ Ok points) × (line : List ℕ)
      × Grows before.sinks.report now.sinks.report line × IsCertifiedKept c points grid (bytes_of files c.mesh) line

-- in each frame that an engine makes in an outcome of the words: if a triangle blocks, it is a worst leaf of the mesh,
-- and a mesh with it split has more triangles than the budget; if none blocks, the worst priority is 0
abbrev pub TellsCertificates : List (List ℕ) → Type 0
TellsCertificates words = (files : List NamedFile) (end : Outcome) → IsTrue (is_some end.engine)
    → IsOutcome (command_of words) files end → All IsCertified end.pictures

-- What stands. An act is a whole mesh, or a text of the report. An outcome is what words and files say of a run: its
-- acts, its status, how often it opens a file, and the engine that it leaves.

-- All of an outcome was done: its acts stand and nothing else, this is its status, files were opened as often, and its
-- engine is left.
pub record DoesAll (before now : Moment) (command : Option Command) (files : List NamedFile) (status : Status)
    (left : Option EngineEnd) : Type 0 where
  pub end : Outcome
  pub is_outcome : IsOutcome command files end
  pub ends_so : status ≡ end.status
  pub stands : Stands before.sinks now.sinks end.acts
  pub opened : now.shelf.opens ≡ before.shelf.opens + end.opened
  pub engine : left ≡ end.engine

-- The acts of an outcome were cut short: the first ones stand, whole and in order in each sink, and of the next one a
-- part, perhaps nothing. Files were opened as often as the outcome says.
pub record IsCutOff (before now : Moment) (command : Option Command) (files : List NamedFile) : Type 0 where
  pub end : Outcome
  pub is_outcome : IsOutcome command files end
  pub cut_short : IsCutShort before.sinks now.sinks end.acts
  pub opened : now.shelf.opens ≡ before.shelf.opens + end.opened

-- Where the shelf tells its files, or the command names none: with Done, Usage, the two refusals and Rejected all of an
-- outcome was done, and with WriteFault it was cut off. With ReadFault at the script the acts of its whole lines that
-- were read stand (where the shelf tells its files), and at any other file nothing; with NoMemory nothing was written,
-- and the header of a grid was read and is accepted. Both say how often a file was opened. (Of a sink that tells
-- nothing, only how its count of faults changed.)
pub record EndsByStatus (before now : Moment) (command : Option Command) (status : Status)
    (left : Option EngineEnd) : Type 0 where
  pub complete : IsTrue (is_complete status) → (files : List NamedFile)
      → AreFiles before.shelf.files command files → DoesAll before now command files status left
  pub write_fault : status ≡ WriteFault → (files : List NamedFile)
      → AreFiles before.shelf.files command files → IsCutOff before now command files
  pub read_fault : status ≡ ReadFault
      → (one : Command) × (command ≡ Some one)
      × CommandReadFault before.sinks now.sinks before.shelf now.shelf one
  pub no_memory : status ≡ NoMemory
      → (one : Command) × (command ≡ Some one)
      × CommandNoMemory before.sinks now.sinks before.shelf now.shelf one

-- How the outside (shelf, meshes and report) and the engine are left, also where nothing is told. The files that the
-- shelf tells are as before. Except perhaps after WriteFault, a mesh is under way exactly if one was before; and
-- `info`, `try`, `certify` and words that are no command leave the sink of meshes as it was, as far as it tells. Files
-- were opened as often as `OpensForStatus` has for the status, and with Done the last one was read to its end. An
-- engine is left with Done and ScriptRefused where one makes the frames. Of shelf, meshes and report, each that had not
-- failed before the run was not called again once a call of it had failed.
pub record LeavesOutside (before now : Moment) (command : Option Command) (status : Status)
    (left : Option EngineEnd) : Type 0 where
  pub files : now.shelf.files ≡ before.shelf.files
  pub idle : status ≢ WriteFault → now.under_way ≡ before.under_way
  pub no_mesh : IsTrue (is_of_text command) → SameMeshes before now
  pub opens :
      OpensForStatus before.shelf.opens now.shelf.opens (file_count command) status
  pub read_out : status ≡ Done → 0 < file_count command → HasEnded now.shelf
  pub engine : IsSome left ↔ IsTrue (leaves_engine command status)
  pub shelf_in_time : IsInTime before.shelf_late before.shelf_faults now.shelf_late
  pub meshes_in_time : IsInTime before.mesh_late before.sinks.mesh_faults now.mesh_late
  pub report_in_time : IsInTime before.report_late before.sinks.report_faults now.report_late

-- The causes.

-- The command can have this status (`may_end`: a refusal only where it reads what is refused, Rejected only where it is
-- a check). The status is Usage exactly where there is no command, ReadFault exactly where the shelf's count of faults
-- rose, and WriteFault exactly where that of the meshes or of the report rose. No count falls.
pub record IsCaused (before now : Moment) (command : Option Command) (status : Status) : Type 0 where
  pub allowed : IsTrue (may_end command status)
  pub usage : (status ≡ Usage) ↔ (command ≡ None)
  pub read : (status ≡ ReadFault) ↔ (before.shelf_faults < now.shelf_faults)
  pub write : (status ≡ WriteFault)
      ↔ ((before.sinks.mesh_faults < now.sinks.mesh_faults) ⊎ (before.sinks.report_faults < now.sinks.report_faults))
  pub shelf_no_less : before.shelf_faults ≤ now.shelf_faults
  pub mesh_no_less : before.sinks.mesh_faults ≤ now.sinks.mesh_faults
  pub report_no_less : before.sinks.report_faults ≤ now.sinks.report_faults
