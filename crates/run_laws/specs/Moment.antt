-- The moment: what the outside of a run, which is a shelf, a sink of meshes and a report, tells before the run or after
-- it, and what calls do between two. This project's own words.
-- Words: Moment, moment, OnlyReads, SameMeshes, OnlyWrites, Does.
use Rattle.std.specs.Prelude.{◌≡◌, ℕ, Bool, List, [], Result, OnOk, OnErr}
use Rattle.roam_edge.specs.declared.shelf.Shelf as reading
use Rattle.roam_edge.specs.declared.mesh_sink.MeshSink as showing
use Rattle.roam_edge.specs.declared.sink.Sink as reporting
use Rattle.roam_edge.specs.Fault.{IsInTime}
use Rattle.run_laws.specs.Act.{Act, Sinks, sinks_tell, Stands, IsCutShort, meshes_of}
use Rattle.run_laws.specs.Cause.{WritesHaveCause}
use Rattle.run_laws.specs.Promise.{ShelfState, shelf_tells}

-- what the shelf tells; what the two sinks tell, and how often each of them has failed; whether a mesh is begun and not
-- finished; how often the shelf has failed; and whether each of the three is late: called after a call of it had failed
pub record Moment : Type 0 where
  pub shelf : ShelfState
  pub sinks : Sinks
  pub under_way : Bool
  pub shelf_faults : ℕ
  pub shelf_late : Bool
  pub mesh_late : Bool
  pub report_late : Bool

-- the moment of a shelf, a sink of meshes and a report, by what each of them tells
abbrev pub moment : {F M R : Type 0} → reading.Ghosts F → showing.Ghosts M → reporting.Ghosts R
    → F → M → R → Moment
moment f m r files meshes report = record {
  shelf = shelf_tells f files;
  sinks = sinks_tell m r meshes report;
  under_way = m.under_way meshes;
  shelf_faults = f.faults files;
  shelf_late = f.late files;
  mesh_late = m.late meshes;
  report_late = r.late report;
}

-- the sinks tell the same as before, and so does the shelf of its files
pub record OnlyReads (before now : Moment) : Type 0 where
  pub files : now.shelf.files ≡ before.shelf.files
  pub sinks : now.sinks ≡ before.sinks
  pub under_way : now.under_way ≡ before.under_way
  pub mesh_late : now.mesh_late ≡ before.mesh_late
  pub report_late : now.report_late ≡ before.report_late

-- the sink of meshes tells the same as before: its meshes, its faults, whether one is under way, and whether it is late
pub record SameMeshes (before now : Moment) : Type 0 where
  pub meshes : now.sinks.meshes ≡ before.sinks.meshes
  pub faults : now.sinks.mesh_faults ≡ before.sinks.mesh_faults
  pub under_way : now.under_way ≡ before.under_way
  pub late : now.mesh_late ≡ before.mesh_late

-- The shelf tells the same as before. The call fails exactly where a count of faults of the sinks rose, and else a mesh
-- is under way exactly where one was before.
pub record OnlyWrites {T E : Type 0} (before now : Moment) (answer : Result T E) : Type 0 where
  pub shelf : now.shelf ≡ before.shelf
  pub shelf_faults : now.shelf_faults ≡ before.shelf_faults
  pub shelf_late : now.shelf_late ≡ before.shelf_late
  pub idle : OnOk answer (now.under_way ≡ before.under_way)
  pub faults : WritesHaveCause before.sinks.mesh_faults now.sinks.mesh_faults
      before.sinks.report_faults now.sinks.report_faults answer
  pub meshes_in_time : IsInTime before.mesh_late before.sinks.mesh_faults now.mesh_late
  pub report_in_time : IsInTime before.report_late before.sinks.report_faults now.report_late

-- These acts were done, or cut short where the call fails. Where none is a mesh the sink of meshes tells the same.
pub record Does {T E : Type 0} (before now : Moment) (acts : List Act) (answer : Result T E) : Type 0 where
  pub only : OnlyWrites before now answer
  pub done : OnOk answer (Stands before.sinks now.sinks acts)
  pub cut_short : OnErr answer (IsCutShort before.sinks now.sinks acts)
  pub no_mesh : meshes_of acts ≡ [] → SameMeshes before now
