-- What a run does to the outside: a list of acts, each a whole mesh or a text at the end of the report.
-- This project's own words.
-- Words: Act, meshes_of, report_of, Sinks, sinks_tell, Stands, StandsInPart, IsCutShort.
use Rattle.std.specs.Prelude.{◌≡◌, ℕ, true, List, [], ◌∷◌, ◌++◌, Option, Some}
use Rattle.roam_edge.specs.MeshSink.{WrittenMesh}
use Rattle.roam_edge.specs.Told.{IsPrefix}
use Rattle.roam_edge.specs.Fault.{Rose}
use Rattle.roam_edge.specs.declared.mesh_sink.MeshSink as showing
use Rattle.roam_edge.specs.declared.sink.Sink as reporting
use Rattle.obj_write.specs.Written.{mesh_with, Grows, IsPartOfMesh}

-- a whole mesh, written and finished; or a text at the end of the report
pub data Act : Type 0 where
  WholeMesh : (prefix : List ℕ) (number : ℕ) (bytes : List ℕ) → Act
  ReportText : (bytes : List ℕ) → Act

-- the meshes that the acts add
abbrev pub meshes_of : List Act → List WrittenMesh
meshes_of [] = []
meshes_of (WholeMesh prefix number bytes ∷ acts) = mesh_with prefix number bytes true ∷ meshes_of acts
meshes_of (ReportText bytes ∷ acts) = meshes_of acts

-- the bytes that the acts add to the report
abbrev pub report_of : List Act → List ℕ
report_of [] = []
report_of (WholeMesh prefix number bytes ∷ acts) = report_of acts
report_of (ReportText bytes ∷ acts) = bytes ++ report_of acts

-- what a sink of meshes and a report tell at one moment, and how often each has failed
pub record Sinks : Type 0 where
  pub meshes : Option (List WrittenMesh)
  pub report : Option (List ℕ)
  pub mesh_faults : ℕ
  pub report_faults : ℕ

-- what a sink of meshes and a report tell
abbrev pub sinks_tell : {M R : Type 0} → showing.Ghosts M → reporting.Ghosts R → M → R → Sinks
sinks_tell m r shown written = record {
  meshes = m.meshes shown;
  report = r.contents written;
  mesh_faults = m.faults shown;
  report_faults = r.faults written;
}

-- These acts were added to meshes and report, in order in each of the two, and nothing else; and neither has failed.
pub record Stands (before now : Sinks) (acts : List Act) : Type 0 where
  pub meshes_grow : Grows before.meshes now.meshes (meshes_of acts)
  pub report_grows : Grows before.report now.report (report_of acts)
  pub mesh_same : now.mesh_faults ≡ before.mesh_faults
  pub report_same : now.report_faults ≡ before.report_faults

-- The acts done were added, and a part of the next one: of a mesh, and then the meshes failed and the report did not;
-- or of a text, and then the report failed and the meshes did not.
abbrev pub StandsInPart : Sinks → Sinks → List Act → Act → Type 0
StandsInPart before now done (WholeMesh prefix number bytes) =
    ((all : List WrittenMesh) → before.meshes ≡ Some all →
    (part : List WrittenMesh) × IsPartOfMesh prefix number bytes part
    × (now.meshes ≡ Some (all ++ (meshes_of done ++ part))))
    × Grows before.report now.report (report_of done)
    × Rose before.mesh_faults now.mesh_faults × (now.report_faults ≡ before.report_faults)
StandsInPart before now done (ReportText bytes) =
    Grows before.meshes now.meshes (meshes_of done)
    × ((all : List ℕ) → before.report ≡ Some all → (front : List ℕ) × IsPrefix front bytes
    × (now.report ≡ Some (all ++ (report_of done ++ front))))
    × Rose before.report_faults now.report_faults × (now.mesh_faults ≡ before.mesh_faults)

-- The acts were cut short: some were added whole and in order, and of the next one a part. So a mesh that
-- was finished stays, and an unfinished mesh or a cut text is a prefix of what was owed.
pub record IsCutShort (before now : Sinks) (acts : List Act) : Type 0 where
  pub done : List Act
  pub next : Act
  pub owed : List Act
  pub in_order : acts ≡ done ++ next ∷ owed
  pub standing : StandsInPart before now done next
