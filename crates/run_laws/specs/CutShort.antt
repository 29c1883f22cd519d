-- What stands where a write failed, frame by frame: one of four cases. This project's own words.
-- Words: is_by_frame, shown_line, mesh_acts, first_frames, StandsUnbegun, StandsInMesh, StandsInText, IsCutInMesh,
-- IsCutInLine, MeshIsCut, LineIsCut, StandsInRun, LeavesAtWriteFault, CutRunsStand, CutTextsStand, WriteFaultsStand,
-- SinksDecide.
use Rattle.std.specs.Prelude.{◌≡◌, ◌⊎◌, ℕ, ◌+◌, ◌-◌, ◌^◌, ◌<◌, Bool, true, false, IsTrue, List, [], ◌∷◌, ◌++◌, take}
use Rattle.std.specs.Prelude.{Option, None, Some, slice_get}
use Rattle.mesh_defs.specs.State.{text_in}
use Rattle.roam_edge.specs.MeshSink.{WrittenMesh}
use Rattle.mesh_defs.specs.HeightField.{HeightField}
use Rattle.roam_edge.specs.Shelf.{NamedFile, bytes_of}
use Rattle.roam_edge.specs.Told.{IsPrefix}
use Rattle.roam_edge.specs.Fault.{Rose}
use Rattle.obj_write.specs.Written.{mesh_with, Grows}
use Rattle.run_laws.specs.Walk.{Refusal}
use Rattle.run_laws.specs.declared.status.Status.{Status}
use Rattle.run_laws.specs.declared.status.Status.TheVariants.{WriteFault}
use Rattle.run_words.specs.Words.{Meshes, Measures, Sums, Show, Scripted, Frames, prefix_of}
use Rattle.run_laws.specs.Act.{Act, WholeMesh, ReportText, Sinks, IsCutShort, meshes_of, report_of}
use Rattle.run_laws.specs.Picture.{Picture, shown_triangles, ArePictures}
use Rattle.run_laws.specs.Outcome.{shown_acts, stop_acts, script_walk}
use Rattle.run_laws.specs.Promise.{ShelfState, EndsRight}
use Rattle.run_laws.specs.Headline.{IsRunOf}
use Rattle.run_laws.specs.ReportText.{mesh_line, measure_line, line_refusal}

-- frames are shown one by one, and behind them nothing is told but a refusal
abbrev pub is_by_frame : Show → Bool
is_by_frame show = elim show.output as (λ _. Bool) [ Meshes prefix ↦ true | Measures ↦ true | Sums n seed ↦ false ]

-- the line of the frame of this number; sums have none
abbrev pub shown_line : Show → ℕ → Picture → List ℕ
shown_line show number picture = elim show.output as (λ _. List ℕ) [
  | Meshes prefix ↦ mesh_line show.order show.criterion number picture
  | Measures ↦ measure_line number picture
  | Sums n seed ↦ []
]

-- the mesh of a frame of this number with these bytes, where meshes are shown
abbrev pub mesh_acts : Option (List ℕ) → ℕ → List ℕ → List Act
mesh_acts None number bytes = []
mesh_acts (Some prefix) number bytes = WholeMesh prefix number bytes ∷ []

-- what is shown of the first j frames
abbrev pub first_frames : Show → List Picture → ℕ → List Act
first_frames show pictures j = shown_acts show 1 (take j pictures)

-- these acts, and nothing of the mesh that was owed: the meshes failed, and the report did not
pub record StandsUnbegun (before now : Sinks) (acts : List Act) : Type 0 where
  pub meshes : Grows before.meshes now.meshes (meshes_of acts)
  pub report : Grows before.report now.report (report_of acts)
  pub failed : Rose before.mesh_faults now.mesh_faults
  pub report_same : now.report_faults ≡ before.report_faults

-- these acts, and an unfinished mesh with a prefix of the bytes that were owed: the meshes failed, and the report did
-- not
pub record StandsInMesh (before now : Sinks) (acts : List Act) (prefix : List ℕ) (number : ℕ)
    (bytes : List ℕ) : Type 0 where
  pub mesh : (all : List WrittenMesh) → before.meshes ≡ Some all → (front : List ℕ) × IsPrefix front bytes
      × (now.meshes ≡ Some (all ++ (meshes_of acts ++ mesh_with prefix number front false ∷ [])))
  pub report : Grows before.report now.report (report_of acts)
  pub failed : Rose before.mesh_faults now.mesh_faults
  pub report_same : now.report_faults ≡ before.report_faults

-- these acts, and a prefix of the text that was owed: the report failed, and the meshes did not
pub record StandsInText (before now : Sinks) (acts : List Act) (bytes : List ℕ) : Type 0 where
  pub meshes : Grows before.meshes now.meshes (meshes_of acts)
  pub report : (all : List ℕ) → before.report ≡ Some all → (front : List ℕ) × IsPrefix front bytes
      × (now.report ≡ Some (all ++ (report_of acts ++ front)))
  pub failed : Rose before.report_faults now.report_faults
  pub mesh_same : now.mesh_faults ≡ before.mesh_faults

-- The mesh of the frame of this number was cut short behind these acts of the frames before it, where meshes are shown:
-- the acts stand; or besides an unfinished mesh with a prefix of the bytes of this one.
abbrev pub IsCutInMesh : Sinks → Sinks → List Act → Show → ℕ → Picture → Type 0
IsCutInMesh before now acts show number picture =
    (prefix : List ℕ) × (prefix_of show ≡ Some prefix) × (StandsUnbegun before now acts
    ⊎ StandsInMesh before now acts prefix number (text_in picture.state (shown_triangles show picture)))

-- its line was cut short: the acts stand, its mesh, whole, where meshes are shown, and a prefix of its line
abbrev pub IsCutInLine : Sinks → Sinks → List Act → Show → ℕ → Picture → Type 0
IsCutInLine before now acts show number picture = StandsInText before now
    (acts ++ mesh_acts (prefix_of show) number (text_in picture.state (shown_triangles show picture)))
    (shown_line show number picture)

-- a mesh was cut short: that of a frame behind the first j
abbrev pub MeshIsCut : Sinks → Sinks → Show → List Picture → Type 0
MeshIsCut before now show pictures = (j : ℕ) × (picture : Picture) × (slice_get pictures j ≡ Some picture)
    × IsCutInMesh before now (first_frames show pictures j) show (j + 1) picture

-- a line was cut short: that of a frame behind the first j, or that of a refusal behind them all
abbrev pub LineIsCut : Sinks → Sinks → Show → List Picture → Option Refusal → Type 0
LineIsCut before now show pictures stop =
    ((j : ℕ) × (picture : Picture) × (slice_get pictures j ≡ Some picture)
    × IsCutInLine before now (first_frames show pictures j) show (j + 1) picture)
    ⊎ ((refusal : Refusal) × (stop ≡ Some refusal)
    × StandsInText before now (shown_acts show 1 pictures) (line_refusal refusal))

-- A run of frames was cut short, in a mesh or in a line: one of four cases stands.
abbrev pub StandsInRun : Sinks → Sinks → Show → List Picture → Option Refusal → Type 0
StandsInRun before now show pictures stop = MeshIsCut before now show pictures ⊎ LineIsCut before now show pictures stop

-- A write failed in a run over this grid and script: its frames show these pictures, and they or the refusal behind
-- them were cut short.
pub record LeavesAtWriteFault (before now : Sinks) (s : Scripted) (grid : HeightField) (script : List ℕ) : Type 0 where
  pub pictures : List Picture
  pub shown : ArePictures s.show [] (script_walk s grid script).frames pictures
  pub stands : StandsInRun before now s.show pictures (script_walk s grid script).stop

-- what stands of frames and a refusal that were cut short
abbrev pub CutRunsStand : Type 0
CutRunsStand = (before now : Sinks) (show : Show) (pictures : List Picture) (stop : Option Refusal)
    → IsCutShort before now (shown_acts show 1 pictures ++ stop_acts stop) → StandsInRun before now show pictures stop

-- what stands of one text that was cut short: a prefix of it
abbrev pub CutTextsStand : Type 0
CutTextsStand =
    (before now : Sinks) (bytes : List ℕ) → IsCutShort before now (ReportText bytes ∷ []) →
    StandsInText before now [] bytes

-- where a write failed in a run that shows its frames one by one, one of the four cases is there
abbrev pub WriteFaultsStand : Type 0
WriteFaultsStand =
    (before now : Sinks) (old new : ShelfState) (words : List (List ℕ)) (files : List NamedFile)
    (s : Scripted) (grid : HeightField)
    (status : Status) → EndsRight before now old new words files status → status ≡ WriteFault
    → IsRunOf words files (Frames s) grid → IsTrue (is_by_frame s.show) →
    LeavesAtWriteFault before now s grid (bytes_of files s.script)

-- Which sink failed decides the case: where the count of the meshes did not move it was a line, and where that of the
-- report did not move it was a mesh. A count at its greatest value cannot move.
abbrev pub SinksDecide : Type 0
SinksDecide = (before now : Sinks) (show : Show) (pictures : List Picture) (stop : Option Refusal)
    → StandsInRun before now show pictures stop
    → (before.mesh_faults < 2 ^ 64 - 1 → now.mesh_faults ≡ before.mesh_faults → LineIsCut before now show pictures stop)
    × (before.report_faults < 2 ^ 64 - 1 → now.report_faults ≡ before.report_faults →
    MeshIsCut before now show pictures)
