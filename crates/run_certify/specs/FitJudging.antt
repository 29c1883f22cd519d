-- What a check of a fitted mesh by a certificate comes to, and where it stops.
-- Words: fit_judged_text, fit_judged_status, fit_mesh_opens, judged_outcome, IsFaultlessFile, NoMemoryBehind,
-- FailsBehind, JudgesFault, EndsCheck.
use Rattle.std.specs.Prelude.{◌≡◌, ℕ, ◌+◌, ◌⊎◌, List, Some, Result, Ok, Err}
use Rattle.mesh_defs.specs.HeightField.{HeightField}
use Rattle.roam_edge.specs.Shelf.{NamedFile, bytes_of}
use Rattle.certificate_laws.specs.declared.reason.Reject.TheVariants as view
use Rattle.run_laws.specs.declared.status.Status.{Status}
use Rattle.run_laws.specs.declared.status.Status.TheVariants as ends
use Rattle.run_laws.specs.Fit.{fit_text}
use Rattle.run_laws.specs.ReportText.{certified_fit_line, fit_rejection, rejection}
use Rattle.run_laws.specs.Outcome.{Outcome, text_outcome}
use Rattle.run_laws.specs.Moment.{Moment}
use Rattle.run_laws.specs.Leaving.{HasOpened, HasFailed, MeshHasRead, TellsLast}
use Rattle.run_certify.specs.declared.mesh_file.CheckStop.{CheckStop}
use Rattle.run_certify.specs.declared.mesh_file.CheckStop.TheVariants as stop
use Rattle.run_certify.specs.declared.fit_verdict_report.Judgement.{Judgement}
use Rattle.run_certify.specs.declared.fit_verdict_report.Judgement.TheVariants.{Certified, Rejected, BadLine}
use Rattle.run_certify.specs.declared.fit_verdict_report.Judgement.TheVariants.{MeshDiffers}

-- the line of a judgement, over the grid with this n
abbrev pub fit_judged_text : ℕ → Judgement → List ℕ
fit_judged_text n (Certified triangles deviation) = certified_fit_line n triangles deviation
fit_judged_text n (Rejected why) = fit_rejection why
fit_judged_text n (BadLine line) = rejection (view.BadLine line)
fit_judged_text n (MeshDiffers place) = rejection (view.MeshDiffers place)

-- how a run ends that tells it
abbrev pub fit_judged_status : Judgement → Status
fit_judged_status (Certified triangles deviation) = ends.Done
fit_judged_status (Rejected why) = ends.Rejected
fit_judged_status (BadLine line) = ends.Rejected
fit_judged_status (MeshDiffers place) = ends.Rejected

-- how often the mesh was opened for it: only behind a certificate without a fault
abbrev pub fit_mesh_opens : Judgement → ℕ
fit_mesh_opens (Certified triangles deviation) = 1
fit_mesh_opens (Rejected why) = 0
fit_mesh_opens (BadLine line) = 0
fit_mesh_opens (MeshDiffers place) = 1

-- the outcome of a run that tells it: so many files up to the certificate were opened for it, and the mesh or not
abbrev pub judged_outcome : (files n : ℕ) → Judgement → Outcome
judged_outcome files n judgement =
    text_outcome (fit_judged_text n judgement) (fit_judged_status judgement) (files + fit_mesh_opens judgement)

-- Of certificates: these are the triangles of one that has no fault.

-- the file of this name is that of such a certificate
abbrev pub IsFaultlessFile : {C : Type 0} → (certificate : List ℕ) (file : List ℕ → Result C ℕ)
    (faultless : C → List ℕ → Type 0) → List NamedFile → Type 0
IsFaultlessFile {C = C} certificate file faultless files =
    (cert : C) × (triangles : List ℕ) × (file (bytes_of files certificate) ≡ Ok cert) × faultless cert triangles

-- behind the certificate memory ran out: at once, or, if it has no fault, when the mesh was opened
abbrev pub NoMemoryBehind : (List ℕ → Type 0) → Moment → Moment → Type 0
NoMemoryBehind faultless before now =
    HasOpened before now 0 ⊎ (HasOpened before now 1 × ((triangles : List ℕ) × faultless triangles))

-- behind the certificate, which has no fault, a read of the mesh failed
abbrev pub FailsBehind : (mesh : List ℕ) (spacing : ℕ) → HeightField → (List ℕ → Type 0) → Moment → Moment → Type 0
FailsBehind mesh spacing grid faultless before now =
    (triangles : List ℕ) × faultless triangles
    × HasFailed before now 1 mesh (MeshHasRead (fit_text spacing grid triangles))

-- a read failed, at the certificate or, behind one without a fault, at the mesh
abbrev pub JudgesFault : {C : Type 0} → (certificate mesh : List ℕ) (spacing : ℕ) → HeightField
    → (has_read : List ℕ → Type 0) (file : List ℕ → Result C ℕ) (faultless : C → List ℕ → Type 0)
    → Moment → Moment → Type 0
JudgesFault {C = C} certificate mesh spacing grid has_read file faultless before now =
    HasFailed before now 1 certificate has_read
    ⊎ ((cert : C) × (triangles : List ℕ)
    × ((files : List NamedFile) → before.shelf.files ≡ Some files → file (bytes_of files certificate) ≡ Ok cert)
    × faultless cert triangles
    × HasFailed before now 2 mesh (MeshHasRead (fit_text spacing grid triangles)))

-- how a check over the grid with this n ends by what it came to: its line is told, the last text; else nothing is called
abbrev pub EndsCheck : ℕ → Result Judgement CheckStop → Moment → Moment → Status → Type 0
EndsCheck n (Ok judgement) before now status =
    TellsLast before now (fit_judged_text n judgement) (fit_judged_status judgement) status
EndsCheck n (Err stop.NoMemory) before now status = (now ≡ before) × (status ≡ ends.NoMemory)
EndsCheck n (Err stop.Failed) before now status = (now ≡ before) × (status ≡ ends.ReadFault)
