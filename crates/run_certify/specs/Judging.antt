-- What a check of a certificate and a mesh comes to, and where it stops.
-- Words: judged_text, judged_status, mesh_opens, judged_outcome, cert_mesh_text, IsJudged, IsFaultlessFile,
-- NoMemoryBehind, FailsBehind, JudgesNoMemory, JudgesFault.
use Rattle.std.specs.Prelude.{◌≡◌, ℕ, ◌+◌, ◌⊎◌, List, Some, Ok}
use Rattle.mesh_defs.specs.HeightField.{HeightField}
use Rattle.mesh_defs.specs.State.{text_in}
use Rattle.roam_edge.specs.Shelf.{NamedFile, bytes_of}
use Rattle.certificate_laws.specs.declared.reason.Reject.TheVariants.{BadLine, NotConforming, OverBudget, BadReason}
use Rattle.certificate_laws.specs.declared.reason.Reject.TheVariants.{TooFewReasons, MeshDiffers}
use Rattle.cert_text.specs.Certificate.{Certificate}
use Rattle.run_laws.specs.declared.status.Status.{Status}
use Rattle.run_laws.specs.declared.status.Status.TheVariants as ends
use Rattle.run_words.specs.Words.{Checking}
use Rattle.run_laws.specs.CertFile.{cert_in, CertHasRead}
use Rattle.run_laws.specs.Certify.{checks_at, IsFaultless}
use Rattle.run_laws.specs.ReportText.{certified_line, rejection}
use Rattle.run_laws.specs.Outcome.{Outcome, text_outcome, IsCheckOutcome}
use Rattle.run_laws.specs.Moment.{Moment}
use Rattle.run_laws.specs.Leaving.{HasOpened, HasFailed, MeshHasRead}
use Rattle.run_certify.specs.declared.verdict_report.Judgement.{Judgement}
use Rattle.run_certify.specs.declared.verdict_report.Judgement.TheVariants.{Certified, Rejected}

-- the line of a judgement
abbrev pub judged_text : Judgement → List ℕ
judged_text (Certified camera triangles worst) = certified_line camera triangles worst
judged_text (Rejected why) = rejection why

-- how a run ends that tells it
abbrev pub judged_status : Judgement → Status
judged_status (Certified camera triangles worst) = ends.Done
judged_status (Rejected why) = ends.Rejected

-- how often the mesh was opened for it: only behind a certificate without a fault
abbrev pub mesh_opens : Judgement → ℕ
mesh_opens (Certified camera triangles worst) = 1
mesh_opens (Rejected (BadLine line)) = 0
mesh_opens (Rejected NotConforming) = 0
mesh_opens (Rejected OverBudget) = 0
mesh_opens (Rejected (BadReason index)) = 0
mesh_opens (Rejected TooFewReasons) = 0
mesh_opens (Rejected (MeshDiffers place)) = 1

-- the outcome of a run that tells it: the grid and the certificate were opened for it, and the mesh or not
abbrev pub judged_outcome : Judgement → Outcome
judged_outcome judgement = text_outcome (judged_text judgement) (judged_status judgement) (2 + mesh_opens judgement)

-- the text of the mesh of a certificate
abbrev pub cert_mesh_text : Checking → HeightField → Certificate → List ℕ
cert_mesh_text c grid cert = text_in (checks_at c grid cert.camera) cert.leaves

-- the judgement is right for the files
abbrev pub IsJudged : Checking → HeightField → List NamedFile → Judgement → Type 0
IsJudged c grid files judgement =
    IsCheckOutcome c grid (cert_in grid.n (bytes_of files c.certificate)) (bytes_of files c.mesh)
    (judged_outcome judgement)

-- the file is that of a certificate without a fault
abbrev pub IsFaultlessFile : Checking → HeightField → List NamedFile → Type 0
IsFaultlessFile c grid files =
    (cert : Certificate) × (cert_in grid.n (bytes_of files c.certificate) ≡ Ok cert) × IsFaultless c grid cert

-- behind this certificate memory ran out: at once, or, if it has no fault, when the mesh was opened
abbrev pub NoMemoryBehind : Checking → HeightField → Certificate → Moment → Moment → Type 0
NoMemoryBehind c grid cert before now = HasOpened before now 0 ⊎ (HasOpened before now 1 × IsFaultless c grid cert)

-- behind this certificate, which has no fault, a read of the mesh failed
abbrev pub FailsBehind : Checking → HeightField → Certificate → Moment → Moment → Type 0
FailsBehind c grid cert before now =
    IsFaultless c grid cert × HasFailed before now 1 c.mesh (MeshHasRead (cert_mesh_text c grid cert))

-- memory ran out once the certificate was opened, or once the mesh was too, behind a file of one without a fault
abbrev pub JudgesNoMemory : (List NamedFile → Type 0) → Moment → Moment → Type 0
JudgesNoMemory faultless_file before now =
    HasOpened before now 1
    ⊎ (HasOpened before now 2 × ((files : List NamedFile) → before.shelf.files ≡ Some files → faultless_file files))

-- a read failed, at the certificate or, behind one without a fault, at the mesh
abbrev pub JudgesFault : Checking → HeightField → Moment → Moment → Type 0
JudgesFault c grid before now =
    HasFailed before now 1 c.certificate (CertHasRead grid.n)
    ⊎ ((cert : Certificate)
    × ((files : List NamedFile) → before.shelf.files ≡ Some files →
    cert_in grid.n (bytes_of files c.certificate) ≡ Ok cert)
    × IsFaultless c grid cert × HasFailed before now 2 c.mesh (MeshHasRead (cert_mesh_text c grid cert)))
