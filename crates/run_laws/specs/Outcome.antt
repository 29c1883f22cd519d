-- The outcome of a run: what its words and the files that they name determine. This project's own.
-- Words: EngineEnd, Outcome, plain_outcome, text_outcome, picture_acts, shown_acts, sum_acts, stop_acts, stop_status,
-- engine_end, engine_for, frames_outcome, IsFramesOutcome, script_walk, made_budget, made_spacing, made_walk, fit_acts,
-- IsKeepOutcome, IsCompared, IsVerdictOutcome, IsCheckOutcome, IsFitVerdictOutcome, IsFitCheckOutcome,
-- IsKeptMakeOutcome, IsKeptCheckOutcome, IsJobOutcome, IsGridOutcome, IsCommandOutcome, IsOutcome.
use Rattle.std.specs.Prelude.{◌≡◌, ℕ, ◌+◌, ◌⊎◌, if◌then◌else◌, List, [], ◌∷◌, ◌++◌, length, sum_by, Option, Some}
use Rattle.std.specs.Prelude.{None, Result, Ok, Err}
use Rattle.mesh_defs.specs.declared.point.Point.{Point}
use Rattle.mesh_defs.specs.HeightField.{HeightField}
use Rattle.mesh_defs.specs.State.{State, start_state, priority_in, text_in}
use Rattle.roam_edge.specs.Shelf.{NamedFile, bytes_of}
use Rattle.pgm_grid.specs.declared.fault.PgmFault.{PgmFault}
use Rattle.pgm_grid.specs.Progress.{grid_of}
use Rattle.certificate_laws.specs.declared.reason.Reject.TheVariants.{BadLine, MeshDiffers}
use Rattle.certificate_laws.specs.declared.reason.Verdict.{Verdict}
use Rattle.certificate_laws.specs.declared.reason.Verdict.TheVariants as verdict
use Rattle.certificate_laws.specs.Certificate.{IsVerdict}
use Rattle.cert_text.specs.Certificate.{Certificate}
use Rattle.cert_text.specs.CertText.{cert_text}
use Rattle.certificate_laws.specs.declared.fit_reason.FitVerdict as fit_verdict
use Rattle.certificate_laws.specs.declared.fit_reason.FitVerdict.TheVariants as fitted
use Rattle.certificate_laws.specs.FitCertificate.{FitCertificate, IsVerdictOf}
use Rattle.certificate_laws.specs.Keeping.{KeptCertificate, IsKeptVerdictOf}
use Rattle.cert_text.specs.FitCertText.{fit_cert_text}
use Rattle.cert_text.specs.KeptCert.{kept_cert_text}
use Rattle.roam_gen.specs.Generated.{made_grid, made_lines}
use Rattle.run_laws.specs.declared.status.Status.{Status}
use Rattle.run_laws.specs.declared.status.Status.TheVariants.{Done, Usage, GridRefused, ScriptRefused, Rejected}
use Rattle.run_laws.specs.Walk.{Refusal, Walk, start_walk, walk_along, walk_of}
use Rattle.run_words.specs.Words.{Meshes, Measures, Sums, Show, as_sums, is_of_engine, Scripted, Checking}
use Rattle.run_words.specs.Words.{Fitting, Keeping, fitting_of, Job, Frames, Facts, Make, Check, Fit, Keep}
use Rattle.run_words.specs.Words.{MakeFit, CheckFit, KeptMaking, KeptChecking, MakeKept, CheckKept}
use Rattle.run_words.specs.Words.{Command, OnGrid, Generated}
use Rattle.run_laws.specs.CertFile.{cert_in, fit_cert_in, kept_cert_in}
use Rattle.run_laws.specs.PointFile.{points_in}
use Rattle.run_laws.specs.Certify.{checks_at, IsMade, IsFitMade, IsKeptMade, IsFirstDifference}
use Rattle.run_laws.specs.Fit.{tolerance_of, target_of, IsFitted, IsKept, fit_text}
use Rattle.run_laws.specs.Act.{Act, WholeMesh, ReportText}
use Rattle.run_laws.specs.Picture.{Picture, shown_triangles, ArePictures, last_members}
use Rattle.run_laws.specs.ReportText.{mesh_line, measure_line, fit_line, try_line, info_line, grid_refusal}
use Rattle.run_laws.specs.ReportText.{line_refusal, certified_line, rejection, certified_fit_line, fit_rejection}

-- what an engine holds at the end: the state, how far the camera went, the frames made, the set of the
-- last one, and the sums of their splits and merges
pub record EngineEnd : Type 0 where
  pub state : State
  pub odometer : ℕ
  pub frames : ℕ
  pub members : List ℕ
  pub splits : ℕ
  pub merges : ℕ

-- what a run does, how it ends, how many files it opens, what its frames show, and the engine it leaves
pub record Outcome : Type 0 where
  pub acts : List Act
  pub status : Status
  pub opened : ℕ
  pub pictures : List Picture
  pub engine : Option EngineEnd

-- an outcome without frames
abbrev pub plain_outcome : List Act → Status → ℕ → Outcome
plain_outcome done last files = record { acts = done; status = last; opened = files; pictures = []; engine = None }

-- one text, and the end
abbrev pub text_outcome : List ℕ → Status → ℕ → Outcome
text_outcome bytes last files = plain_outcome (ReportText bytes ∷ []) last files

-- the acts of the frame of this number: its mesh, and then its line; or a line alone; sums have none
abbrev pub picture_acts : Show → ℕ → Picture → List Act
picture_acts show number picture = elim show.output as (λ _. List Act) [
  | Meshes prefix ↦ WholeMesh prefix number (text_in picture.state (shown_triangles show picture))
      ∷ (ReportText (mesh_line show.order show.criterion number picture) ∷ [])
  | Measures ↦ ReportText (measure_line number picture) ∷ []
  | Sums n seed ↦ []
]

-- the acts of frames, of which the first has this number
abbrev pub shown_acts : Show → ℕ → List Picture → List Act
shown_acts show number [] = []
shown_acts show number (picture ∷ pictures) = picture_acts show number picture ++ shown_acts show (number + 1) pictures

-- the acts behind all frames
abbrev pub sum_acts : Show → List Picture → List Act
sum_acts show pictures = elim show.output as (λ _. List Act) [
  | Meshes prefix ↦ []
  | Measures ↦ []
  | Sums n seed ↦ ReportText (try_line n seed pictures) ∷ []
]

-- the refusal of a line, where one stopped the walk
abbrev pub stop_acts : Option Refusal → List Act
stop_acts None = []
stop_acts (Some refusal) = ReportText (line_refusal refusal) ∷ []

abbrev pub stop_status : Option Refusal → Status
stop_status None = Done
stop_status (Some refusal) = ScriptRefused

-- an engine after a walk
abbrev pub engine_end : Walk → List Picture → EngineEnd
engine_end walk pictures = record {
  state = walk.state;
  odometer = walk.odometer;
  frames = length walk.frames;
  members = last_members [] pictures;
  splits = sum_by (λ (p : Picture). p.splits) pictures;
  merges = sum_by (λ (p : Picture). p.merges) pictures;
}

-- the engine that is left, where one makes the frames
abbrev pub engine_for : Show → Walk → List Picture → Option EngineEnd
engine_for show walk pictures = if is_of_engine show then Some (engine_end walk pictures) else None

-- The outcome of a walk and its pictures: the frames in order, and then the refusal, if a line is refused.
abbrev pub frames_outcome : Show → ℕ → Walk → List Picture → Outcome
frames_outcome show files walk all = record {
  acts = shown_acts show 1 all ++ (sum_acts show all ++ stop_acts walk.stop);
  status = stop_status walk.stop;
  opened = files;
  pictures = all;
  engine = engine_for show walk all;
}

-- The outcome of a walk, whose frames have pictures.
abbrev pub IsFramesOutcome : Show → ℕ → Walk → Outcome → Type 0
IsFramesOutcome show files walk end =
    (pictures : List Picture) × ArePictures show [] walk.frames pictures
    × (end ≡ frames_outcome show files walk pictures)

-- the walk of a script over an accepted grid
abbrev pub script_walk : Scripted → HeightField → List ℕ → Walk
script_walk s grid script = walk_of (start_walk s.budget (start_state grid s.spacing s.budget)) script

-- the budget of a generated run, and the world units of its grid step
abbrev pub made_budget : ℕ
made_budget = 20000

abbrev pub made_spacing : ℕ
made_spacing = 30

-- the walk of the generated script over the generated grid
abbrev pub made_walk : ℕ → ℕ → Walk
made_walk n seed =
    walk_along (start_walk made_budget (start_state (made_grid n seed) made_spacing made_budget)) (made_lines n seed)

-- the acts of a mesh that is fitted: the mesh, which has number 1, and then its line
abbrev pub fit_acts : Fitting → HeightField → List ℕ → List Act
fit_acts f grid triangles =
    WholeMesh f.prefix 1 (fit_text f.spacing grid triangles) ∷ (ReportText (fit_line grid triangles) ∷ [])

-- what fitting a mesh does with the points that it keeps, or with the first line of their file that is refused
abbrev pub IsKeepOutcome : Keeping → HeightField → Result (List Point) Refusal → Outcome → Type 0
IsKeepOutcome k grid (Ok points) end = (triangles : List ℕ) × IsKept k.thousandths points grid triangles
    × (end ≡ plain_outcome (fit_acts (fitting_of k) grid triangles) Done 2)
IsKeepOutcome k grid (Err refusal) end = end ≡ text_outcome (line_refusal refusal) ScriptRefused 2

-- The file of a mesh, the last of so many that are opened, is compared with the text of the triangles of a certificate:
-- they are the same, or there is a first place at which they differ.
abbrev pub IsCompared : ℕ → List ℕ → List ℕ → List ℕ → Outcome → Type 0
IsCompared files mesh text line end =
    ((mesh ≡ text) × (end ≡ text_outcome line Done files))
    ⊎ ((at : ℕ) × IsFirstDifference mesh text at × (end ≡ text_outcome (rejection (MeshDiffers at)) Rejected files))

-- what the verdict on a certificate leads to: only behind one without a fault the file of the mesh is opened
abbrev pub IsVerdictOutcome : State → Certificate → List ℕ → Verdict → Outcome → Type 0
IsVerdictOutcome state cert mesh (verdict.Certified triangles worst) end =
    IsCompared 3 mesh (text_in state cert.leaves) (certified_line cert.camera triangles worst) end
IsVerdictOutcome state cert mesh (verdict.Rejected why) end = end ≡ text_outcome (rejection why) Rejected 2

-- what a check does with a certificate and the bytes of a mesh, or with the number of the line that is refused
abbrev pub IsCheckOutcome : Checking → HeightField → Result Certificate ℕ → List ℕ → Outcome → Type 0
IsCheckOutcome c grid (Ok cert) mesh end =
    let state : State = checks_at c grid cert.camera in
    (is : Verdict) × IsVerdict grid.n c.budget (priority_in state) cert.leaves cert.reasons is
    × IsVerdictOutcome state cert mesh is end
IsCheckOutcome c grid (Err line) mesh end = end ≡ text_outcome (rejection (BadLine line)) Rejected 2

-- what the verdict on a certificate of a fitted mesh leads to, the last of so many files that are opened by then, of
-- which these are the triangles: only behind one without a fault the file of the mesh is opened
abbrev pub IsFitVerdictOutcome : (files spacing : ℕ) → HeightField → (triangles mesh : List ℕ) → fit_verdict.FitVerdict
    → Outcome → Type 0
IsFitVerdictOutcome files spacing grid triangles mesh (fitted.Certified count deviation) end =
    IsCompared (files + 1) mesh (fit_text spacing grid triangles) (certified_fit_line grid.n count deviation) end
IsFitVerdictOutcome files spacing grid triangles mesh (fitted.Rejected why) end =
    end ≡ text_outcome (fit_rejection why) Rejected files

-- What a check of a fitted mesh does with a certificate, the last of so many files that are opened by then, and the
-- bytes of a mesh, or with the number of the line that is refused. Of the verdict on a certificate and of its triangles
-- this holds.
abbrev pub IsFitCheckOutcome : {C : Type 0} → (files spacing : ℕ) → HeightField
    → (holds : C → fit_verdict.FitVerdict → List ℕ → Type 0) → Result C ℕ → List ℕ → Outcome → Type 0
IsFitCheckOutcome files spacing grid holds (Ok cert) mesh end =
    (is : fit_verdict.FitVerdict) × (triangles : List ℕ) × holds cert is triangles
    × IsFitVerdictOutcome files spacing grid triangles mesh is end
IsFitCheckOutcome files spacing grid holds (Err line) mesh end =
    end ≡ text_outcome (rejection (BadLine line)) Rejected files

-- what making a certificate does with the points that the mesh keeps, or with the first line of their file that is
-- refused
abbrev pub IsKeptMakeOutcome : KeptMaking → HeightField → Result (List Point) Refusal → Outcome → Type 0
IsKeptMakeOutcome m grid (Ok points) end =
    (cert : KeptCertificate) × IsKeptMade m points grid cert × (end ≡ text_outcome (kept_cert_text cert) Done 2)
IsKeptMakeOutcome m grid (Err refusal) end = end ≡ text_outcome (line_refusal refusal) ScriptRefused 2

-- what a check does with the points that the mesh keeps, or with the first line of their file that is refused
abbrev pub IsKeptCheckOutcome : KeptChecking → HeightField → Result (List Point) Refusal → Result KeptCertificate ℕ
    → List ℕ → Outcome → Type 0
IsKeptCheckOutcome c grid (Ok points) answer mesh end =
    IsFitCheckOutcome 3 c.spacing grid
    (IsKeptVerdictOf grid.n grid.heights points (tolerance_of grid.n c.thousandths)) answer mesh end
IsKeptCheckOutcome c grid (Err refusal) answer mesh end = end ≡ text_outcome (line_refusal refusal) ScriptRefused 2

-- What a job does with an accepted grid. A certificate that is made is any that may be.
abbrev pub IsJobOutcome : Job → HeightField → List NamedFile → Outcome → Type 0
IsJobOutcome (Frames s) grid files end = IsFramesOutcome s.show 2 (script_walk s grid (bytes_of files s.script)) end
IsJobOutcome Facts grid files end = end ≡ text_outcome (info_line grid) Done 1
IsJobOutcome (Make m) grid files end =
    (cert : Certificate) × IsMade m grid cert × (end ≡ text_outcome (cert_text cert) Done 1)
IsJobOutcome (Check c) grid files end =
    IsCheckOutcome c grid (cert_in grid.n (bytes_of files c.certificate)) (bytes_of files c.mesh) end
IsJobOutcome (Fit f) grid files end =
    (triangles : List ℕ) × IsFitted f.goal grid triangles × (end ≡ plain_outcome (fit_acts f grid triangles) Done 1)
IsJobOutcome (Keep k) grid files end = IsKeepOutcome k grid (points_in grid.n (bytes_of files k.points)) end
IsJobOutcome (MakeFit m) grid files end =
    (cert : FitCertificate) × IsFitMade m grid cert × (end ≡ text_outcome (fit_cert_text cert) Done 1)
IsJobOutcome (CheckFit c) grid files end =
    IsFitCheckOutcome 2 c.spacing grid (IsVerdictOf grid.n grid.heights (target_of grid.n c.goal))
    (fit_cert_in grid.n (bytes_of files c.certificate)) (bytes_of files c.mesh) end
IsJobOutcome (MakeKept m) grid files end = IsKeptMakeOutcome m grid (points_in grid.n (bytes_of files m.points)) end
IsJobOutcome (CheckKept c) grid files end =
    IsKeptCheckOutcome c grid (points_in grid.n (bytes_of files c.points))
    (kept_cert_in grid.n (bytes_of files c.certificate)) (bytes_of files c.mesh) end

-- what a job does with the bytes of a grid, once they were read or refused
abbrev pub IsGridOutcome : Job → Result HeightField PgmFault → List NamedFile → Outcome → Type 0
IsGridOutcome job (Ok grid) files end = IsJobOutcome job grid files end
IsGridOutcome job (Err fault) files end = end ≡ text_outcome (grid_refusal fault) GridRefused 1

-- what a command does over named files
abbrev pub IsCommandOutcome : Command → List NamedFile → Outcome → Type 0
IsCommandOutcome (OnGrid grid job) files end = IsGridOutcome job (grid_of (bytes_of files grid)) files end
IsCommandOutcome (Generated n seed) files end = IsFramesOutcome (as_sums n seed) 0 (made_walk n seed) end

-- what words do over named files, whether they are a command or none
abbrev pub IsOutcome : Option Command → List NamedFile → Outcome → Type 0
IsOutcome None files end = end ≡ plain_outcome [] Usage 0
IsOutcome (Some command) files end = IsCommandOutcome command files end
