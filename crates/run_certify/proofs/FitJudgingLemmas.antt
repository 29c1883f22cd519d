-- A fitted mesh is judged by a certificate: what the calls of a check come to.
use Rattle.std.proofs.Common.{◌≡◌, ◌≢◌, ℕ, ◌+◌, ◌≤◌, inl, inr, List, Option, Some, None, Result, Ok, Err, IfOk, take}
use Rattle.std.proofs.Common.{slice_get, IsTrue, false, refl}
use Rattle.std.proofs.Common.{sym, ◌∙◌, subst, arith}
use Rattle.mesh_defs.specs.HeightField.{HeightField}
use Rattle.roam_edge.specs.Shelf.{NamedFile}
use Rattle.certificate_laws.specs.declared.fit_reason.FitVerdict.{FitVerdict}
use Rattle.certificate_laws.specs.declared.fit_reason.FitVerdict.TheVariants as verdict
use Rattle.run_laws.specs.declared.status.Status.{Status}
use Rattle.run_laws.specs.declared.status.Status.TheVariants as ends
use Rattle.run_words.specs.Words.{FitChecking, CheckFit, Job, OnGrid, Command}
use Rattle.run_words.specs.Jobs.{file_count, is_check}
use Rattle.run_laws.specs.CertFile.{fit_cert_in, FitCertHasRead}
use Rattle.run_laws.specs.Certify.{IsFitFaultless}
use Rattle.run_laws.specs.Fit.{fit_text}
use Rattle.run_laws.specs.ReportText.{certified_fit_line}
use Rattle.run_laws.specs.Outcome.{Outcome, text_outcome, IsCompared, IsFitVerdictOutcome, IsJobOutcome}
use Rattle.run_laws.specs.Promise.{HasEnded, leaves_engine}
use Rattle.run_laws.specs.Moment.{Moment}
use Rattle.run_laws.specs.Leaving.{RunsCommand, HasOpened, ReadsGrid, TellsLast}
use Rattle.run_laws.proofs.RunLemmas.{fails-then, certified-runs, rejected-runs}
use Rattle.run_laws.proofs.RunLemmas.{tells-as}
use Rattle.run_certify.specs.declared.mesh_file.CheckStop.{CheckStop}
use Rattle.run_certify.specs.declared.mesh_file.CheckStop.TheVariants as stop
use Rattle.run_certify.specs.declared.fit_verdict_report.Judgement.{Judgement}
use Rattle.run_certify.specs.declared.fit_verdict_report.Judgement.TheVariants.{Certified, Rejected, BadLine}
use Rattle.run_certify.specs.declared.fit_verdict_report.Judgement.TheVariants.{MeshDiffers}
use Rattle.run_certify.specs.Judging.{JudgesNoMemory}
use Rattle.run_certify.specs.FitJudging.{fit_judged_text, fit_judged_status, fit_mesh_opens, judged_outcome}
use Rattle.run_certify.specs.FitJudging.{IsFaultlessFile, JudgesFault, EndsCheck}
use Rattle.run_certify.proofs.JudgingLemmas.{judges-memory, judges-fault}

-- what comparing a file with the text of these triangles comes to is what a verdict leads to that certifies them
pub verdict-judged : (grid : HeightField) (triangles mesh : List ℕ) → triangles ≡ mesh
    → (files spacing count deviation : ℕ) (holds : FitVerdict → List ℕ → Type 0) (bytes : List ℕ) (end : Outcome)
    → holds (verdict.Certified count deviation) mesh
    → IsCompared (files + 1) bytes (fit_text spacing grid triangles) (certified_fit_line grid.n count deviation) end
    → (is : FitVerdict) × (l : List ℕ) × holds is l × IsFitVerdictOutcome files spacing grid l bytes is end
verdict-judged grid triangles mesh made files spacing count deviation holds bytes end is compared = (
  verdict.Certified count deviation,
  mesh,
  is,
  subst (λ (l : List ℕ). IsCompared (files + 1) bytes (fit_text spacing grid l)
      (certified_fit_line grid.n count deviation) end) made compared,
)

-- the file has the text of the mesh
pub same-judged : (files n count deviation : ℕ) (mesh bytes : List ℕ) → mesh ≡ bytes
    → IsCompared (files + 1) bytes mesh (certified_fit_line n count deviation)
    (judged_outcome files n (Certified count deviation))
same-judged files n count deviation mesh bytes same = inl (sym same, refl)

-- the file differs from it first at this place
pub differs-judged : (files n : ℕ) (mesh bytes line : List ℕ) (place : ℕ) → take place mesh ≡ take place bytes
    → slice_get mesh place ≢ slice_get bytes place
    → IsCompared (files + 1) bytes mesh line (judged_outcome files n (MeshDiffers place))
differs-judged files n mesh bytes line place same differ =
    inr (place, record { same = sym same; differ = λ e. differ (sym e) }, refl)

-- A check whose certificate is the last of so many files behind the grid.
module _ (before middle last now : Moment) (name : List ℕ) (job : Job) (more : ℕ) (grid : HeightField)
    (text : List ℕ) (meant status : Status) (read : ReadsGrid before middle name grid)
    (whole : 2 + more ≡ file_count (Some (OnGrid name job))) (check : IsTrue (is_check (OnGrid name job)))
    (none : leaves_engine (Some (OnGrid name job)) ends.Done ≡ false)
    (none_rejected : leaves_engine (Some (OnGrid name job)) ends.Rejected ≡ false) where
  -- the count of the files is taken as that behind the grid
  job-judged : (judgement : Judgement) (k : ℕ) → 1 + more + fit_mesh_opens judgement ≡ k
      → ((files : List NamedFile) → middle.shelf.files ≡ Some files →
      IsJobOutcome job grid files (judged_outcome (1 + more) grid.n judgement))
      → (files : List NamedFile) → middle.shelf.files ≡ Some files
      → IsJobOutcome job grid files
      (text_outcome (fit_judged_text grid.n judgement) (fit_judged_status judgement) k)
  job-judged judgement k is judged files told =
      subst (λ (i : ℕ). IsJobOutcome job grid files
      (text_outcome (fit_judged_text grid.n judgement) (fit_judged_status judgement) i)) is (judged files told)

  -- the line of a judgement ends it
  pub judged-runs : (judgement : Judgement) → HasOpened middle last (more + fit_mesh_opens judgement) → 1 ≤ more
      → (fit_judged_status judgement ≡ ends.Done → HasEnded last.shelf)
      → ((files : List NamedFile) → middle.shelf.files ≡ Some files →
      IsJobOutcome job grid files (judged_outcome (1 + more) grid.n judgement))
      → text ≡ fit_judged_text grid.n judgement → meant ≡ fit_judged_status judgement →
      TellsLast last now text meant status
      → RunsCommand before now (Some (OnGrid name job)) status None
  judged-runs (Certified triangles deviation) opened some ended judged is_text is_end tells =
      certified-runs before middle last now name job grid (more + 1) status read opened _ (omega (arith, whole))
      (ended refl) none (job-judged (Certified triangles deviation) (1 + (more + 1)) (omega arith) judged)
      (tells-as is_text is_end tells)
  judged-runs (Rejected why) opened some ended judged is_text is_end tells =
      rejected-runs before middle last now name job grid (more + 0) status read opened _ (omega (arith, some))
      (omega (arith, whole)) check none_rejected
      (job-judged (Rejected why) (1 + (more + 0)) (omega arith) judged) (tells-as is_text is_end tells)
  judged-runs (BadLine line) opened some ended judged is_text is_end tells =
      rejected-runs before middle last now name job grid (more + 0) status read opened _ (omega (arith, some))
      (omega (arith, whole)) check none_rejected
      (job-judged (BadLine line) (1 + (more + 0)) (omega arith) judged) (tells-as is_text is_end tells)
  judged-runs (MeshDiffers place) opened some ended judged is_text is_end tells =
      rejected-runs before middle last now name job grid (more + 1) status read opened _ (omega (arith, some))
      (omega (arith, whole)) check none_rejected
      (job-judged (MeshDiffers place) (1 + (more + 1)) (omega arith) judged) (tells-as is_text is_end tells)

-- A check ends by what it came to: by its line, or where it stopped.
pub check-ends : (before last now : Moment) (command : Option Command) (n : ℕ) (judged : Result Judgement CheckStop)
    (status : Status) → EndsCheck n judged last now status → {opens ended does : Judgement → Type 0}
    → IfOk judged opens → IfOk judged ended → IfOk judged does
    → ((judgement : Judgement) → opens judgement → ended judgement → does judgement →
    TellsLast last now (fit_judged_text n judgement) (fit_judged_status judgement) status →
    RunsCommand before now command status None)
    → (judged ≡ Err stop.NoMemory → RunsCommand before last command ends.NoMemory None)
    → (judged ≡ Err stop.Failed → RunsCommand before last command ends.ReadFault None)
    → RunsCommand before now command status None
check-ends before last now command n (Ok judgement) status tells opened is_end judged runs spent failed =
    runs judgement opened is_end judged tells
check-ends before last now command n (Err stop.NoMemory) status (same, is) opened is_end judged runs spent failed =
    rw (same, is) (spent refl)
check-ends before last now command n (Err stop.Failed) status (same, is) opened is_end judged runs spent failed =
    rw (same, is) (failed refl)

-- A check of a mesh alone.
module _ (before middle now : Moment) (name : List ℕ) (c : FitChecking) (grid : HeightField)
    (read : ReadsGrid before middle name grid) where
  -- memory ran out behind the grid
  pub check-memory : JudgesNoMemory (IsFaultlessFile c.certificate (fit_cert_in grid.n) (IsFitFaultless c grid)) middle
      now → RunsCommand before now (Some (OnGrid name (CheckFit c))) ends.NoMemory None
  check-memory = judges-memory before middle now name (CheckFit c) grid 1
      (IsFaultlessFile c.certificate (fit_cert_in grid.n) (IsFitFaultless c grid)) read.opened
      (omega arith) (omega arith) read.is_grid (λ count files told faultless. faultless)

  -- a read failed behind the grid
  pub check-fault : JudgesFault c.certificate c.mesh c.spacing grid (FitCertHasRead grid.n) (fit_cert_in grid.n)
      (IsFitFaultless c grid) middle now → RunsCommand before now (Some (OnGrid name (CheckFit c))) ends.ReadFault None
  check-fault (inl one) =
      judges-fault before now name (CheckFit c) 1 c.certificate _
      (fails-then before middle now 1 1 c.certificate _ read.opened one) (omega arith) refl
      (λ files told part has_read. (grid, read.is_grid files told, (has_read, refl)))
  check-fault (inr (cert, triangles, is, faultless, two)) =
      judges-fault before now name (CheckFit c) 2 c.mesh _
      (fails-then before middle now 1 2 c.mesh _ read.opened two) (omega arith) refl
      (λ files told part has_read. (
        grid,
        read.is_grid files told,
        ((cert, triangles, is files (read.opened.only.files ∙ told), faultless, has_read), refl),
      ))
