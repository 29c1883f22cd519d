-- A certificate of a mesh that keeps points is made, or judged with a mesh: what the calls come to.
use Rattle.std.proofs.Common.{◌≡◌, ℕ, ◌+◌, inl, inr, List, [], ◌∷◌, Some, None, Result, Ok, refl, sym, ◌∙◌}
use Rattle.std.proofs.Common.{subst, arith}
use Rattle.mesh_defs.specs.declared.point.Point.{Point}
use Rattle.mesh_defs.specs.HeightField.{HeightField}
use Rattle.roam_edge.specs.Shelf.{NamedFile, bytes_of}
use Rattle.certificate_laws.specs.Keeping.{KeptCertificate}
use Rattle.cert_text.specs.KeptCert.{kept_cert_text}
use Rattle.run_laws.specs.declared.status.Status.{Status}
use Rattle.run_laws.specs.declared.status.Status.TheVariants.{Done, NoMemory, ReadFault}
use Rattle.run_words.specs.Words.{KeptMaking, KeptChecking, MakeKept, CheckKept, OnGrid}
use Rattle.run_laws.specs.Walk.{Refusal}
use Rattle.run_laws.specs.CertFile.{kept_cert_in, KeptCertHasRead}
use Rattle.run_laws.specs.PointFile.{points_in}
use Rattle.run_laws.specs.Certify.{IsKeptMade, IsKeptFaultless}
use Rattle.run_laws.specs.Act.{ReportText}
use Rattle.run_laws.specs.Outcome.{Outcome, text_outcome, IsKeptMakeOutcome, IsKeptCheckOutcome, IsJobOutcome}
use Rattle.run_laws.specs.Promise.{HasEnded}
use Rattle.run_laws.specs.Moment.{Moment}
use Rattle.run_laws.specs.Leaving.{RunsCommand, HasOpened, ReadsGrid, ReadsPoints, TellsLast}
use Rattle.run_laws.proofs.GridLemmas.{behind-memory}
use Rattle.run_laws.proofs.RunLemmas.{memory-spent, opens-then, fails-then, whole-runs}
use Rattle.run_certify.specs.declared.fit_verdict_report.Judgement.{Judgement}
use Rattle.run_certify.specs.Judging.{JudgesNoMemory}
use Rattle.run_certify.specs.FitJudging.{fit_judged_text, fit_judged_status, fit_mesh_opens, judged_outcome}
use Rattle.run_certify.specs.FitJudging.{IsFaultlessFile, JudgesFault}
use Rattle.run_certify.proofs.JudgingLemmas.{judges-memory, judges-fault}
use Rattle.run_certify.proofs.FitJudgingLemmas.{judged-runs}

-- making a certificate

module _ (before middle last now : Moment) (name : List ℕ) (m : KeptMaking) (grid : HeightField) (points : List Point)
    (read : ReadsGrid before middle name grid) (behind : ReadsPoints middle last m.points grid points) where
  -- the certificate ended the command
  pub make-runs : (cert : KeptCertificate) (status : Status) → IsKeptMade m points grid cert
      → TellsLast last now (kept_cert_text cert) Done status
      → RunsCommand before now (Some (OnGrid name (MakeKept m))) status None
  make-runs cert status made tells =
      whole-runs before middle last now name (MakeKept m) grid 1 status read behind.opened
      (ReportText (kept_cert_text cert) ∷ []) refl behind.ended refl (λ text_alone. refl)
      (λ files told. subst (λ (a : Result (List Point) Refusal). IsKeptMakeOutcome m grid a
      (text_outcome (kept_cert_text cert) Done 2)) (sym (behind.are_points files told)) (cert, made, refl))
      tells

module _ (before middle now : Moment) (name : List ℕ) (m : KeptMaking) (grid : HeightField) (points : List Point)
    (read : ReadsGrid before middle name grid) (behind : ReadsPoints middle now m.points grid points) where
  -- memory ran out behind the points
  pub make-memory : RunsCommand before now (Some (OnGrid name (MakeKept m))) NoMemory None
  make-memory =
      let opened = opens-then before middle now 1 1 read.opened behind.opened in
      memory-spent before now name (MakeKept m) 2 opened
      (behind-memory _ _ _ name (MakeKept m) grid 2 opened.opens (omega arith) (omega arith) read.is_grid
      (λ files told. (points, behind.are_points files (read.opened.only.files ∙ told))))

-- checking a mesh by one

module _ (before middle last now : Moment) (name : List ℕ) (c : KeptChecking) (grid : HeightField) (points : List Point)
    (read : ReadsGrid before middle name grid) (behind : ReadsPoints middle last c.points grid points) where
  both-opened : HasOpened before last 2
  both-opened = opens-then before middle last 1 1 read.opened behind.opened

  told-last : (files : List NamedFile) → before.shelf.files ≡ Some files → last.shelf.files ≡ Some files
  told-last files told = both-opened.only.files ∙ told

  are-points : (files : List NamedFile) → before.shelf.files ≡ Some files →
      points_in grid.n (bytes_of files c.points) ≡ Ok points
  are-points files told = behind.are_points files (read.opened.only.files ∙ told)

  -- memory ran out behind the points
  pub check-memory : JudgesNoMemory
      (IsFaultlessFile c.certificate (kept_cert_in grid.n) (IsKeptFaultless c points grid)) last now
      → RunsCommand before now (Some (OnGrid name (CheckKept c))) NoMemory None
  check-memory = judges-memory before last now name (CheckKept c) grid 2
      (IsFaultlessFile c.certificate (kept_cert_in grid.n) (IsKeptFaultless c points grid)) both-opened
      (omega arith) (omega arith) read.is_grid
      (λ count files told faultless. (points, are-points files told, faultless))

  -- a read failed behind the points
  pub check-fault : JudgesFault c.certificate c.mesh c.spacing grid (KeptCertHasRead grid.n) (kept_cert_in grid.n)
      (IsKeptFaultless c points grid) last now → RunsCommand before now
      (Some (OnGrid name (CheckKept c))) ReadFault None
  check-fault (inl one) =
      judges-fault before now name (CheckKept c) 2 c.certificate _
      (fails-then before last now 2 1 c.certificate _ both-opened one) (omega arith) refl
      (λ files told part has_read. (grid, read.is_grid files told, (((points, are-points files told), has_read), refl)))
  check-fault (inr (cert, triangles, is, faultless, two)) =
      judges-fault before now name (CheckKept c) 3 c.mesh _
      (fails-then before last now 2 2 c.mesh _ both-opened two) (omega arith) refl
      (λ files told part has_read. (
        grid,
        read.is_grid files told,
        (
          (
            points,
            cert,
            triangles,
            are-points files told,
            is files (told-last files told),
            faultless,
            has_read,
          ),
          refl,
        ),
      ))

module _ (before middle last end now : Moment) (name : List ℕ) (c : KeptChecking) (grid : HeightField)
    (points : List Point) (text : List ℕ) (meant status : Status)
    (read : ReadsGrid before middle name grid) (behind : ReadsPoints middle last c.points grid points) where
  -- what is judged with these points is what the check does with its files
  job-judged : (done : Outcome)
      → ((files : List NamedFile) → last.shelf.files ≡ Some files → IsKeptCheckOutcome c grid (Ok points)
      (kept_cert_in grid.n (bytes_of files c.certificate)) (bytes_of files c.mesh) done)
      → (files : List NamedFile) → middle.shelf.files ≡ Some files → IsJobOutcome (CheckKept c) grid files done
  job-judged done judged files told =
      subst (λ (a : Result (List Point) Refusal). IsKeptCheckOutcome c grid a
      (kept_cert_in grid.n (bytes_of files c.certificate)) (bytes_of files c.mesh) done)
      (sym (behind.are_points files told)) (judged files (behind.opened.only.files ∙ told))

  -- the line of a judgement ends a check
  pub check-runs : (judgement : Judgement) → HasOpened last end (1 + fit_mesh_opens judgement)
      → (fit_judged_status judgement ≡ Done → HasEnded end.shelf)
      → ((files : List NamedFile) → last.shelf.files ≡ Some files → IsKeptCheckOutcome c grid (Ok points)
      (kept_cert_in grid.n (bytes_of files c.certificate)) (bytes_of files c.mesh) (judged_outcome 3 grid.n judgement))
      → text ≡ fit_judged_text grid.n judgement → meant ≡ fit_judged_status judgement →
      TellsLast end now text meant status
      → RunsCommand before now (Some (OnGrid name (CheckKept c))) status None
  check-runs judgement opened ended judged =
      let two : 1 + (1 + fit_mesh_opens judgement) ≡ 2 + fit_mesh_opens judgement = omega arith in
      judged-runs before middle end now name (CheckKept c) 2 grid text meant status read refl refl refl refl judgement
      (subst (λ (i : ℕ). HasOpened middle end i) two
      (opens-then middle last end 1 (1 + fit_mesh_opens judgement) behind.opened opened)) (omega arith) ended
      (job-judged (judged_outcome 3 grid.n judgement) judged)
