-- How a command that reads points is carried out: behind its grid it ends at its points, or with what it makes of them.
use Rattle.std.proofs.Common.{◌≡◌, ℕ, ◌≤◌, List, [], Some, None, Result, Ok, Err, refl, sym, subst, arith, ◌+◌, ◌^◌}
use Rattle.mesh_defs.specs.declared.point.Point.{Point}
use Rattle.mesh_defs.specs.HeightField.{HeightField}
use Rattle.roam_edge.specs.Fault.{Rose, next_count, IsInTime}
use Rattle.roam_edge.specs.Shelf.{NamedFile, bytes_of}
use Rattle.run_laws.specs.declared.status.Status.{Status}
use Rattle.run_laws.specs.declared.status.Status.TheVariants.{Done, ScriptRefused, ReadFault}
use Rattle.run_words.specs.Words.{Keeping, KeptMaking, KeptChecking, fitting_of, Job, Keep, MakeKept, CheckKept, OnGrid}
use Rattle.run_laws.specs.Walk.{Refusal}
use Rattle.run_laws.specs.FileStop.{StopsReading}
use Rattle.run_laws.specs.Fit.{IsKept}
use Rattle.run_laws.specs.CertFile.{kept_cert_in}
use Rattle.run_laws.specs.PointFile.{points_in, PointsHaveRead}
use Rattle.run_laws.specs.ReportText.{line_refusal}
use Rattle.run_laws.specs.Outcome.{text_outcome, plain_outcome, fit_acts, IsKeepOutcome, IsKeptMakeOutcome}
use Rattle.run_laws.specs.Outcome.{IsKeptCheckOutcome, IsJobOutcome}
use Rattle.run_laws.specs.Promise.{HasEnded}
use Rattle.run_laws.specs.Moment.{Moment, OnlyReads}
use Rattle.run_laws.specs.Leaving.{RunsCommand, HasOpened, ReadsGrid, KeepsPoints, EndsWith, TellsLast}
use Rattle.run_laws.proofs.ActLemmas.{stands-nothing}
use Rattle.run_laws.proofs.GridLemmas.{next-one, file-fault}
use Rattle.run_laws.proofs.RunLemmas.{read-failed, opens-one, fails-then, whole-runs, second-refused}

abbrev refused_points : Refusal → Result (List Point) Refusal
refused_points refusal = Err refusal

-- a fit that keeps points reads them so, and so do making a certificate of such a mesh, and checking it by one
pub keep-keeps : (name : List ℕ) (k : Keeping) → KeepsPoints name k.points (Keep k)
keep-keeps name k = record {
  second = refl;
  two = omega arith;
  allowed = refl;
  no_engine = refl;
  has_read = λ grid files read is. (is, refl);
  refused = λ grid files refusal is. subst (λ a. IsKeepOutcome k grid a
      (text_outcome (line_refusal refusal) ScriptRefused 2)) (sym is) refl;
}

pub make-keeps : (name : List ℕ) (m : KeptMaking) → KeepsPoints name m.points (MakeKept m)
make-keeps name m = record {
  second = refl;
  two = omega arith;
  allowed = refl;
  no_engine = refl;
  has_read = λ grid files read is. (is, refl);
  refused = λ grid files refusal is. subst (λ a. IsKeptMakeOutcome m grid a
      (text_outcome (line_refusal refusal) ScriptRefused 2)) (sym is) refl;
}

pub check-keeps : (name : List ℕ) (c : KeptChecking) → KeepsPoints name c.points (CheckKept c)
check-keeps name c = record {
  second = refl;
  two = omega arith;
  allowed = refl;
  no_engine = refl;
  has_read = λ grid files read is. (is, refl);
  refused = λ grid files refusal is. subst (λ a. IsKeptCheckOutcome c grid a
      (kept_cert_in grid.n (bytes_of files c.certificate)) (bytes_of files c.mesh)
      (text_outcome (line_refusal refusal) ScriptRefused 2)) (sym is) refl;
}

-- the points were read behind the grid
pub points-opened : (before now : Moment) → before.shelf.opens ≤ 2 ^ 63 + 1 → OnlyReads before now
    → now.shelf.opens ≡ next_count before.shelf.opens → now.shelf_faults ≡ before.shelf_faults
    → IsInTime before.shelf_late before.shelf_faults now.shelf_late → HasOpened before now 1
points-opened before now low only opens faults in_time =
    opens-one before now (omega (arith, low)) only opens faults in_time

-- the points that were read, in the words of the grid
pub points-told : (n : ℕ) (grid : HeightField) (middle : Moment) (name : List ℕ) (answer : Result (List Point) Refusal)
    → n ≡ grid.n
    → ((files : List NamedFile) → middle.shelf.files ≡ Some files → points_in n (bytes_of files name) ≡ answer)
    → (files : List NamedFile) → middle.shelf.files ≡ Some files → points_in grid.n (bytes_of files name) ≡ answer
points-told n grid middle name answer n_is found files told =
    subst (λ (k : ℕ). points_in k (bytes_of files name) ≡ answer) n_is (found files told)

module _ (before middle : Moment) (name points : List ℕ) (job : Job) (grid : HeightField) (n : ℕ)
    (keeps : KeepsPoints name points job) (n_is : n ≡ grid.n) (read : ReadsGrid before middle name grid) where
  -- a read of the points failed
  pub points-fault : (now : Moment) → middle.shelf.opens ≤ 2 ^ 63 + 1 → OnlyReads middle now
      → now.shelf.opens ≡ next_count middle.shelf.opens → Rose middle.shelf_faults now.shelf_faults
      → IsInTime middle.shelf_late middle.shelf_faults now.shelf_late
      → ((files : List NamedFile) → middle.shelf.files ≡ Some files →
      StopsReading (PointsHaveRead n) (bytes_of files points) now.shelf.rest now.shelf.ended)
      → RunsCommand before now (Some (OnGrid name job)) ReadFault None
  points-fault now low only opens rose in_time stops =
      let failed = fails-then before middle now 1 1 points (PointsHaveRead grid.n) read.opened
      (record {
        only = only;
        opens = next-one _ _ (omega (arith, low)) opens;
        failed = rose;
        in_time = in_time;
        stops = λ files told. subst (λ (m : ℕ). StopsReading (PointsHaveRead m) (bytes_of files points)
            now.shelf.rest now.shelf.ended) n_is (stops files told);
      }) in
      read-failed before now name job 2 points (PointsHaveRead grid.n) failed (omega arith) keeps.two
      (record {
        file = 1;
        opened = failed.opens;
        before_script = λ scripted. stands-nothing before.sinks;
        at_file = λ files told.
            let at = failed.stops files told in
            file-fault _ _ now.shelf (OnGrid name job) files 1 points [] _ at keeps.second
            (grid, read.is_grid files told, keeps.has_read grid files at.read at.has_read)
            (stands-nothing before.sinks);
      })

  -- the refusal of a line of its points ended the command
  pub points-refused-runs : (last now : Moment) (status : Status) (refusal : Refusal) (text : List ℕ)
      → text ≡ line_refusal refusal → HasOpened middle last 1
      → ((files : List NamedFile) → middle.shelf.files ≡ Some files →
      points_in n (bytes_of files points) ≡ Err refusal)
      → TellsLast last now text ScriptRefused status → RunsCommand before now (Some (OnGrid name job)) status None
  points-refused-runs last now status refusal text is behind found tells =
      second-refused before middle last now name job grid 1 status read behind text refl keeps.two keeps.allowed
      keeps.no_engine
      (λ files told. subst (λ (t : List ℕ). IsJobOutcome job grid files (text_outcome t ScriptRefused 2)) (sym is)
      (keeps.refused grid files refusal
      (points-told n grid middle points (refused_points refusal) n_is found files told)))
      tells

-- the mesh and its line ended a fit that keeps points
pub kept-runs : (before middle last now : Moment) (name : List ℕ) (k : Keeping) (grid : HeightField) (status : Status)
    → ReadsGrid before middle name grid → HasOpened middle last 1
    → (points : List Point) (triangles : List ℕ) → HasEnded last.shelf
    → ((files : List NamedFile) → middle.shelf.files ≡ Some files
    → points_in grid.n (bytes_of files k.points) ≡ Ok points)
    → IsKept k.thousandths points grid triangles
    → EndsWith last now (fit_acts (fitting_of k) grid triangles) Done status
    → RunsCommand before now (Some (OnGrid name (Keep k))) status None
kept-runs before middle last now name k grid status read behind points triangles ended found kept ends =
    whole-runs before middle last now name (Keep k) grid 1 status read behind
    (fit_acts (fitting_of k) grid triangles) refl ended refl (λ text_alone. cc)
    (λ files told. subst (λ (a : Result (List Point) Refusal). IsKeepOutcome k grid a
    (plain_outcome (fit_acts (fitting_of k) grid triangles) Done 2)) (sym (found files told)) (triangles, kept, refl))
    ends
