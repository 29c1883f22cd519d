-- A certificate and a mesh are judged: what the calls of a check come to.
use Rattle.std.proofs.Common.{◌≡◌, ℕ, ◌+◌, ◌*◌, ◌≤◌, inl, inr, List, [], ◌∷◌, slice_get, Some, None, Ok, All, refl, ◌∙◌}
use Rattle.std.proofs.Common.{subst, arith}
use Rattle.std.specs.List.{AllByRecursion}
use Rattle.std.proofs.lemmas.List.Elements.{recursion_from_All, All-from_recursion}
use Rattle.mesh_defs.specs.HeightField.{HeightField}
use Rattle.mesh_defs.specs.Triangle.{level_of, IsAddress}
use Rattle.bintree_laws.proofs.LevelLemmas.{level-le}
use Rattle.roam_edge.specs.Shelf.{NamedFile, bytes_of}
use Rattle.pgm_grid.specs.Progress.{grid_of}
use Rattle.certificate_laws.specs.declared.reason.Reject.{Reject}
use Rattle.certificate_laws.specs.declared.reason.Reject.TheVariants.{BadLine, NotConforming, OverBudget, BadReason}
use Rattle.certificate_laws.specs.declared.reason.Reject.TheVariants.{TooFewReasons, MeshDiffers}
use Rattle.run_laws.specs.declared.status.Status.{Status}
use Rattle.run_laws.specs.declared.status.Status.TheVariants.{Done, NoMemory, ReadFault}
use Rattle.run_laws.specs.declared.status.Status.TheVariants as ends
use Rattle.run_words.specs.Words.{Checking, Check, Job, OnGrid}
use Rattle.run_words.specs.Jobs.{names_of, file_count, most_open}
use Rattle.run_laws.specs.ReportText.{rejection}
use Rattle.run_laws.specs.Outcome.{text_outcome, IsJobOutcome}
use Rattle.run_laws.specs.Promise.{HasEnded, HasRead, JobHasCome}
use Rattle.run_laws.specs.Moment.{Moment}
use Rattle.run_laws.specs.Leaving.{RunsCommand, HasOpened, HasFailed, ReadsGrid, TellsLast}
use Rattle.run_laws.proofs.ActLemmas.{stands-nothing}
use Rattle.run_laws.proofs.GridLemmas.{file-fault, behind-memory}
use Rattle.run_laws.proofs.RunLemmas.{read-failed, memory-spent, opens-then, fails-then, certified-runs, rejected-runs}
use Rattle.run_laws.proofs.RunLemmas.{tells-as}
use Rattle.run_certify.specs.declared.verdict_report.Judgement.{Judgement}
use Rattle.run_certify.specs.declared.verdict_report.Judgement.TheVariants.{Certified, Rejected}
use Rattle.run_certify.specs.Judging.{judged_text, judged_status, mesh_opens, IsJudged, IsFaultlessFile, JudgesNoMemory}
use Rattle.run_certify.specs.Judging.{JudgesFault}

-- triangles of the grid have levels of the grid
levels-recursion : (n : ℕ) (leaves : List ℕ) → AllByRecursion (IsAddress n) leaves →
    AllByRecursion (λ a. level_of a ≤ 2 * n) leaves
levels-recursion n [] are = tt
levels-recursion n (a ∷ leaves) are = (level-le n a are.0, levels-recursion n leaves are.1)

pub leaf-levels : (n : ℕ) (leaves : List ℕ) → All (IsAddress n) leaves → All (λ a. level_of a ≤ 2 * n) leaves
leaf-levels n leaves are =
    All-from_recursion (λ a. level_of a ≤ 2 * n) leaves
    (levels-recursion n leaves (recursion_from_All (IsAddress n) leaves are))

-- A command that judges behind so many files.

-- memory ran out, with the certificate opened or with the mesh too
pub judges-memory : (before middle now : Moment) (name : List ℕ) (job : Job) (grid : HeightField) (behind : ℕ)
    (faultless_file : List NamedFile → Type 0) → HasOpened before middle behind
    → 1 ≤ behind → behind + 2 ≤ most_open (OnGrid name job)
    → ((files : List NamedFile) → before.shelf.files ≡ Some files → grid_of (bytes_of files name) ≡ Ok grid)
    → ((count : ℕ) (files : List NamedFile) → before.shelf.files ≡ Some files
    → (behind + 2 ≤ count → faultless_file files) → JobHasCome job grid files count)
    → JudgesNoMemory faultless_file middle now → RunsCommand before now (Some (OnGrid name job)) NoMemory None
judges-memory before middle now name job grid behind faultless_file read some most is_grid come (inl one) =
    let opened = opens-then before middle now behind 1 read one in
    memory-spent before now name job (behind + 1) opened
    (behind-memory _ _ _ name job grid (behind + 1) opened.opens (omega (arith, some)) (omega (arith, most)) is_grid
    (λ files told. come (behind + 1) files told (λ more. absurd (omega (arith, more)))))
judges-memory before middle now name job grid behind faultless_file read some most is_grid come (inr (two, faultless)) =
    let opened = opens-then before middle now behind 2 read two in
    memory-spent before now name job (behind + 2) opened
    (behind-memory _ _ _ name job grid (behind + 2) opened.opens (omega (arith, some)) most is_grid
    (λ files told. come (behind + 2) files told (λ more. faultless files (read.only.files ∙ told))))

-- a read of the next file failed, and what was read of it is what the command reads there
pub judges-fault : (before now : Moment) (name : List ℕ) (job : Job) (behind : ℕ) (last : List ℕ)
    (holds : List ℕ → Type 0) → HasFailed before now (behind + 1) last holds
    → behind + 1 ≤ file_count (Some (OnGrid name job)) → slice_get (names_of (OnGrid name job)) behind ≡ Some last
    → ((files : List NamedFile) → before.shelf.files ≡ Some files → (read : List ℕ) → holds read →
    HasRead (OnGrid name job) files behind read [])
    → RunsCommand before now (Some (OnGrid name job)) ReadFault None
judges-fault before now name job behind last holds failed within named has_read =
    read-failed before now name job (behind + 1) last holds failed (omega arith) within (record {
      file = behind;
      opened = failed.opens;
      before_script = λ scripted. stands-nothing before.sinks;
      at_file = λ files told.
          let at = failed.stops files told in
          file-fault _ _ now.shelf (OnGrid name job) files behind last [] holds at named
          (has_read files told at.read at.has_read) (stands-nothing before.sinks);
    })

module _ (before middle now : Moment) (name : List ℕ) (c : Checking) (grid : HeightField)
    (read : ReadsGrid before middle name grid) where
  -- memory ran out behind the grid
  pub check-memory : JudgesNoMemory (IsFaultlessFile c grid) middle now →
      RunsCommand before now (Some (OnGrid name (Check c))) NoMemory None
  check-memory = judges-memory before middle now name (Check c) grid 1 (IsFaultlessFile c grid) read.opened
      (omega arith) (omega arith) read.is_grid (λ count files told faultless. faultless)

  -- a read failed behind the grid
  pub check-fault : JudgesFault c grid middle now → RunsCommand before now (Some (OnGrid name (Check c))) ReadFault None
  check-fault (inl one) =
      judges-fault before now name (Check c) 1 c.certificate _
      (fails-then before middle now 1 1 c.certificate _ read.opened one) (omega arith) refl
      (λ files told part has_read. (grid, read.is_grid files told, (has_read, refl)))
  check-fault (inr (cert, is, faultless, two)) =
      judges-fault before now name (Check c) 2 c.mesh _
      (fails-then before middle now 1 2 c.mesh _ read.opened two) (omega arith) refl
      (λ files told part has_read. (
        grid,
        read.is_grid files told,
        ((cert, is files (read.opened.only.files ∙ told), faultless, has_read), refl),
      ))

module _ (before middle last now : Moment) (name : List ℕ) (c : Checking) (grid : HeightField)
    (text : List ℕ) (meant status : Status)
    (read : ReadsGrid before middle name grid) where
  -- the line of a judgement ends a check
  pub check-runs : (judgement : Judgement) → HasOpened middle last (1 + mesh_opens judgement)
      → (judged_status judgement ≡ Done → HasEnded last.shelf)
      → ((files : List NamedFile) → middle.shelf.files ≡ Some files → IsJudged c grid files judgement)
      → text ≡ judged_text judgement → meant ≡ judged_status judgement → TellsLast last now text meant status
      → RunsCommand before now (Some (OnGrid name (Check c))) status None
  check-runs (Certified camera triangles worst) opened ended judged is_text is_end tells =
      certified-runs before middle last now name (Check c) grid 2 status read opened _ refl (ended refl) refl judged
      (tells-as is_text is_end tells)
  check-runs (Rejected why) opened ended judged is_text is_end tells =
      rejected-runs before middle last now name (Check c) grid
      (1 + mesh_opens (Rejected why)) status read opened _
      (omega arith) (let most = two-most why in omega (arith, most)) refl refl
      (λ files told. subst (λ (k : ℕ). IsJobOutcome (Check c) grid files (text_outcome (rejection why) ends.Rejected k))
      (one-more (mesh_opens (Rejected why))) (judged files told))
      (tells-as is_text is_end tells)
    where
      one-more : (k : ℕ) → 2 + k ≡ 1 + (1 + k)
      one-more k = omega arith

      two-most : (why : Reject) → 1 + mesh_opens (Rejected why) ≤ 2
      two-most (BadLine line) = omega arith
      two-most NotConforming = omega arith
      two-most OverBudget = omega arith
      two-most (BadReason index) = omega arith
      two-most TooFewReasons = omega arith
      two-most (MeshDiffers place) = omega arith
