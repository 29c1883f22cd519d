-- How a command on a grid is carried out: it stops at its grid, memory runs out, or one text ends it.
use Rattle.std.proofs.Math.Nat.{min-eq_left}
use Rattle.std.proofs.Common.{◌≡◌, ◌≢◌, ◌⊎◌, ◌↔◌, ℕ, ◌+◌, ◌^◌, ◌<◌, ◌≤◌, ◌&&◌, Bool, true, false, IsTrue, IsSome, List, []}
use Rattle.std.proofs.Common.{◌∷◌, suc, length, nat_lt, Option, None, Some, Result, Err, inl, inr, refl, sym, ◌∙◌, ap}
use Rattle.std.proofs.Common.{subst, arith}
use Rattle.std.proofs.lemmas.Bool.{lt-ltb}
use Rattle.roam_edge.specs.Fault.{Rose, next_count, IsInTime}
use Rattle.roam_edge.specs.Shelf.{NamedFile, bytes_of}
use Rattle.run_laws.specs.declared.status.Status.{Status}
use Rattle.run_laws.specs.declared.status.Status.TheVariants.{Done, NoMemory, Usage, GridRefused, ReadFault, WriteFault}
use Rattle.run_laws.specs.declared.status.Status.TheVariants.{ScriptRefused, Rejected}
use Rattle.run_words.specs.Words.{Show, Scripted, Job, Command, OnGrid, is_of_engine, Frames}
use Rattle.run_words.specs.Jobs.{Work, OfFrames, OfMesh, OfFacts, OfCertificate, OfCheck, File, job_row, file_names}
use Rattle.run_words.specs.Jobs.{names_of, file_count, is_check, open_for, most_open, is_of_text}
use Rattle.mesh_defs.specs.HeightField.{HeightField}
use Rattle.pgm_grid.specs.declared.fault.PgmFault.{PgmFault}
use Rattle.pgm_grid.specs.Progress.{grid_of}
use Rattle.run_laws.specs.Act.{Act, ReportText, Sinks, meshes_of}
use Rattle.run_laws.specs.Cause.{StatusHasCause, StatusWritesHaveCause}
use Rattle.run_laws.specs.Statement.{EndsByStatus}
use Rattle.run_laws.specs.ReportText.{grid_refusal}
use Rattle.run_laws.specs.Picture.{Picture}
use Rattle.run_laws.specs.Walk.{Walk}
use Rattle.run_laws.specs.Outcome.{Outcome, EngineEnd, plain_outcome, text_outcome, IsJobOutcome, IsGridOutcome}
use Rattle.run_laws.specs.Outcome.{IsCommandOutcome}
use Rattle.run_laws.specs.Promise.{ShelfState, HasEnded, HasReadHeader, IsUndecided, OpensForStatus, CommandReadFault}
use Rattle.run_laws.specs.Promise.{CommandNoMemory, is_complete, ends_script, may_end, leaves_engine}
use Rattle.run_laws.specs.Maker.{DoesAs, IsScriptEnd, LeavesEngine, EndsScript, ScriptHasCome}
use Rattle.run_laws.specs.FileStop.{StopsReading}
use Rattle.run_laws.specs.Moment.{Moment, OnlyReads, SameMeshes}
use Rattle.run_laws.specs.Leaving.{CommandEnds, RunsCommand, HasOpened, HasFailed, ReadsGrid, EndsWith, TellsLast}
use Rattle.run_laws.specs.Leaving.{LeavesByScript}
use Rattle.run_laws.proofs.ActLemmas.{stands-nothing}
use Rattle.run_laws.proofs.DoesLemmas.{same-in-time, same-meshes-then}
use Rattle.run_laws.proofs.GridLemmas.{next-one, not-complete, grid-fault, grid-memory, first_walk, script-ends}
use Rattle.run_laws.proofs.GridLemmas.{script-fault}
use Rattle.run_laws.proofs.StatementLemmas.{ends-by-status}

abbrev no-engine : Option EngineEnd
no-engine = None

-- no engine is left where the definitions leave none
pub none-left : (command : Option Command) (status : Status) → leaves_engine command status ≡ false
    → IsSome no-engine ↔ IsTrue (leaves_engine command status)
none-left command status is =
    let P : Bool → Type 0 = λ b. IsSome no-engine ↔ IsTrue b in
    subst P (sym is) ((λ e. e), (λ e. e))

and-false : (b : Bool) → (b && false) ≡ false
and-false true = refl
and-false false = refl

-- none is left of a command on a grid that was not carried out to its end or to a refusal of its script
none-unended : (name : List ℕ) (job : Job) (status : Status) → ends_script status ≡ false
    → leaves_engine (Some (OnGrid name job)) status ≡ false
none-unended name (Frames s) status is = ap (λ b. is_of_engine s.show && b) is ∙ and-false (is_of_engine s.show)
none-unended name job status is = refl

-- a command on a grid names a file
names-some : (name : List ℕ) (job : Job) → nat_lt 0 (length (names_of (OnGrid name job))) ≡ true
names-some name job = lt-ltb 0 (length (names_of (OnGrid name job))) (omega arith)

in-time-then : (late middle last : Bool) (faults : ℕ) → IsInTime late faults middle → last ≡ middle →
    IsInTime late faults last
in-time-then late middle last faults one same not_late none = same ∙ one not_late none

-- where memory runs out, no more files were opened than the command names
open-named : (work : Work) (files : List File) → open_for work files ≤ suc (length (file_names files))
open-named (OfFrames show) files = omega arith
open-named (OfMesh prefix) files = omega arith
open-named OfFacts files = omega arith
open-named OfCertificate files = omega arith
open-named OfCheck files = omega arith

most-named : (name : List ℕ) (job : Job) → most_open (OnGrid name job) ≤ file_count (Some (OnGrid name job))
most-named name job = open-named (job_row job).work (job_row job).files

-- reading calls no sink of meshes
reads-no-mesh : (before now : Moment) → OnlyReads before now → SameMeshes before now
reads-no-mesh before now only = record {
  meshes = ap (λ (t : Sinks). t.meshes) only.sinks;
  faults = ap (λ (t : Sinks). t.mesh_faults) only.sinks;
  under_way = only.under_way;
  late = only.mesh_late;
}

no-text : false ≡ true → ⊥
no-text e = cc

-- How often files were opened.

-- what this status says of it, where the words name so many files
abbrev pub OpensAt : ℕ → ℕ → ℕ → Status → Type 0
OpensAt before now files Done = now ≡ before + files
OpensAt before now files NoMemory = Unit {0}
OpensAt before now files Usage = now ≡ before
OpensAt before now files GridRefused = now ≡ before + 1
OpensAt before now files ScriptRefused = now ≡ before + 2
OpensAt before now files ReadFault = before + 1 ≤ now
OpensAt before now files WriteFault = 0 < files → before + 1 ≤ now
OpensAt before now files Rejected = before + 2 ≤ now

-- that is all, but for the most and the least
pub opens-at : (before now files : ℕ) (status : Status) → OpensAt before now files status → before ≤ now →
    now ≤ before + files → OpensForStatus before now files status
opens-at before now files status at least most = record {
  done = λ is. subst At is at;
  script_refused = λ is. subst At is at;
  grid_refused = λ is. subst At is at;
  usage = λ is. subst At is at;
  read_fault = λ is. subst At is at;
  write_fault = λ is. subst At is at;
  rejected = λ is. subst At is at;
  least = least;
  most = most;
}
  where
    At : Status → Type 0
    At one = OpensAt before now files one

-- Only the shelf was called, or nothing was.

pub reads-nothing : (now : Moment) → OnlyReads now now
reads-nothing now = record { files = refl; sinks = refl; under_way = refl; mesh_late = refl; report_late = refl }

-- where the sinks were not called, a run that is not done leaves the outside as it was but for the shelf
pub reads-run : (before now : Moment) (command : Option Command) (status : Status) → OnlyReads before now
    → IsInTime before.shelf_late before.shelf_faults now.shelf_late → status ≢ Done → status ≢ WriteFault
    → EndsByStatus before now command status None
    → OpensForStatus before.shelf.opens now.shelf.opens (file_count command) status
    → leaves_engine command status ≡ false → IsTrue (may_end command status)
    → (status ≡ ReadFault → Rose before.shelf_faults now.shelf_faults)
    → (status ≢ ReadFault → now.shelf_faults ≡ before.shelf_faults) → RunsCommand before now command status None
reads-run before now command status only in_time undone unwritten ends opens left allowed read not_read = record {
  ends = ends;
  leaves = record {
    files = only.files;
    idle = λ not. only.under_way;
    no_mesh = λ text. reads-no-mesh before now only;
    opens = opens;
    read_out = λ done some. absurd (undone done);
    engine = none-left command status left;
    shelf_in_time = in_time;
    meshes_in_time = same-in-time _ _ _ only.mesh_late;
    report_in_time = same-in-time _ _ _ only.report_late;
  };
  allowed = allowed;
  causes = record {
    read = read;
    not_read = not_read;
    writes = record {
      write = λ is. absurd (unwritten is);
      not_write = λ not. record {
        meshes_same = ap (λ (t : Sinks). t.mesh_faults) only.sinks;
        report_same = ap (λ (t : Sinks). t.report_faults) only.sinks;
      };
    };
  };
}

-- a read of one of a command's files failed, or its opening
pub read-failed : (before now : Moment) (name : List ℕ) (job : Job) (files : ℕ) (last : List ℕ)
    (holds : List ℕ → Type 0)
    → HasFailed before now files last holds → 1 ≤ files →
    files ≤ file_count (Some (OnGrid name job))
    → CommandReadFault before.sinks before.sinks before.shelf now.shelf (OnGrid name job)
    → RunsCommand before now (Some (OnGrid name job)) ReadFault None
read-failed before now name job files last holds read some within fault =
    reads-run before now (Some (OnGrid name job)) ReadFault read.only read.in_time (λ e. cc) (λ e. cc)
    (ends-by-status before now (OnGrid name job) ReadFault None
    (λ files are. record { ends = λ m r. absurd (r refl) })
    (λ is. (let P : Sinks → Type 0 = λ t. CommandReadFault before.sinks t before.shelf now.shelf (OnGrid name job) in
    subst P (sym read.only.sinks) fault))
    (λ e. cc))
    (opens-at before.shelf.opens now.shelf.opens (file_count (Some (OnGrid name job))) ReadFault
    (omega (arith, read.opens, some)) (omega (arith, read.opens)) (omega (arith, read.opens, within)))
    (none-unended name job ReadFault refl) (names-some name job) (λ e. read.failed) (λ not. absurd (not refl))

-- memory ran out once so many of a command's files were opened
pub memory-spent : (before now : Moment) (name : List ℕ) (job : Job) (files : ℕ) → HasOpened before now files
    → CommandNoMemory before.sinks before.sinks before.shelf now.shelf (OnGrid name job)
    → RunsCommand before now (Some (OnGrid name job)) NoMemory None
memory-spent before now name job files read spent =
    reads-run before now (Some (OnGrid name job)) NoMemory read.only read.in_time (λ e. cc) (λ e. cc)
    (ends-by-status before now (OnGrid name job) NoMemory None
    (λ files are. record { ends = λ m r. absurd (m refl) })
    (λ e. cc)
    (λ is. (let P : Sinks → Type 0 = λ t. CommandNoMemory before.sinks t before.shelf now.shelf (OnGrid name job) in
    subst P (sym read.only.sinks) spent)))
    (opens-at before.shelf.opens now.shelf.opens (file_count (Some (OnGrid name job))) NoMemory tt
    (omega (arith, spent.count)) (omega (arith, spent.count, spent.most, most-named name job)))
    (none-unended name job NoMemory refl) refl (λ e. cc) (λ not. read.faults)

module _ (before now : Moment) (name : List ℕ) (job : Job) (only : OnlyReads before now)
    (opened : now.shelf.opens ≡ before.shelf.opens + 1)
    (in_time : IsInTime before.shelf_late before.shelf_faults now.shelf_late) where
  -- a read of its grid failed, or its opening
  pub grid-failed : Rose before.shelf_faults now.shelf_faults
      → ((files : List NamedFile) → before.shelf.files ≡ Some files
      → StopsReading IsUndecided (bytes_of files name) now.shelf.rest now.shelf.ended)
      → RunsCommand before now (Some (OnGrid name job)) ReadFault None
  grid-failed rose stops =
      read-failed before now name job 1 name IsUndecided
      (record { only = only; opens = opened; failed = rose; in_time = in_time; stops = stops })
      (omega arith) (omega arith) (grid-fault before.sinks before.shelf now.shelf name job opened stops)

  -- memory ran out once so much of its grid was read
  pub grid-spent : now.shelf_faults ≡ before.shelf_faults
      → ((files : List NamedFile) → before.shelf.files ≡ Some files →
      HasReadHeader (bytes_of files name) now.shelf.rest)
      → RunsCommand before now (Some (OnGrid name job)) NoMemory None
  grid-spent calm header =
      memory-spent before now name job 1 (record { only = only; opens = opened; faults = calm; in_time = in_time })
      (grid-memory before.sinks before.shelf now.shelf name job opened header)

module _ (before middle now : Moment) (name : List ℕ) (job : Job) (k : ℕ) (read : HasOpened before middle k)
    (acts : List Act) (meant : Status)
    (outcome : (files : List NamedFile) → before.shelf.files ≡ Some files
    → IsCommandOutcome (OnGrid name job) files (plain_outcome acts meant k))
    (no_mesh : IsTrue (is_of_text (Some (OnGrid name job))) → meshes_of acts ≡ []) where
  abbrev named : Option Command
  named = Some (OnGrid name job)

  opens-now : (status : Status) → EndsWith middle now acts meant status → now.shelf.opens ≡ middle.shelf.opens
  opens-now status tells = ap (λ (s : ShelfState). s.opens) tells.shelf

  mesh-faults : middle.sinks.mesh_faults ≡ before.sinks.mesh_faults
  mesh-faults = ap (λ (t : Sinks). t.mesh_faults) read.only.sinks

  report-faults : middle.sinks.report_faults ≡ before.sinks.report_faults
  report-faults = ap (λ (t : Sinks). t.report_faults) read.only.sinks

  by-status : (status : Status) → status ≢ ReadFault → status ≢ NoMemory → EndsWith middle now acts meant status
      → OpensForStatus before.shelf.opens middle.shelf.opens (file_count named) status → IsTrue (may_end named status)
      → leaves_engine named status ≡ false → (status ≡ Done → HasEnded middle.shelf)
      → RunsCommand before now named status None
  by-status status not_read not_memory tells opens allowed left ended = record {
    ends = ends-by-status before now (OnGrid name job) status None
        (λ files are. record {
          ends = λ m r. (
            plain_outcome acts meant k,
            outcome files (are (omega arith)),
            record {
              opened = opens-now status tells ∙ read.opens;
              complete = (subst D read.only.sinks (tells.does k)).complete;
              cut_short = (subst D read.only.sinks (tells.does k)).cut_short;
            },
            λ complete. refl,
          );
        })
        (λ is. absurd (not_read is))
        (λ is. absurd (not_memory is));
    leaves = record {
      files = ap (λ (s : ShelfState). s.files) tells.shelf ∙ read.only.files;
      idle = λ not. tells.idle not ∙ read.only.under_way;
      no_mesh = λ text. same-meshes-then before middle now (reads-no-mesh before middle read.only)
          (tells.no_mesh (no_mesh text));
      opens = subst O (sym (opens-now status tells)) opens;
      read_out = λ done some. subst HasEnded (sym tells.shelf) (ended done);
      engine = none-left named status left;
      shelf_in_time = in-time-then _ _ _ _ read.in_time tells.shelf_late;
      meshes_in_time = λ not_late none. tells.meshes_in_time (read.only.mesh_late ∙ not_late) (mesh-faults ∙ none);
      report_in_time = λ not_late none. tells.report_in_time (read.only.report_late ∙ not_late) (report-faults ∙ none);
    };
    allowed = allowed;
    causes = record {
      read = λ is. absurd (not_read is);
      not_read = λ not. tells.shelf_faults ∙ read.faults;
      writes = subst W read.only.sinks tells.writes;
    };
  }
    where
      D : Sinks → Type 0
      D t = DoesAs t now.sinks (plain_outcome acts meant k) status

      O : ℕ → Type 0
      O opened = OpensForStatus before.shelf.opens opened (file_count named) status

      W : Sinks → Type 0
      W t = StatusWritesHaveCause t.mesh_faults now.sinks.mesh_faults t.report_faults now.sinks.report_faults status

  -- a command ended with acts that are those of its outcome
  pub acts-run : (status : Status) → EndsWith middle now acts meant status → 1 ≤ k → k ≤ file_count named
      → IsTrue (is_complete meant) → IsTrue (may_end named meant) → leaves_engine named meant ≡ false
      → OpensForStatus before.shelf.opens middle.shelf.opens (file_count named) meant →
      (meant ≡ Done → HasEnded middle.shelf)
      → RunsCommand before now named status None
  acts-run status tells some within complete allowed left opens ended = elim tells.ends [
    | inl is ↦ by-status status (λ e. not-complete meant ReadFault refl complete (sym is ∙ e))
        (λ e. not-complete meant NoMemory refl complete (sym is ∙ e)) tells
        (subst (λ (s : Status). OpensForStatus before.shelf.opens middle.shelf.opens (file_count named) s)
        (sym is) opens)
        (subst (λ (s : Status). IsTrue (may_end named s)) (sym is) allowed)
        (subst (λ (s : Status). leaves_engine named s ≡ false) (sym is) left)
        (λ done. ended (sym is ∙ done))
    | inr is ↦ by-status status (λ e. apart-read (sym is ∙ e)) (λ e. apart-memory (sym is ∙ e)) tells
        (subst (λ (s : Status). OpensForStatus before.shelf.opens middle.shelf.opens (file_count named) s)
        (sym is) cut-opens)
        (subst (λ (s : Status). IsTrue (may_end named s)) (sym is) refl)
        (subst (λ (s : Status). leaves_engine named s ≡ false) (sym is) (none-unended name job WriteFault refl))
        (λ done. absurd (apart-done (sym is ∙ done)))
  ]
    where
      apart-read : WriteFault ≢ ReadFault
      apart-read e = cc

      apart-memory : WriteFault ≢ NoMemory
      apart-memory e = cc

      apart-done : WriteFault ≢ Done
      apart-done e = cc

      cut-opens : OpensForStatus before.shelf.opens middle.shelf.opens (file_count named) WriteFault
      cut-opens =
          opens-at before.shelf.opens middle.shelf.opens (file_count named) WriteFault
          (λ any. omega (arith, read.opens, some)) (omega (arith, read.opens)) (omega (arith, read.opens, within))

-- one text ended a command
pub text-runs : (before middle now : Moment) (name : List ℕ) (job : Job) (k : ℕ) →
    HasOpened before middle k
    → (text : List ℕ) (meant : Status) → ((files : List NamedFile) → before.shelf.files ≡ Some files
    → IsCommandOutcome (OnGrid name job) files (text_outcome text meant k))
    → (status : Status) → TellsLast middle now text meant status → 1 ≤ k → k ≤ file_count (Some (OnGrid name job))
    → IsTrue (is_complete meant) → IsTrue (may_end (Some (OnGrid name job)) meant) →
    leaves_engine (Some (OnGrid name job)) meant ≡ false
    → OpensForStatus before.shelf.opens middle.shelf.opens (file_count (Some (OnGrid name job))) meant
    → (meant ≡ Done → HasEnded middle.shelf) → RunsCommand before now (Some (OnGrid name job)) status None
text-runs before middle now name job k read text meant outcome =
    acts-run before middle now name job k read (ReportText text ∷ []) meant outcome (λ text_alone. refl)

-- the refusal of its grid ended a command
pub grid-refused : (before middle now : Moment) (name : List ℕ) (job : Job) (fault : PgmFault)
    (text : List ℕ) (status : Status)
    → HasOpened before middle 1 → text ≡ grid_refusal fault
    → ((files : List NamedFile) → before.shelf.files ≡ Some files → grid_of (bytes_of files name) ≡ Err fault)
    → TellsLast middle now text GridRefused status → RunsCommand before now (Some (OnGrid name job)) status None
grid-refused before middle now name job fault text status read is refused tells =
    text-runs before middle now name job 1 read text GridRefused
    (λ files told. subst (λ (r : Result HeightField PgmFault).
    IsGridOutcome job r files (text_outcome text GridRefused 1)) (sym (refused files told))
    (ap (λ (t : List ℕ). text_outcome t GridRefused 1) is))
    status tells (omega arith) (omega arith) refl (names-some name job) (none-unended name job GridRefused refl)
    (opens-at before.shelf.opens middle.shelf.opens (file_count (Some (OnGrid name job))) GridRefused read.opens
    (omega (arith, read.opens)) (omega (arith, read.opens)))
    (λ e. cc)

-- a command whose only file is its grid ended with the acts of its job
pub job-runs : (before middle now : Moment) (name : List ℕ) (job : Job) (grid : HeightField)
    (acts : List Act) (status : Status)
    → ReadsGrid before middle name grid → file_count (Some (OnGrid name job)) ≡ 1
    → leaves_engine (Some (OnGrid name job)) Done ≡ false
    → ((files : List NamedFile) → IsJobOutcome job grid files (plain_outcome acts Done 1))
    → (IsTrue (is_of_text (Some (OnGrid name job))) → meshes_of acts ≡ [])
    → EndsWith middle now acts Done status → RunsCommand before now (Some (OnGrid name job)) status None
job-runs before middle now name job grid acts status read one left outcome no_mesh ends =
    acts-run before middle now name job 1 read.opened acts Done
    (λ files told. subst (λ (r : Result HeightField PgmFault). IsGridOutcome job r files (plain_outcome acts Done 1))
    (sym (read.is_grid files told)) (outcome files)) no_mesh
    status ends (omega arith) (omega arith) refl refl left
    (opens-at before.shelf.opens middle.shelf.opens (file_count (Some (OnGrid name job))) Done
    (omega (arith, read.opened.opens, one)) (omega (arith, read.opened.opens)) (omega (arith, read.opened.opens, one)))
    (λ e. read.ended)

-- or with one text
pub line-runs : (before middle now : Moment) (name : List ℕ) (job : Job) (grid : HeightField)
    (text : List ℕ) (status : Status)
    → ReadsGrid before middle name grid → file_count (Some (OnGrid name job)) ≡ 1
    → leaves_engine (Some (OnGrid name job)) Done ≡ false
    → ((files : List NamedFile) → IsJobOutcome job grid files (text_outcome text Done 1))
    → TellsLast middle now text Done status → RunsCommand before now (Some (OnGrid name job)) status None
line-runs before middle now name job grid text status read one left outcome tells =
    job-runs before middle now name job grid (ReportText text ∷ []) status read one left outcome
    (λ text_alone. refl) tells

-- memory ran out behind a grid that was read
pub spent-runs : (before now : Moment) (name : List ℕ) (job : Job) (grid : HeightField)
    → ReadsGrid before now name grid → RunsCommand before now (Some (OnGrid name job)) NoMemory None
spent-runs before now name job grid read =
    grid-spent before now name job read.opened.only read.opened.opens read.opened.in_time
    read.opened.faults read.header

-- a script was carried out over a grid that was read, by what makes its frames
module _ (before middle now : Moment) (name : List ℕ) (s : Scripted) (grid : HeightField)
    (few : before.shelf.opens ≤ 2 ^ 63) (read : ReadsGrid before middle name grid)
    (follows : Show → Walk → List Picture → Type 0) (left : Option EngineEnd) where
  abbrev scripted : Option Command
  scripted = Some (OnGrid name (Frames s))

  two-opens : (status : Status) → LeavesByScript middle now status → now.shelf.opens ≡ before.shelf.opens + 2
  two-opens status leaves =
      let one = read.opened.opens in
      let more : now.shelf.opens ≡ middle.shelf.opens + 1 = leaves.opens ∙ min-eq_left (omega (arith, few, one)) in
      omega (arith, one, more)

  script-allowed : (status : Status) → (status ≡ ReadFault) ⊎ IsScriptEnd status → IsTrue (may_end scripted status)
  script-allowed status (inl fault) = subst (λ (e : Status). IsTrue (may_end scripted e)) (sym fault) refl
  script-allowed status (inr (inl done)) = subst (λ (e : Status). IsTrue (may_end scripted e)) (sym done) refl
  script-allowed status (inr (inr (inl refused))) =
      subst (λ (e : Status). IsTrue (may_end scripted e)) (sym refused) refl
  script-allowed status (inr (inr (inr failed))) = subst (λ (e : Status). IsTrue (may_end scripted e)) (sym failed) refl

  script-opens : (status : Status) → (status ≡ ReadFault) ⊎ IsScriptEnd status →
      now.shelf.opens ≡ before.shelf.opens + 2
      → OpensForStatus before.shelf.opens now.shelf.opens 2 status
  script-opens status is opened =
      opens-at before.shelf.opens now.shelf.opens 2 status (at is) (omega (arith, opened)) (omega (arith, opened))
    where
      At : Status → Type 0
      At one = OpensAt before.shelf.opens now.shelf.opens 2 one

      at : (status ≡ ReadFault) ⊎ IsScriptEnd status → At status
      at (inl e) = let more : At ReadFault = omega (arith, opened) in subst At (sym e) more
      at (inr (inl e)) = subst At (sym e) opened
      at (inr (inr (inl e))) = subst At (sym e) opened
      at (inr (inr (inr e))) = let more : At WriteFault = λ any. omega (arith, opened) in subst At (sym e) more

  script-memory : (status : Status) → (status ≡ ReadFault) ⊎ IsScriptEnd status → status ≡ NoMemory → ⊥
  script-memory status (inl a) e = cc
  script-memory status (inr (inl a)) e = cc
  script-memory status (inr (inr (inl a))) e = cc
  script-memory status (inr (inr (inr a))) e = cc

  -- where the script ended, or a read of it failed, the command was carried out with this status and engine
  pub script-runs : (status : Status) → (status ≡ ReadFault) ⊎ IsScriptEnd status → LeavesByScript middle now status
      → (IsSome left ↔ IsTrue (leaves_engine scripted status))
      → ((end : Outcome) → IsTrue (is_complete status) → LeavesEngine s.show follows end → left ≡ end.engine)
      → ((files : List NamedFile) → before.shelf.files ≡ Some files → status ≢ ReadFault
      → EndsScript middle.sinks now.sinks s.show follows (first_walk s grid) (bytes_of files s.script) status)
      → (status ≡ ReadFault → (files : List NamedFile) → before.shelf.files ≡ Some files
      → StopsReading (ScriptHasCome middle.sinks now.sinks s.show (first_walk s grid))
      (bytes_of files s.script) now.shelf.rest now.shelf.ended)
      → RunsCommand before now scripted status left
  script-runs status is leaves engine same does stops =
      let opened = two-opens status leaves in
      let sinks = read.opened.only.sinks in
      record {
        ends = ends-by-status before now (OnGrid name (Frames s)) status left
            (λ files are. (let told = are (omega arith) in
            let P : Sinks → Type 0 =
            λ t. CommandEnds t now.sinks before.shelf now.shelf (OnGrid name (Frames s)) files status left in
            subst P sinks (script-ends s grid middle.sinks now.sinks before.shelf now.shelf name opened files status
            follows left (read.is_grid files told)
            same (does files told))))
            (λ fault. (let P : Sinks →
            Type 0 = λ t. CommandReadFault t now.sinks before.shelf now.shelf (OnGrid name (Frames s)) in
            subst P sinks (script-fault s grid middle.sinks now.sinks before.shelf now.shelf name opened read.is_grid
            (stops fault))))
            (λ memory. absurd (script-memory status is memory));
        leaves = record {
          files = leaves.files ∙ read.opened.only.files;
          idle = λ not. leaves.idle not ∙ read.opened.only.under_way;
          no_mesh = λ text. absurd (no-text text);
          opens = script-opens status is opened;
          read_out = λ done some. leaves.read_out done;
          engine = engine;
          shelf_in_time =
              λ not_late none. leaves.shelf_in_time (read.opened.in_time not_late none) (read.opened.faults ∙ none);
          meshes_in_time = λ not_late none. leaves.meshes_in_time (read.opened.only.mesh_late ∙ not_late)
              (ap (λ (t : Sinks). t.mesh_faults) sinks ∙ none);
          report_in_time = λ not_late none. leaves.report_in_time (read.opened.only.report_late ∙ not_late)
              (ap (λ (t : Sinks). t.report_faults) sinks ∙ none);
        };
        allowed = script-allowed status is;
        causes =
            subst (λ (t : Sinks). StatusHasCause before.shelf_faults now.shelf_faults t.mesh_faults
            now.sinks.mesh_faults
            t.report_faults now.sinks.report_faults status) sinks
            (subst (λ (k : ℕ). StatusHasCause k now.shelf_faults middle.sinks.mesh_faults now.sinks.mesh_faults
            middle.sinks.report_faults now.sinks.report_faults status) read.opened.faults leaves.causes);
      }

-- words that are no command do nothing
pub usage-runs : (now : Moment) (said : Option Command) → said ≡ None →
    RunsCommand now now said Usage None
usage-runs now said is =
    subst (λ (c : Option Command). RunsCommand now now c Usage None) (sym is)
    (reads-run now now None Usage (reads-nothing now) (same-in-time _ _ _ refl) (λ e. cc) (λ e. cc)
    (record {
      complete = λ e files are. record {
        end = plain_outcome [] Usage 0;
        is_outcome = refl;
        ends_so = refl;
        stands = stands-nothing now.sinks;
        opened = omega arith;
        engine = refl;
      };
      write_fault = λ e. cc;
      read_fault = λ e. cc;
      no_memory = λ e. cc;
    })
    (opens-at now.shelf.opens now.shelf.opens 0 Usage refl (omega arith) (omega arith))
    refl refl (λ e. cc) (λ not. refl))

-- and a command has another status
pub command-not-usage : (before now : Moment) (command : Command) (status : Status) (left : Option EngineEnd)
    → RunsCommand before now (Some command) status left → status ≡ Usage → ⊥
command-not-usage before now command status left runs is =
    not-allowed (subst (λ (s : Status). IsTrue (may_end (Some command) s)) is runs.allowed)
  where
    not-allowed : false ≡ true → ⊥
    not-allowed e = cc

-- A command that reads further files behind its grid, as a check does.

-- a file was opened, and no read of it failed
pub opens-one : (before now : Moment) → before.shelf.opens ≤ 2 ^ 63 + 3 → OnlyReads before now
    → now.shelf.opens ≡ next_count before.shelf.opens → now.shelf_faults ≡ before.shelf_faults
    → IsInTime before.shelf_late before.shelf_faults now.shelf_late → HasOpened before now 1
opens-one before now low only opens faults in_time =
    record { only = only; opens = next-one _ _ low opens; faults = faults; in_time = in_time }

-- only the shelf was called, and then only it was again
reads-then : (before middle now : Moment) → OnlyReads before middle → OnlyReads middle now → OnlyReads before now
reads-then before middle now one other = record {
  files = other.files ∙ one.files;
  sinks = other.sinks ∙ one.sinks;
  under_way = other.under_way ∙ one.under_way;
  mesh_late = other.mesh_late ∙ one.mesh_late;
  report_late = other.report_late ∙ one.report_late;
}

-- files were opened, and then more
pub opens-then : (before middle now : Moment) (files more : ℕ) → HasOpened before middle files →
    HasOpened middle now more
    → HasOpened before now (files + more)
opens-then before middle now files more one other = record {
  only = reads-then before middle now one.only other.only;
  opens = omega (arith, one.opens, other.opens);
  faults = other.faults ∙ one.faults;
  in_time = λ not_late none. other.in_time (one.in_time not_late none) (one.faults ∙ none);
}

-- files were opened, and then a read of a further one failed
pub fails-then : (before middle now : Moment) (files more : ℕ) (name : List ℕ) (holds : List ℕ → Type 0) →
    HasOpened before middle files
    → HasFailed middle now more name holds → HasFailed before now (files + more) name holds
fails-then before middle now files more name holds one other = record {
  only = reads-then before middle now one.only other.only;
  opens = omega (arith, one.opens, other.opens);
  failed = subst (λ (k : ℕ). Rose k now.shelf_faults) one.faults other.failed;
  in_time = λ not_late none. other.in_time (one.in_time not_late none) (one.faults ∙ none);
  stops = λ all told. other.stops all (one.only.files ∙ told);
}

-- a text that was written last, by other words for the text and for what it means
pub tells-as : {before now : Moment} {said text : List ℕ} {meant end status : Status} → said ≡ text → meant ≡ end
    → TellsLast before now said meant status → TellsLast before now text end status
tells-as {before = before} {now = now} {text = text} {meant = meant} {status = status} same is tells =
    subst (λ (s : Status). TellsLast before now text s status) is
    (subst (λ (t : List ℕ). TellsLast before now t meant status) same tells)

module _ (before middle last now : Moment) (name : List ℕ) (job : Job) (grid : HeightField) (more : ℕ)
    (status : Status) (read : ReadsGrid before middle name grid) (behind : HasOpened middle last more) where
  abbrev job-command : Option Command
  job-command = Some (OnGrid name job)

  all-opened : HasOpened before last (1 + more)
  all-opened = opens-then before middle last 1 more read.opened behind

  job-ends : (meant : Status) (acts : List Act)
      → ((files : List NamedFile) → middle.shelf.files ≡ Some files →
      IsJobOutcome job grid files (plain_outcome acts meant (1 + more)))
      → (files : List NamedFile) → before.shelf.files ≡ Some files
      → IsCommandOutcome (OnGrid name job) files (plain_outcome acts meant (1 + more))
  job-ends meant acts outcome files told =
      subst (λ (r : Result HeightField PgmFault). IsGridOutcome job r files (plain_outcome acts meant (1 + more)))
      (sym (read.is_grid files told)) (outcome files (read.opened.only.files ∙ told))

  -- a command that read all its files ended with the acts of its job
  pub whole-runs : (acts : List Act) → 1 + more ≡ file_count job-command → HasEnded last.shelf
      → leaves_engine job-command Done ≡ false
      → (IsTrue (is_of_text job-command) → meshes_of acts ≡ [])
      → ((files : List NamedFile) → middle.shelf.files ≡ Some files →
      IsJobOutcome job grid files (plain_outcome acts Done (1 + more)))
      → EndsWith last now acts Done status → RunsCommand before now job-command status None
  whole-runs acts whole ended left no_mesh outcome ends =
      acts-run before last now name job (1 + more) all-opened acts Done (job-ends Done acts outcome) no_mesh status ends
      (omega arith) (omega (arith, whole)) refl refl left
      (opens-at before.shelf.opens last.shelf.opens (file_count job-command) Done
      (omega (arith, all-opened.opens, whole)) (omega (arith, all-opened.opens))
      (omega (arith, all-opened.opens, whole)))
      (λ e. ended)

  -- a check ended with the line that a mesh is certified
  pub certified-runs : (text : List ℕ) → 1 + more ≡ file_count job-command → HasEnded last.shelf
      → leaves_engine job-command Done ≡ false
      → ((files : List NamedFile) → middle.shelf.files ≡ Some files →
      IsJobOutcome job grid files (text_outcome text Done (1 + more)))
      → TellsLast last now text Done status → RunsCommand before now job-command status None
  certified-runs text whole ended left outcome tells =
      whole-runs (ReportText text ∷ []) whole ended left (λ text_alone. refl) outcome tells

  -- a check ended with the line that it rejects its certificate or its mesh
  pub rejected-runs : (text : List ℕ) → 1 ≤ more → 1 + more ≤ file_count job-command
      → IsTrue (is_check (OnGrid name job)) → leaves_engine job-command Rejected ≡ false
      → ((files : List NamedFile) → middle.shelf.files ≡ Some files →
      IsJobOutcome job grid files (text_outcome text Rejected (1 + more)))
      → TellsLast last now text Rejected status → RunsCommand before now job-command status None
  rejected-runs text some most check left outcome tells =
      text-runs before last now name job (1 + more) all-opened text Rejected
      (job-ends Rejected (ReportText text ∷ []) outcome) status tells
      (omega arith) most refl check left
      (opens-at before.shelf.opens last.shelf.opens (file_count job-command) Rejected
      (omega (arith, all-opened.opens, some)) (omega (arith, all-opened.opens)) (omega (arith, all-opened.opens, most)))
      (λ e. cc)

  -- a command ended with the line that its second file is refused
  pub second-refused : (text : List ℕ) → more ≡ 1 → 2 ≤ file_count job-command
      → IsTrue (may_end job-command ScriptRefused) → leaves_engine job-command ScriptRefused ≡ false
      → ((files : List NamedFile) → middle.shelf.files ≡ Some files →
      IsJobOutcome job grid files (text_outcome text ScriptRefused (1 + more)))
      → TellsLast last now text ScriptRefused status → RunsCommand before now job-command status None
  second-refused text one two allowed left outcome tells =
      text-runs before last now name job (1 + more) all-opened text ScriptRefused
      (job-ends ScriptRefused (ReportText text ∷ []) outcome) status tells
      (omega arith) (omega (arith, one, two)) refl allowed left
      (opens-at before.shelf.opens last.shelf.opens (file_count job-command) ScriptRefused
      (omega (arith, all-opened.opens, one)) (omega (arith, all-opened.opens))
      (omega (arith, all-opened.opens, one, two)))
      (λ e. cc)
