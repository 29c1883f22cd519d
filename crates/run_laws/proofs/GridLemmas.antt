-- How a command on a grid ends: at its grid, at its line of facts, and at its script.
use Rattle.std.proofs.Common.{◌≡◌, ◌≢◌, ℕ, ◌+◌, ◌^◌, ◌≤◌, false, true, IsTrue, List, [], slice_get, Option}
use Rattle.std.proofs.Common.{Some, Result, Ok, refl, sym, ◌∙◌, ap, subst, arith}
use Rattle.std.proofs.Math.Nat.{min-eq_left}
use Rattle.mesh_defs.specs.HeightField.{HeightField}
use Rattle.mesh_defs.specs.State.{start_state}
use Rattle.roam_edge.specs.Fault.{next_count}
use Rattle.roam_edge.specs.Shelf.{NamedFile, bytes_of}
use Rattle.pgm_grid.specs.declared.fault.PgmFault.{PgmFault}
use Rattle.pgm_grid.specs.Progress.{grid_of}
use Rattle.run_laws.specs.declared.status.Status.{Status}
use Rattle.run_laws.specs.declared.status.Status.TheVariants as ends
use Rattle.run_laws.specs.Walk.{Walk, start_walk}
use Rattle.run_words.specs.Words.{Show, Scripted, Job, Frames, Command, OnGrid}
use Rattle.run_words.specs.Jobs.{Work, OfFrames, OfMesh, OfFacts, OfCertificate, OfCheck, File, job_row, names_of}
use Rattle.run_laws.specs.Picture.{Picture}
use Rattle.run_laws.specs.Act.{Act, Sinks, Stands}
use Rattle.run_laws.specs.Outcome.{Outcome, EngineEnd, shown_acts, IsGridOutcome}
use Rattle.run_laws.specs.Promise.{ShelfState, HasRead, FileReadFault, CommandReadFault, HasReadHeader}
use Rattle.run_words.specs.Jobs.{open_for, most_open}
use Rattle.run_laws.specs.Promise.{JobHasCome, CommandNoMemory, IsUndecided, is_complete}
use Rattle.run_laws.proofs.ActLemmas.{stands-nothing}
use Rattle.run_laws.proofs.StepLemmas.{come-read}
use Rattle.run_laws.specs.Maker.{TellsFrames, Begins, DoesAs, LeavesEngine, EndsScript, ScriptHasCome}
use Rattle.run_laws.specs.FileStop.{StopsReading}
use Rattle.run_laws.specs.Leaving.{CommandEnds}

-- a count that is far from its greatest value goes up by one
pub next-one : (before now : ℕ) → before ≤ 2 ^ 63 + 3 → now ≡ next_count before → now ≡ before + 1
next-one before now low is = is ∙ min-eq_left (omega (arith, low))

-- the same of a count of at most 2 ^ 63
pub next_count-one : (before now : ℕ) → before ≤ 2 ^ 63 → now ≡ next_count before → now ≡ before + 1
next_count-one before now low is = next-one before now (omega (arith, low)) is

-- a command ends as the outcome says that what its grid is read as leads to
pub ends-as : (before now : Sinks) (old new : ShelfState) (name : List ℕ) (job : Job) (files : List NamedFile)
    (answer : Result HeightField PgmFault) (end : Outcome) (status : Status)
    → grid_of (bytes_of files name) ≡ answer → IsGridOutcome job answer files end → new.opens ≡ old.opens + end.opened
    → DoesAs before now end status → (engine : Option EngineEnd) → (IsTrue (is_complete status) → engine ≡ end.engine)
    → CommandEnds before now old new (OnGrid name job) files status engine
ends-as before now old new name job files answer end status found is opened does engine left =
    let P : Result HeightField PgmFault → Type 0 = λ a. IsGridOutcome job a files end in
    record {
      ends = λ m r. (
        end,
        subst P (sym found) is,
        record { opened = opened; complete = does.complete; cut_short = does.cut_short },
        left,
      );
    }

-- a read of a command's file failed
pub file-fault : (before now : Sinks) (new : ShelfState) (command : Command) (files : List NamedFile) (k : ℕ)
    (name : List ℕ)
    (acts : List Act) (holds : List ℕ → Type 0)
    (at : StopsReading holds (bytes_of files name) new.rest new.ended) → slice_get (names_of command) k ≡ Some name →
    HasRead command files k at.read acts
    → Stands before now acts → FileReadFault before now new command files k
file-fault before now new command files k name acts holds at named has_read stands = record {
  name = name;
  read = at.read;
  unread = at.unread;
  acts = acts;
  named = named;
  cut = at.cut;
  not_opened = at.not_opened;
  left = at.left;
  has_read = has_read;
  stands = stands;
}

-- a read of its grid failed
pub grid-fault : (before : Sinks) (old new : ShelfState) (name : List ℕ) (job : Job) → new.opens ≡ old.opens + 1
    → ((files : List NamedFile) → old.files ≡ Some files →
    StopsReading IsUndecided (bytes_of files name) new.rest new.ended)
    → CommandReadFault before before old new (OnGrid name job)
grid-fault before old new name job opened stops = record {
  file = 0;
  opened = opened;
  before_script = λ first. stands-nothing before;
  at_file = λ files told_files.
      let at = stops files told_files in
      file-fault before before new (OnGrid name job) files 0 name [] IsUndecided at refl (at.has_read, refl)
      (stands-nothing before);
}

-- commands on grids are the same
pub same-name : (name other : List ℕ) (job job' : Job) → OnGrid name job ≡ OnGrid other job' → name ≡ other
same-name name other job job' e = cc

-- and so are their jobs
same-job : (name other : List ℕ) (job job' : Job) → OnGrid name job ≡ OnGrid other job' → job ≡ job'
same-job name other job job' e = cc

-- the grid is open where memory runs out
some-open : (work : Work) (files : List File) → 1 ≤ open_for work files
some-open (OfFrames show) files = omega arith
some-open (OfMesh prefix) files = omega arith
some-open OfFacts files = omega arith
some-open OfCertificate files = omega arith
some-open OfCheck files = omega arith

-- memory ran out at the grid
pub grid-memory : (before : Sinks) (old new : ShelfState) (name : List ℕ) (job : Job) → new.opens ≡ old.opens + 1
    → ((files : List NamedFile) → old.files ≡ Some files → HasReadHeader (bytes_of files name) new.rest)
    → CommandNoMemory before before old new (OnGrid name job)
grid-memory before old new name job opened header = record {
  opened = 1;
  count = opened;
  least = λ some. omega arith;
  most = some-open (job_row job).work (job_row job).files;
  stands = stands-nothing before;
  header = λ other job' files e told_files alone.
      let P : List ℕ → Type 0 = λ l. HasReadHeader (bytes_of files l) new.rest in
      subst P (same-name name other job job' e) (header files told_files);
  in_order = λ other job' files e told_files two. absurd (omega (arith, two));
}

-- memory ran out behind the grid, with so many files opened, of which the job accepted the earlier ones
pub behind-memory : (before : Sinks) (old new : ShelfState) (name : List ℕ) (job : Job) (grid : HeightField) (count : ℕ)
    → new.opens ≡ old.opens + count → 2 ≤ count → count ≤ most_open (OnGrid name job)
    → ((files : List NamedFile) → old.files ≡ Some files → grid_of (bytes_of files name) ≡ Ok grid)
    → ((files : List NamedFile) → old.files ≡ Some files → JobHasCome job grid files count)
    → CommandNoMemory before before old new (OnGrid name job)
behind-memory before old new name job grid count opens low high found come = record {
  opened = count;
  count = opens;
  least = λ some. omega (arith, low);
  most = high;
  stands = stands-nothing before;
  header = λ other job' files e told one. absurd (omega (arith, one, low));
  in_order = λ other job' files e told two. (
    grid,
    subst (λ (l : List ℕ). grid_of (bytes_of files l) ≡ Ok grid) (same-name name other job job' e) (found files told),
    subst (λ (j : Job). JobHasCome j grid files count) (same-job name other job job' e) (come files told),
  );
}

-- a run is complete only by a status that is
pub not-complete : (status end : Status) → is_complete end ≡ false → IsTrue (is_complete status) → status ≢ end
not-complete status end is_not is same = no (sym is_not ∙ ap is_complete (sym same) ∙ is)
  where
    no : false ≡ true → ⊥
    no e = cc

module _ (s : Scripted) (grid : HeightField) where
  -- the walk before the first line
  abbrev pub first_walk : Walk
  first_walk = start_walk s.budget (start_state grid s.spacing s.budget)

  -- what makes the frames follows it
  pub first-begins : 2 ≤ s.budget → 1 ≤ grid.n → grid.n ≤ 14 → (follows : Show → Walk → List Picture → Type 0) →
      follows s.show first_walk [] → TellsFrames s.show → Begins s.show follows first_walk
  first-begins low n_low n_high follows followed alone = record {
    starts = record { keeps = record { level = refl; low = low; frames = tt }; n_low = n_low; n_high = n_high };
    goes = refl;
    none = refl;
    first = refl;
    followed = followed;
    alone = alone;
  }

  module _ (before now : Sinks) (old new : ShelfState) (name : List ℕ) (opened : new.opens ≡ old.opens + 2) where
    -- the script ended
    pub script-ends : (files : List NamedFile) (status : Status) (follows : Show → Walk → List Picture →
        Type 0) (left : Option EngineEnd) → grid_of (bytes_of files name) ≡ Ok grid
        → ((end : Outcome) → IsTrue (is_complete status) → LeavesEngine s.show follows end → left ≡ end.engine)
        → (status ≢ ends.ReadFault → EndsScript before now s.show follows first_walk (bytes_of files s.script) status)
        → CommandEnds before now old new (OnGrid name (Frames s)) files status left
    script-ends files status follows left found leaves does = record {
      ends = λ memory fault.
          let did = does fault in
          let two : new.opens ≡ old.opens + did.0.opened =
          opened ∙ ap (λ (end : Outcome). old.opens + end.opened) (sym did.1.2) in
          (ends-as before now old new name (Frames s) files (Ok grid) did.0 status found did.1 two did.2 left
          (λ complete. leaves did.0 complete (did.3 complete))).ends memory fault;
    }

    -- a read of the script failed
    pub script-fault : ((files : List NamedFile) → old.files ≡ Some files → grid_of (bytes_of files name) ≡ Ok grid)
        → ((files : List NamedFile) → old.files ≡ Some files →
        StopsReading (ScriptHasCome before now s.show first_walk) (bytes_of files s.script) new.rest new.ended)
        → CommandReadFault before now old new (OnGrid name (Frames s))
    script-fault found stops = record {
      file = 1;
      opened = opened;
      before_script = λ first. absurd (apart (first refl));
      at_file = λ files told_files.
          let at = stops files told_files in
          let here = at.has_read.0 in
          let come = at.has_read.1 in
          file-fault before now new (OnGrid name (Frames s)) files 1 s.script
          (shown_acts s.show 1 here.pictures) _ at refl (
            grid,
            found files told_files,
            come-read before now s.show first_walk at.read here come s grid refl (λ bytes. refl),
          ) come.stands;
    }
      where
        apart : ◌≡◌ {A = ℕ} 1 0 → ⊥
        apart e = cc
