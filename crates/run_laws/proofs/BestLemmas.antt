-- The headlines follow from what stands after each status.
use Rattle.std.proofs.Common.{◌≡◌, ◌≢◌, ℕ, zero, suc, ◌≤◌, IsTrue, IsSome, List, [], ◌++◌, Option, Some, Result, Ok}
use Rattle.std.proofs.Common.{refl, sym, ◌∙◌, ap, subst, append_assoc, append-nil}
use Rattle.std.proofs.lemmas.Option.{same_Some, none-some}
use Rattle.mesh_defs.specs.HeightField.{HeightField}
use Rattle.mesh_defs.specs.State.{State, start_state}
use Rattle.roam_edge.specs.MeshSink.{WrittenMesh}
use Rattle.roam_edge.specs.Shelf.{NamedFile, bytes_of}
use Rattle.mesh_defs.specs.Priority.{priority_of}
use Rattle.mesh_defs.specs.View.{View}
use Rattle.mesh_defs.specs.Falling.{IsFalling}
use Rattle.obj_write.specs.Written.{Grows}
use Rattle.pgm_grid.specs.declared.fault.PgmFault.{PgmFault}
use Rattle.pgm_grid.specs.Progress.{grid_of}
use Rattle.pgm_grid.specs.Laws.{TextsAreRead}
use Rattle.run_laws.specs.declared.status.Status.{Status}
use Rattle.run_laws.specs.declared.status.Status.TheVariants.{Done, NoMemory, Usage, GridRefused, ScriptRefused}
use Rattle.run_laws.specs.declared.status.Status.TheVariants.{ReadFault, WriteFault, Rejected}
use Rattle.run_laws.specs.Walk.{Walk, start_walk, walk_of}
use Rattle.run_words.specs.Words.{Scripted, Checking, Frames, Check, Command, OnGrid, prefix_of, command_of}
use Rattle.run_laws.specs.CertFile.{cert_in}
use Rattle.run_laws.specs.Act.{Act, Sinks, Stands, report_of}
use Rattle.run_laws.specs.Picture.{Picture, ArePictures}
use Rattle.run_laws.specs.Outcome.{Outcome, shown_acts, script_walk, IsFramesOutcome, IsCheckOutcome, IsGridOutcome}
use Rattle.run_laws.specs.Outcome.{IsOutcome}
use Rattle.run_laws.specs.Promise.{ShelfState, is_complete, ends_script, EndsRight, ScriptHasRead, FileReadFault}
use Rattle.run_laws.specs.Promise.{LeavesAtReadFault, LeavesAtNoMemory}
use Rattle.run_laws.specs.Headline.{IsRunOf, KeepsGoodMeshes, IsCertifiedMesh}
use Rattle.run_laws.specs.Laws.{AreStates, BudgetsAreTwo}
use Rattle.run_laws.proofs.WalkLemmas.{walk_of-append, walk_of-grows}
use Rattle.run_laws.proofs.StepLemmas.{states-first}
use Rattle.run_laws.proofs.OutcomeLemmas.{command-budget, script-states}
use Rattle.run_laws.proofs.CertifyLemmas.{Certifies, check-certifies}
use Rattle.run_laws.proofs.HeadlineLemmas.{FramesAreBest, complete-keeps, first-keeps, cut-keeps, nothing-keeps}

-- an optional command that is there is one command
pub same-command : (xs ys : Command) → Some xs ≡ Some ys → xs ≡ ys
same-command xs ys e = cc

same-grid : (answer : Result HeightField PgmFault) (g h : HeightField) → answer ≡ Ok g → answer ≡ Ok h → g ≡ h
same-grid answer g h one two = cc

module _ (best : FramesAreBest) (two : BudgetsAreTwo) (read_texts : TextsAreRead) (words : List (List ℕ))
    (files : List NamedFile) (s : Scripted) (grid : HeightField)
    (run : IsRunOf words files (Frames s) grid) (shown : IsSome (prefix_of s.show)) (before now : Sinks)
    (old new : ShelfState)
    (all : List WrittenMesh)
    (told : old.files ≡ Some files) (there : before.meshes ≡ Some all) where
  abbrev script : List ℕ
  script = bytes_of files s.script

  abbrev Keeps : Status → Type 0
  Keeps status = KeepsGoodMeshes s grid script all now.meshes status

  read-grid : grid_of (bytes_of files run.grid_name) ≡ Ok grid
  read-grid = read_texts grid (bytes_of files run.grid_name) run.valid run.file_text

  low : 2 ≤ s.budget
  low = command-budget words run.grid_name (Frames s) run.is_command

  -- the outcome of the words is that of the script
  script-outcome : (end : Outcome) → IsOutcome (command_of words) files end →
      IsFramesOutcome s.show 2 (script_walk s grid script) end
  script-outcome end is =
      let P : Option Command → Type 0 = λ c. IsOutcome c files end in
      let Q : Result HeightField PgmFault → Type 0 = λ r. IsGridOutcome (Frames s) r files end in
      subst Q read-grid (subst P run.is_command is)

  -- frames that are the first of the script's
  first : (status : Status) → (IsTrue (ends_script status) → ⊥) → (firsts more : List State) (ps : List Picture) →
      (script_walk s grid script).frames ≡ firsts ++ more
      → ArePictures s.show [] firsts ps → Stands before now (shown_acts s.show 1 ps) → Keeps status
  first status unfinished firsts more ps cut pictures stands =
      let P : List State → Type 0 = λ l. AreStates grid.n l in
      first-keeps best two s grid script shown low before now all there status unfinished firsts more ps cut
      (states-first grid.n firsts more (subst P cut (script-states two s grid script low))) pictures stands

  nothing : (status : Status) → (IsTrue (ends_script status) → ⊥) → Stands before now [] → Keeps status
  nothing status unfinished stands =
      nothing-keeps best two s grid script shown low before now all there status unfinished
      (stands.meshes_grow all there ∙ ap Some (append-nil all))

  -- what the whole lines do that were read
  from-read : (status : Status) → (IsTrue (ends_script status) → ⊥) →
      (read unread : List ℕ) (acts : List Act) → script ≡ read ++ unread
      → ScriptHasRead s grid read acts → Stands before now acts → Keeps status
  from-read status unfinished read unread acts cut has stands =
      let start : Walk = start_walk s.budget (start_state grid s.spacing s.budget) in
      let here : Walk = script_walk s grid has.lines in
      let grown = walk_of-grows here (has.begun ++ unread) in
      let whole : script ≡ has.lines ++ (has.begun ++ unread) =
      cut ∙ (ap (λ (l : List ℕ). l ++ unread) has.cut ∙ append_assoc has.lines has.begun unread) in
      let P : List Act → Type 0 = λ l. Stands before now l in
      first status unfinished here.frames grown.0 has.pictures
      (ap (λ (l : List ℕ). (walk_of start l).frames) whole
      ∙ (ap (λ (w : Walk). w.frames) (walk_of-append start has.lines (has.begun ++ unread) has.whole) ∙ grown.1))
      has.shown (subst P has.done stands)

  at-file : (status : Status) → (IsTrue (ends_script status) → ⊥) → (k : ℕ) →
      FileReadFault before now new (OnGrid run.grid_name (Frames s)) files k → Keeps status
  at-file status unfinished zero fault =
      let P : List Act → Type 0 = λ l. Stands before now l in
      nothing status unfinished (subst P fault.has_read.1 fault.stands)
  at-file status unfinished (suc zero) fault =
      let has = fault.has_read in
      let P : HeightField → Type 0 = λ g. ScriptHasRead s g fault.read fault.acts in
      let name : s.script ≡ fault.name = same_Some s.script fault.name fault.named in
      from-read status unfinished fault.read fault.unread fault.acts (ap (bytes_of files) name ∙ fault.cut)
      (subst P (same-grid (grid_of (bytes_of files run.grid_name)) has.0 grid has.1 read-grid) has.2) fault.stands
  at-file status unfinished (suc (suc k)) fault = absurd (none-some fault.name fault.named)

  from-read-fault : (status : Status) → (IsTrue (ends_script status) → ⊥) →
      LeavesAtReadFault before now old new words → Keeps status
  from-read-fault status unfinished leaves =
      let P : Command → Type 0 = λ c. FileReadFault before now new c files leaves.leaves.file in
      at-file status unfinished leaves.leaves.file
      (subst P (same-command leaves.command (OnGrid run.grid_name (Frames s)) (sym leaves.is_command ∙ run.is_command))
      (leaves.leaves.at_file files told))

  complete : (status : Status) → IsTrue (is_complete status) → status ≢ NoMemory → status ≢ ReadFault →
      EndsRight before now old new words files status → Keeps status
  complete status done m r ends =
      let e = ends.ends m r in
      complete-keeps best two s grid script shown low before now all there status e.0
      (script-outcome e.0 e.1) (e.2.complete done).0

  -- whatever the status, the meshes are good
  pub run-keeps : (status : Status) → EndsRight before now old new words files status →
      (status ≡ ReadFault → LeavesAtReadFault before now old new words)
      → (status ≡ NoMemory → LeavesAtNoMemory before now old new words) → Keeps status
  run-keeps Done ends read memory = complete Done refl (λ e. cc) (λ e. cc) ends
  run-keeps NoMemory ends read memory = nothing NoMemory (λ e. cc) (memory refl).leaves.stands
  run-keeps Usage ends read memory = complete Usage refl (λ e. cc) (λ e. cc) ends
  run-keeps GridRefused ends read memory = complete GridRefused refl (λ e. cc) (λ e. cc) ends
  run-keeps ScriptRefused ends read memory = complete ScriptRefused refl (λ e. cc) (λ e. cc) ends
  run-keeps Rejected ends read memory = complete Rejected refl (λ e. cc) (λ e. cc) ends
  run-keeps ReadFault ends read memory = from-read-fault ReadFault (λ e. cc) (read refl)
  run-keeps WriteFault ends read memory =
      let e = ends.ends (λ f. cc) (λ f. cc) in
      cut-keeps best two s grid script shown low before now all there WriteFault (λ f. cc) e.0
      (script-outcome e.0 e.1) (e.2.cut_short refl)

-- the mesh of a check that is done

module _ (falling : (n : ℕ) (heights : List ℕ) (view : View) → IsFalling n (priority_of n heights view))
    (read_texts : TextsAreRead) (words : List (List ℕ)) (files : List NamedFile)
    (c : Checking) (grid : HeightField) (is : IsRunOf words files (Check c) grid)
    (before now : Sinks) (old new : ShelfState) where
  -- the outcome of the words is that of the check
  check-outcome : (end : Outcome) → IsOutcome (command_of words) files end →
      IsCheckOutcome c grid (cert_in grid.n (bytes_of files c.certificate)) (bytes_of files c.mesh) end
  check-outcome end of =
      let P : Option Command → Type 0 = λ o. IsOutcome o files end in
      let Q : Result HeightField PgmFault → Type 0 = λ r. IsGridOutcome (Check c) r files end in
      subst Q (read_texts grid (bytes_of files is.grid_name) is.valid is.file_text) (subst P is.is_command of)

  -- its line stands, and it certifies the mesh
  line-stands : (end : Outcome) → Stands before now end.acts → Certifies c grid (bytes_of files c.mesh) end
      → (line : List ℕ) × Grows before.report now.report line × IsCertifiedMesh c grid (bytes_of files c.mesh) line
  line-stands end stands certifies = (
    certifies.0,
    λ all told. stands.report_grows all told ∙ ap (λ (l : List ℕ). Some (all ++ l))
        (ap (λ (o : Outcome). report_of o.acts) certifies.2 ∙ append-nil certifies.0),
    certifies.1,
  )

  done-certified : (status : Status) → IsTrue (is_complete status) → EndsRight before now old new words files status →
      status ≢ NoMemory → status ≢ ReadFault → status ≡ Done
      → (line : List ℕ) × Grows before.report now.report line × IsCertifiedMesh c grid (bytes_of files c.mesh) line
  done-certified status complete ends m r done =
      let e = ends.ends m r in
      let stands = e.2.complete complete in
      line-stands e.0 stands.0 (check-certifies falling c grid (bytes_of files c.mesh) e.0 (sym stands.1 ∙ done)
      (cert_in grid.n (bytes_of files c.certificate)) (check-outcome e.0 e.1))

  -- where a check is done, the report got one line, by which its mesh is certified
  pub mesh-certified : (status : Status) → EndsRight before now old new words files status → status ≡ Done
      → (line : List ℕ) × Grows before.report now.report line × IsCertifiedMesh c grid (bytes_of files c.mesh) line
  mesh-certified status ends done =
      done-certified status (ap is_complete done) ends (λ e. cc) (λ e. cc) done
