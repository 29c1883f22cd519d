-- The headline of a fit follows from what stands after each status: whether it keeps points or not.
use Rattle.std.proofs.lemmas.List.Elements.{All-nil, All-cons}
use Rattle.std.proofs.Common.{◌≡◌, ◌≢◌, ℕ, true, false, IsTrue, List, [], ◌∷◌, ◌++◌, Some, Result, Ok}
use Rattle.std.proofs.Common.{inl, inr, refl, sym, ◌∙◌, ap, subst, append-nil, arith}
use Rattle.std.specs.List.{All}
use Rattle.mesh_defs.specs.declared.point.Point.{Point}
use Rattle.mesh_defs.specs.HeightField.{HeightField}
use Rattle.roam_edge.specs.MeshSink.{WrittenMesh}
use Rattle.roam_edge.specs.Shelf.{NamedFile, bytes_of}
use Rattle.pgm_grid.specs.Laws.{TextsAreRead}
use Rattle.roam_script.specs.PointText.{PointsAreInGrid}
use Rattle.obj_write.specs.Written.{mesh_with}
use Rattle.run_laws.specs.declared.status.Status.{Status}
use Rattle.run_laws.specs.declared.status.Status.TheVariants.{Done, NoMemory, Usage, GridRefused, ScriptRefused}
use Rattle.run_laws.specs.declared.status.Status.TheVariants.{ReadFault, WriteFault, Rejected}
use Rattle.run_words.specs.Words.{Fitting, Keeping, Job, Fit, Keep, Command, OnGrid, command_of}
use Rattle.run_words.specs.Jobs.{has_script}
use Rattle.run_laws.specs.Walk.{Refusal}
use Rattle.run_laws.specs.Fit.{IsFitFor, IsBestFit, IsKeptFor, IsFewestKeeping, fit_text}
use Rattle.run_laws.specs.PointFile.{points_in}
use Rattle.run_laws.specs.ReportText.{fit_line}
use Rattle.run_laws.specs.Act.{Act, WholeMesh, ReportText, Sinks, Stands, IsCutShort}
use Rattle.run_laws.specs.CutShort.{StandsInMesh}
use Rattle.run_laws.specs.Outcome.{Outcome, IsKeepOutcome, IsOutcome}
use Rattle.run_laws.specs.Promise.{ShelfState, is_complete, EndsRight, LeavesAtReadFault, LeavesAtNoMemory}
use Rattle.run_laws.specs.Headline.{IsRunOf, IsOneMeshOf, KeepsOneMesh, KeepsFitMesh, KeepsKeptMesh}
use Rattle.run_laws.proofs.BestLemmas.{same-command}
use Rattle.run_laws.proofs.CutShortLemmas.{mesh_cut}
use Rattle.run_laws.proofs.FitLemmas.{fit-best}
use Rattle.run_laws.proofs.FitCertifyLemmas.{job-outcome}
use Rattle.run_laws.proofs.KeepLemmas.{kept-best}
use Rattle.run_laws.proofs.PointFileLemmas.{points-in_grid}

-- the acts of an outcome are a mesh that is right, and then its line
abbrev IsOneMesh : List ℕ → ℕ → HeightField → (List ℕ → Type 0) → Outcome → Type 0
IsOneMesh begin spacing grid is_fit end = (triangles : List ℕ) × is_fit triangles
    × (end.acts ≡ WholeMesh begin 1 (fit_text spacing grid triangles) ∷ (ReportText (fit_line grid triangles) ∷ []))

-- Each outcome of these words is a mesh that is right, and its line. They name no script.
module _ (words : List (List ℕ)) (files : List NamedFile) (name : List ℕ) (job : Job)
    (is_command : command_of words ≡ Some (OnGrid name job)) (no_script : IsTrue (has_script (OnGrid name job)) → ⊥)
    (begin : List ℕ) (spacing : ℕ) (grid : HeightField) (is_best is_fit : List ℕ → Type 0)
    (best : (triangles : List ℕ) → is_fit triangles → is_best triangles)
    (one_mesh : (end : Outcome) → IsOutcome (command_of words) files end → IsOneMesh begin spacing grid is_fit end)
    (before now : Sinks) (old new : ShelfState) (all : List WrittenMesh) (there : before.meshes ≡ Some all) where
  abbrev Keeps : Status → Type 0
  Keeps status = KeepsOneMesh begin spacing grid is_best is_fit before now all status

  -- a mesh that is right if it is finished
  abbrev Fits : WrittenMesh → Type 0
  Fits mesh = mesh.finished ≡ true → IsOneMeshOf begin spacing grid is_best is_fit mesh

  one-fits : (mesh : WrittenMesh) → Fits mesh → All Fits (mesh ∷ [])
  one-fits mesh fits = All-cons Fits mesh [] fits (All-nil Fits)

  -- a whole mesh that is right
  whole-fits : (triangles : List ℕ) → is_fit triangles →
      All Fits (mesh_with begin 1 (fit_text spacing grid triangles) true ∷ [])
  whole-fits triangles fit = one-fits _ (λ finished. record {
    triangles = triangles;
    best = best triangles fit;
    fit = fit;
    is_mesh = refl;
  })

  -- nothing was done
  nothing : (status : Status) → status ≢ Done → Stands before now [] → Keeps status
  nothing status undone stands = record {
    added = [];
    behind = stands.meshes_grow all there;
    one = omega arith;
    fits = All-nil Fits;
    done = λ e. absurd (undone e);
  }

  -- all was done
  whole : (status : Status) (end : Outcome) → IsOneMesh begin spacing grid is_fit end →
      Stands before now end.acts → Keeps status
  whole status end is stands =
      let triangles : List ℕ = is.0 in
      let stood = subst (λ (acts : List Act). Stands before now acts) is.2 stands in
      record {
        added = mesh_with begin 1 (fit_text spacing grid triangles) true ∷ [];
        behind = stood.meshes_grow all there;
        one = omega arith;
        fits = whole-fits triangles is.1;
        done = λ e. (
          triangles,
          best triangles is.1,
          refl,
          λ report told. stood.report_grows report told
              ∙ ap (λ (l : List ℕ). Some (report ++ l)) (append-nil (fit_line grid triangles)),
        );
      }

  -- the mesh was cut short
  in-mesh : (status : Status) → status ≢ Done → (bytes : List ℕ) →
      StandsInMesh before now [] begin 1 bytes → Keeps status
  in-mesh status undone bytes part =
      let came = part.mesh all there in
      record {
        added = mesh_with begin 1 came.0 false ∷ [];
        behind = came.2;
        one = omega arith;
        fits = one-fits _ (λ e. cc);
        done = λ e. absurd (undone e);
      }

  -- or its line
  cut : (status : Status) → status ≢ Done → (end : Outcome) → IsOneMesh begin spacing grid is_fit end →
      IsCutShort before now end.acts → Keeps status
  cut status undone end is short =
      let triangles : List ℕ = is.0 in
      let bytes : List ℕ = fit_text spacing grid triangles in
      let at = subst (λ (acts : List Act). IsCutShort before now acts) is.2 short in
      elim (mesh_cut before now [] begin 1 bytes
      (fit_line grid triangles) at.done at.next at.owed at.in_order at.standing) [
        | inl none ↦ record {
          added = [];
          behind = none.meshes all there;
          one = omega arith;
          fits = All-nil Fits;
          done = λ e. absurd (undone e);
        }
        | inr (inl part) ↦ in-mesh status undone bytes part
        | inr (inr text) ↦ record {
          added = mesh_with begin 1 bytes true ∷ [];
          behind = text.meshes all there;
          one = omega arith;
          fits = whole-fits triangles is.1;
          done = λ e. absurd (undone e);
        }
      ]

  -- a read failed: that of the grid, or of the points
  at-read-fault : (status : Status) → status ≢ Done → LeavesAtReadFault before now old new words → Keeps status
  at-read-fault status undone leaves =
      let same = same-command leaves.command (OnGrid name job) (sym leaves.is_command ∙ is_command) in
      nothing status undone
      (leaves.leaves.before_script (λ is.
      absurd (no_script (subst (λ (c : Command). IsTrue (has_script c)) same is))))

  complete : (status : Status) → IsTrue (is_complete status) → status ≢ NoMemory → status ≢ ReadFault →
      EndsRight before now old new words files status → Keeps status
  complete status done m r ends =
      let e = ends.ends m r in
      whole status e.0 (one_mesh e.0 e.1) (e.2.complete done).0

  -- whatever the status, the mesh is a best one if it is finished
  one-keeps : (status : Status) → EndsRight before now old new words files status →
      (status ≡ ReadFault → LeavesAtReadFault before now old new words)
      → (status ≡ NoMemory → LeavesAtNoMemory before now old new words) → Keeps status
  one-keeps Done ends read memory = complete Done refl (λ e. cc) (λ e. cc) ends
  one-keeps NoMemory ends read memory = nothing NoMemory (λ e. cc) (memory refl).leaves.stands
  one-keeps Usage ends read memory = complete Usage refl (λ e. cc) (λ e. cc) ends
  one-keeps GridRefused ends read memory = complete GridRefused refl (λ e. cc) (λ e. cc) ends
  one-keeps ScriptRefused ends read memory = complete ScriptRefused refl (λ e. cc) (λ e. cc) ends
  one-keeps Rejected ends read memory = complete Rejected refl (λ e. cc) (λ e. cc) ends
  one-keeps ReadFault ends read memory = at-read-fault ReadFault (λ e. cc) (read refl)
  one-keeps WriteFault ends read memory =
      let e = ends.ends (λ f. cc) (λ f. cc) in
      cut WriteFault (λ f. cc) e.0 (one_mesh e.0 e.1) (e.2.cut_short refl)

-- whatever the status, the mesh of a fit is a best one if it is finished
pub fit-keeps : TextsAreRead → (words : List (List ℕ)) (files : List NamedFile) (f : Fitting) (grid : HeightField)
    (run : IsRunOf words files (Fit f) grid) (before now : Sinks) (old new : ShelfState) (all : List WrittenMesh)
    (there : before.meshes ≡ Some all) (status : Status) → EndsRight before now old new words files status →
    (status ≡ ReadFault → LeavesAtReadFault before now old new words)
    → (status ≡ NoMemory → LeavesAtNoMemory before now old new words) → KeepsFitMesh f grid before now all status
fit-keeps read_texts words files f grid run before now old new all there =
    one-keeps words files run.grid_name (Fit f) run.is_command (λ e. cc) f.prefix f.spacing grid
    (IsBestFit f.goal grid) (IsFitFor f.goal grid) (fit-best f.goal grid)
    (λ end is. (let of_job = job-outcome read_texts words files (Fit f) grid run end is in
    (of_job.0, of_job.1.fit, ap (λ (o : Outcome). o.acts) of_job.2)))
    before now old new all there

-- and that of a fit that keeps points is one of the fewest triangles that has them
pub kept-keeps : TextsAreRead → PointsAreInGrid → (words : List (List ℕ)) (files : List NamedFile) (k : Keeping)
    (grid : HeightField) (points : List Point) (run : IsRunOf words files (Keep k) grid)
    → points_in grid.n (bytes_of files k.points) ≡ Ok points
    → (before now : Sinks) (old new : ShelfState) (all : List WrittenMesh)
    (there : before.meshes ≡ Some all) (status : Status) → EndsRight before now old new words files status →
    (status ≡ ReadFault → LeavesAtReadFault before now old new words)
    → (status ≡ NoMemory → LeavesAtNoMemory before now old new words) →
    KeepsKeptMesh k points grid before now all status
kept-keeps read_texts in_grid words files k grid points run found before now old new all there =
    one-keeps words files run.grid_name (Keep k) run.is_command (λ e. cc) k.prefix k.spacing grid
    (IsFewestKeeping k.thousandths points grid) (IsKeptFor k.thousandths points grid)
    (kept-best k.thousandths points grid (points-in_grid in_grid grid.n (bytes_of files k.points) points found))
    (λ end is. (let P : Result (List Point) Refusal → Type 0 = λ r. IsKeepOutcome k grid r end in
    let of_job = subst P found (job-outcome read_texts words files (Keep k) grid run end is) in
    (of_job.0, of_job.1.fit, ap (λ (o : Outcome). o.acts) of_job.2)))
    before now old new all there
