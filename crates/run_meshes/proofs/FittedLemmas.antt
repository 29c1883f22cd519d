-- A frame is the mesh of its goal; and that mesh, written or cut short, ends the command.
use Rattle.std.proofs.Common.{◌≡◌, ℕ, ◌-◌, ◌^◌, ◌<◌, ◌≤◌, List, [], ◌∷◌, length, None, Some, inl, inr, refl}
use Rattle.std.proofs.Common.{sym, ◌∙◌, ap, subst, arith, lit<}
use Rattle.std.proofs.Math.Nat.{pow-le-pow_right}
use Rattle.std.proofs.lemmas.Bool.{cases_lt}
use Rattle.mesh_defs.specs.HeightField.{HeightField}
use Rattle.mesh_defs.specs.ClosedSet.{leaves_of}
use Rattle.mesh_defs.specs.MeshText.{vertices_of}
use Rattle.mesh_defs.specs.Priority.{worst_of}
use Rattle.mesh_laws.specs.Ancestors.{ancestors_of}
use Rattle.mesh_laws.proofs.LeafLemmas.{leaves-most}
use Rattle.fit_laws.specs.PlaneHeight.{deviation_of}
use Rattle.mesh_laws.specs.Least.{IsLeastMesh}
use Rattle.fit_laws.specs.Error.{error_of}
use Rattle.fit_laws.specs.Budget.{IsBudgetMesh}
use Rattle.fit_laws.proofs.FitLemmas.{fit_found, fit_mesh}
use Rattle.fit_laws.proofs.ErrorLemmas.{error-finest, worst-deviation}
use Rattle.run_laws.specs.declared.status.Status.{Status}
use Rattle.run_laws.specs.declared.status.Status.TheVariants.{Done}
use Rattle.run_words.specs.Words.{Goal, AtError, InBudget, Fitting, Fit, OnGrid}
use Rattle.run_laws.specs.Fit.{tolerance_of, IsFitFor, fit_text}
use Rattle.run_laws.specs.Act.{Act, WholeMesh, ReportText}
use Rattle.run_laws.specs.Outcome.{plain_outcome, fit_acts}
use Rattle.run_laws.specs.Moment.{Moment}
use Rattle.run_laws.specs.Leaving.{RunsCommand, ReadsGrid, EndsWith}
use Rattle.run_laws.proofs.RunLemmas.{job-runs}
use Rattle.run_meshes.specs.declared.fitted.Fitted.{Fitted}
use Rattle.run_meshes.specs.FittedSeen.{tolerance_for, budget_for, IsFittedTo, fit_numbers, fitted_acts}

-- what a frame gives for a tolerance and a budget
pub record IsFramed (f : Fitted) (seen : HeightField) (tolerance budget : ℕ) : Type 0 where
  pub least : IsLeastMesh seen.n f.note.deviation (error_of seen.n seen.heights) f.fit.leaves
  pub fewest : f.note.deviation ≤ tolerance → IsLeastMesh seen.n tolerance (error_of seen.n seen.heights) f.fit.leaves
  pub best : tolerance < f.note.deviation → IsBudgetMesh seen.n budget (error_of seen.n seen.heights) f.fit.leaves
  pub in_order : leaves_of seen.n (ancestors_of f.fit.leaves) ≡ f.fit.leaves
  pub deviation : f.note.deviation ≡ deviation_of seen.n seen.heights f.fit.leaves
  pub triangles : f.note.triangles ≡ length f.fit.leaves
  pub vertices : f.note.vertices ≡ length (vertices_of seen.n f.fit.leaves)
  pub within : length f.fit.leaves ≤ budget

module _ (f : Fitted) (grid : HeightField) (low : grid.n ≤ 14) where
  abbrev error : ℕ → ℕ
  error = error_of grid.n grid.heights

  -- the deviation is the worst error
  worst-is : (tolerance budget : ℕ) → IsFramed f grid tolerance budget → f.note.deviation ≡ worst_of error f.fit.leaves
  worst-is tolerance budget is = is.deviation ∙ sym (worst-deviation grid.n grid.heights f.fit.leaves)

  -- all finest triangles are no more than the greatest budget, so a frame is within each tolerance
  all-near : (tolerance : ℕ) → IsFramed f grid tolerance (2 ^ 32 - 1) → tolerance < f.note.deviation → ⊥
  all-near tolerance is over =
      let found = fit_found grid.n 0 error (error-finest grid.n grid.heights) in
      let mesh = fit_mesh grid.n 0 error found.0 found.1 in
      let most = leaves-most grid.n found.0 in
      let finest : 4 ^ grid.n ≤ 4 ^ 14 = pow-le-pow_right (lit< tt) low in
      let few : length (leaves_of grid.n found.0) ≤ 2 ^ 32 - 1 = omega (arith, most, finest) in
      let near = (is.best over).optimal (leaves_of grid.n found.0) mesh.conforming few in
      let none = mesh.within in
      let worst = worst-is tolerance (2 ^ 32 - 1) is in
      omega (arith, near, none, worst, over)

  -- a mesh without an error is one of the least error
  no-error : (budget : ℕ) → IsFramed f grid 0 budget → f.note.deviation ≤ 0 →
      IsBudgetMesh grid.n budget error f.fit.leaves
  no-error budget is none =
      let worst = worst-is 0 budget is in
      let P : ℕ → Type 0 = λ k. IsLeastMesh grid.n k error f.fit.leaves in
      record {
        within = is.within;
        optimal = λ others conforming few. omega (arith, worst, none);
        least = subst P worst is.least;
      }

  -- so it is the mesh of its goal
  frame-fits : (goal : Goal) → IsFramed f grid (tolerance_for grid.n goal) (budget_for goal) →
      IsFitFor goal grid f.fit.leaves
  frame-fits (AtError thousandths) is =
      let tolerance : ℕ = tolerance_of grid.n thousandths in
      elim (cases_lt tolerance f.note.deviation) [
        | inl over ↦ absurd (all-near tolerance is over)
        | inr near ↦ is.fewest near
      ]
  frame-fits (InBudget budget) is =
      elim (cases_lt 0 f.note.deviation) [
        | inl over ↦ is.best over
        | inr none ↦ no-error budget is none
      ]

-- of the grid that was read, at the tolerance and the budget of the goal
pub framed-fitted : (f : Fitted) (goal : Goal) (grid seen : HeightField) (tolerance budget : ℕ) → grid.n ≤ 14 →
    seen ≡ grid → f.grid ≡ grid → f.fit.n ≡ grid.n
    → tolerance ≡ tolerance_for grid.n goal → budget ≡ budget_for goal → IsFramed f seen tolerance budget →
    IsFittedTo f goal grid
framed-fitted f goal grid seen tolerance budget low same grid_is level tolerance_is budget_is framed =
    let P : HeightField → Type 0 = λ g. IsFramed f g tolerance budget in
    let Q : ℕ → Type 0 = λ k. IsFramed f grid k budget in
    let R : ℕ → Type 0 = λ k. IsFramed f grid (tolerance_for grid.n goal) k in
    let is = subst R budget_is (subst Q tolerance_is (subst P same framed)) in
    record {
      same_grid = grid_is;
      level = level;
      fitted = record { fit = frame-fits f grid low goal is; in_order = is.in_order };
      triangles = is.triangles;
      vertices = is.vertices;
      deviation = is.deviation;
    }

-- what is done with the mesh is what the outcome says
pub acts-fitted : (w : Fitting) (f : Fitted) (grid : HeightField) → f.grid ≡ grid
    → f.note.triangles ≡ length f.fit.leaves → f.note.vertices ≡ length (vertices_of grid.n f.fit.leaves)
    → f.note.deviation ≡ deviation_of grid.n grid.heights f.fit.leaves
    → fitted_acts w.prefix w.spacing f ≡ fit_acts w grid f.fit.leaves
acts-fitted w f grid same_grid triangles_is vertices_is deviation_is =
    let leaves : List ℕ = f.fit.leaves in
    let acts : HeightField → ℕ → ℕ → ℕ → List Act = λ field triangles vertices deviation.
    WholeMesh w.prefix 1 (fit_text w.spacing field leaves)
    ∷ (ReportText (fit_numbers field.n triangles vertices deviation) ∷ []) in
    ap (λ (field : HeightField). acts field f.note.triangles f.note.vertices f.note.deviation) same_grid
    ∙ (ap (λ (k : ℕ). acts grid k f.note.vertices f.note.deviation) triangles_is
    ∙ (ap (λ (k : ℕ). acts grid (length leaves) k f.note.deviation) vertices_is
    ∙ ap (λ (k : ℕ). acts grid (length leaves) (length (vertices_of grid.n leaves)) k) deviation_is))

-- the mesh and its line end the command, written or cut short
pub fitted-runs : (before middle now : Moment) (name : List ℕ) (w : Fitting) (grid : HeightField)
    (f : Fitted) (status : Status)
    → ReadsGrid before middle name grid → IsFittedTo f w.goal grid
    → EndsWith middle now (fitted_acts w.prefix w.spacing f) Done status
    → RunsCommand before now (Some (OnGrid name (Fit w))) status None
fitted-runs before middle now name w grid f status read is ends =
    job-runs before middle now name (Fit w) grid (fitted_acts w.prefix w.spacing f) status read refl refl
    (λ files. (
      f.fit.leaves,
      is.fitted,
      ap (λ (acts : List Act). plain_outcome acts Done 1)
          (acts-fitted w f grid is.same_grid is.triangles is.vertices is.deviation),
    )) (λ text_alone. cc) ends
