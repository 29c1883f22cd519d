-- Meshes that are fitted: the tolerance is exact, there is one mesh for each goal, and it is a best one.
use Rattle.std.proofs.Common.{◌≡◌, ℕ, ◌≤◌, ◌*◌, ◌^◌, List, refl, sym, ◌∙◌, ap, subst, arith}
use Rattle.std.proofs.Math.Nat.{le-div_iff_mul-le}
use Rattle.roam_edge.specs.Shelf.{NamedFile}
use Rattle.mesh_defs.specs.HeightField.{HeightField}
use Rattle.mesh_defs.specs.ClosedSet.{leaves_of}
use Rattle.fit_laws.specs.PlaneHeight.{deviation_of}
use Rattle.mesh_laws.specs.Least.{IsLeastMesh}
use Rattle.fit_laws.specs.Error.{error_of}
use Rattle.fit_laws.specs.Budget.{IsBudgetMesh}
use Rattle.fit_laws.proofs.FitLemmas.{fit_found, fit_mesh}
use Rattle.fit_laws.proofs.BudgetLemmas.{budget_found}
use Rattle.fit_laws.proofs.ErrorLemmas.{error-finest, worst-deviation}
use Rattle.fit_laws.proofs.OrderLemmas.{leaves-order, least-one, budget-one}
use Rattle.run_laws.specs.declared.status.Status.TheVariants.{Done}
use Rattle.run_words.specs.Words.{Goal, AtError, InBudget, greatest_error, Fitting, Fit}
use Rattle.run_laws.specs.Fit.{tolerance_of, IsFitFor, IsFitted, IsFewestFor, IsClosestFor, IsBestFit}
use Rattle.run_laws.specs.Outcome.{Outcome, plain_outcome, fit_acts, IsJobOutcome}
use Rattle.run_laws.specs.Laws.{TolerancesAreExact}

-- the tolerance

-- an error is within the tolerance exactly where it is at most so many thousandths
pub tolerance-exact : TolerancesAreExact
tolerance-exact n thousandths error =
    let both = le-div_iff_mul-le {k = 1000} {x = error} {y = thousandths * 2 ^ n} (omega arith) in
    ((λ le. let h = both.0 le in omega (arith, h)), (λ le. both.1 (omega (arith, le))))

-- one mesh

-- the triangles of a goal, depth first, are one list
pub fitted-one : (goal : Goal) (grid : HeightField) (triangles others : List ℕ) → IsFitted goal grid triangles →
    IsFitted goal grid others → triangles ≡ others
fitted-one (AtError thousandths) grid triangles others p q =
    least-one grid.n (tolerance_of grid.n thousandths)
    (error_of grid.n grid.heights) triangles others p.fit q.fit p.in_order q.in_order
fitted-one (InBudget budget) grid triangles others p q =
    budget-one grid.n budget (error_of grid.n grid.heights) triangles others p.fit q.fit p.in_order q.in_order

-- a goal that words may say: an error within its bound, or a budget with room for the two base triangles
abbrev pub IsGoalOfWords : Goal → Type 0
IsGoalOfWords (AtError thousandths) = thousandths ≤ greatest_error
IsGoalOfWords (InBudget budget) = 2 ≤ budget

-- then there is one
pub fitted-exists : (goal : Goal) (grid : HeightField) → IsGoalOfWords goal →
    (triangles : List ℕ) × IsFitted goal grid triangles
fitted-exists (AtError thousandths) grid two =
    let n : ℕ = grid.n in
    let tolerance : ℕ = tolerance_of n thousandths in
    let found = fit_found n tolerance (error_of n grid.heights) (error-finest n grid.heights) in (
      leaves_of n found.0,
      record {
        fit = fit_mesh n tolerance (error_of n grid.heights) found.0 found.1;
        in_order = leaves-order n found.0 found.1.settled.closed;
      },
    )
fitted-exists (InBudget budget) grid two =
    let n : ℕ = grid.n in
    let found = budget_found n budget (error_of n grid.heights) (error-finest n grid.heights) two in
    (leaves_of n found.0, record { fit = found.2; in_order = leaves-order n found.0 found.1 })

-- so a fit has one outcome
pub fit-unique : (f : Fitting) (grid : HeightField) (files : List NamedFile) (end other : Outcome) →
    IsJobOutcome (Fit f) grid files end →
    IsJobOutcome (Fit f) grid files other → end ≡ other
fit-unique f grid files end other p q =
    p.2 ∙ ap (λ (triangles : List ℕ). plain_outcome (fit_acts f grid triangles) Done 1)
    (fitted-one f.goal grid p.0 q.0 p.1 q.1) ∙ sym q.2

-- fitting a mesh has an outcome, where words may say the goal
pub fit-exists : (f : Fitting) (grid : HeightField) (files : List NamedFile) → IsGoalOfWords f.goal →
    (end : Outcome) × IsJobOutcome (Fit f) grid files end
fit-exists f grid files two =
    let found = fitted-exists f.goal grid two in
    (plain_outcome (fit_acts f grid found.0) Done 1, (found.0, found.1, refl))

-- a best one

fewest-for : (thousandths : ℕ) (grid : HeightField) (triangles : List ℕ)
    → IsLeastMesh grid.n (tolerance_of grid.n thousandths) (error_of grid.n grid.heights) triangles →
    IsFewestFor thousandths grid triangles
fewest-for thousandths grid triangles least =
    let n : ℕ = grid.n in
    let P : ℕ → Type 0 = λ k. k ≤ tolerance_of n thousandths in
    record {
      conforming = least.conforming;
      near = (tolerance-exact n thousandths (deviation_of n grid.heights triangles)).0
          (subst P (worst-deviation n grid.heights triangles) least.within);
      fewest = λ others conforming near. least.fewest others conforming
          (subst P (sym (worst-deviation n grid.heights others))
          ((tolerance-exact n thousandths (deviation_of n grid.heights others)).1 near));
    }

closest-for : (budget : ℕ) (grid : HeightField) (triangles : List ℕ)
    → IsBudgetMesh grid.n budget (error_of grid.n grid.heights) triangles → IsClosestFor budget grid triangles
closest-for budget grid triangles best =
    let n : ℕ = grid.n in
    let own = worst-deviation n grid.heights triangles in
    record {
      conforming = best.least.conforming;
      within = best.within;
      closest = λ others conforming within.
          let theirs = worst-deviation n grid.heights others in
          let low = best.optimal others conforming within in
          omega (arith, own, theirs, low);
      fewest = λ others conforming near. best.least.fewest others conforming
          (let theirs = worst-deviation n grid.heights others in omega (arith, own, theirs, near));
    }

-- a mesh that is fitted is one, in the words of distances from the surface
pub fit-best : (goal : Goal) (grid : HeightField) (triangles : List ℕ) → IsFitFor goal grid triangles →
    IsBestFit goal grid triangles
fit-best (AtError thousandths) grid triangles fit = fewest-for thousandths grid triangles fit
fit-best (InBudget budget) grid triangles fit = closest-for budget grid triangles fit
