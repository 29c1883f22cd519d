-- The mesh that was found tells its deviation.
use Rattle.std.proofs.Common.{ℕ, ◌≤◌, List, length, sym, ◌∙◌, subst}
use Rattle.fit_laws.specs.Error.{error_of}
use Rattle.fit_laws.specs.Budget.{IsBudgetMesh}
use Rattle.fit_laws.proofs.ErrorLemmas.{worst-deviation}
use Rattle.certificate_laws.specs.declared.fit_reason.Target.{Target}
use Rattle.certificate_laws.specs.Making.{IsBestTolerance}
use Rattle.fit_certify.proofs.making.tolerance_for.Goals as goal

pub returns-in_ok-fit-in-Budget : goal.returns-in_ok-fit-in-Budget
returns-in_ok-fit-in-Budget c =
    let n : ℕ = c.args.grid.now.n in
    let heights : List ℕ = c.args.grid.now.heights in
    let e : ℕ → ℕ = error_of n heights in
    let mesh : List ℕ = c.frame-note.new.self.leaves in
    let budget = c.in_ok-fit-in-Budget.ensures.budget in
    record {
      best = subst (λ (t : Target). IsBestTolerance n e t c.frame-note.result.deviation) (sym c.in-Budget.is) (
        mesh,
        c.frame-note.ensures.least,
        subst (λ b. length mesh ≤ b) budget c.frame-note.ensures.within,
        c.frame-note.ensures.deviation ∙ sym (worst-deviation n heights mesh),
        λ some. subst (λ b. IsBudgetMesh n b e mesh) budget (c.frame-note.ensures.best some),
      );
    }
