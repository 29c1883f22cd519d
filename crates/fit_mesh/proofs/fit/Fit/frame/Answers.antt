-- The mesh is that of the set that was found, and the greatest error that of the mesh.
use Rattle.std.proofs.Common.{◌≡◌, ℕ, List, length, ap, sym, ◌∙◌, subst, arith}
use Rattle.mesh_defs.specs.ClosedSet.{leaves_of}
use Rattle.mesh_defs.specs.Priority.{worst_of}
use Rattle.mesh_laws.specs.Ancestors.{ancestors_of}
use Rattle.mesh_laws.proofs.ConformityLemmas.{IsConforming-leaves_of}
use Rattle.mesh_defs.specs.Tiling.{IsConforming}
use Rattle.mesh_laws.specs.Least.{IsLeastMesh}
use Rattle.fit_laws.specs.Error.{error_of}
use Rattle.fit_laws.specs.Budget.{IsBudgetMesh}
use Rattle.fit_laws.proofs.ErrorLemmas.{worst-deviation}
use Rattle.fit_laws.proofs.FitLemmas.{fit_mesh}
use Rattle.fit_laws.proofs.OrderLemmas.{leaves-order}
use Rattle.fit_mesh.specs.Kept.{FitMesh}
use Rattle.fit_mesh.proofs.KeptLemmas.{kept-next}
use Rattle.fit_mesh.proofs.fit.Fit.frame.Goals as goal

pub invariant_of-self : goal.invariant_of-self
invariant_of-self c =
    let n : ℕ = c.self.inside.set.n in
    let m : ℕ = c.args.grid.now.n in
    let grid : n ≡ m = ap (λ (z : FitMesh). z.n) c.self.view_is ∙ sym c.requires.grid in
    let found = c.find-worst.ensures.found in
    kept-next n c.find-worst.new.self.n m c.self.inside.budget c.self.inside.set.leaves c.find-worst.new.self.leaves _ _ _ _
    c.self.invariant c.find-worst.ensures.n grid
    (subst (λ (l : List ℕ). IsConforming m l) (sym found.1) (IsConforming-leaves_of m found.0 found.2.fit.settled.closed))
    c.told.ensures.places c.told.ensures.numbers c.find-worst.ensures.capacity

pub returns-clause-least : goal.returns-clause-least
returns-clause-least c =
    let m : ℕ = c.args.grid.now.n in
    let e : ℕ → ℕ = error_of m c.args.grid.now.heights in
    let found = c.find-worst.ensures.found in
    let list : List ℕ = c.find-worst.new.self.leaves in
    let worst : c.told.result.deviation ≡ worst_of e list =
    c.told.ensures.deviation ∙ c.find-worst.ensures.worst in
    subst (λ k. IsLeastMesh m k e list) (sym worst)
    (subst (λ (l : List ℕ). IsLeastMesh m (worst_of e l) e l) (sym found.1)
    (fit_mesh m (worst_of e (leaves_of m found.0)) e found.0 found.2.fit))

pub returns-clause-fewest : goal.returns-clause-fewest
returns-clause-fewest c le =
    let m : ℕ = c.args.grid.now.n in
    let e : ℕ → ℕ = error_of m c.args.grid.now.heights in
    let found = c.find-worst.ensures.found in
    let list : List ℕ = c.find-worst.new.self.leaves in
    let worst : c.told.result.deviation ≡ worst_of e (leaves_of m found.0) =
    c.told.ensures.deviation ∙ c.find-worst.ensures.worst ∙ ap (worst_of e) found.1 in
    subst (λ (l : List ℕ). IsLeastMesh m c.args.tolerance e l) (sym found.1)
    (fit_mesh m c.args.tolerance e found.0 (found.2.fewest (omega arith)))

pub returns-clause-best : goal.returns-clause-best
returns-clause-best c above =
    let m : ℕ = c.args.grid.now.n in
    let e : ℕ → ℕ = error_of m c.args.grid.now.heights in
    let found = c.find-worst.ensures.found in
    let list : List ℕ = c.find-worst.new.self.leaves in
    let worst : c.told.result.deviation ≡ worst_of e (leaves_of m found.0) =
    c.told.ensures.deviation ∙ c.find-worst.ensures.worst ∙ ap (worst_of e) found.1 in
    subst (λ b. IsBudgetMesh m b e list) (ap (λ (z : FitMesh). z.budget) c.self.view_is)
    (subst (λ (l : List ℕ). IsBudgetMesh m c.self.inside.budget e l) (sym found.1) (found.2.best (omega arith)))

pub returns-clause-deviation : goal.returns-clause-deviation
returns-clause-deviation c =
    c.told.ensures.deviation ∙ c.find-worst.ensures.worst
    ∙ worst-deviation c.args.grid.now.n c.args.grid.now.heights c.find-worst.new.self.leaves

pub returns-clause-order : goal.returns-clause-order
returns-clause-order c =
    let m : ℕ = c.args.grid.now.n in
    let found = c.find-worst.ensures.found in
    subst (λ (l : List ℕ). leaves_of m (ancestors_of l) ≡ l) (sym found.1)
    (leaves-order m found.0 found.2.fit.settled.closed)

pub returns-clause-within : goal.returns-clause-within
returns-clause-within c =
    let found = c.find-worst.ensures.found in
    let few = found.2.within in
    let same = ap (λ (l : List ℕ). length l) found.1 in
    let budget = ap (λ (z : FitMesh). z.budget) c.self.view_is in
    omega arith
