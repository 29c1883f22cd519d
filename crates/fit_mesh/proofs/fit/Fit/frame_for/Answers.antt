-- The mesh is that which was fitted.
use Rattle.std.proofs.Common.{◌≡◌, ℕ, ◌*◌, ◌≤◌, List, ap, sym, ◌∙◌, subst, arith}
use Rattle.std.specs.Prelude.{All}
use Rattle.mesh_defs.specs.Triangle.{level_of}
use Rattle.mesh_defs.specs.Priority.{worst_of}
use Rattle.fit_laws.specs.Error.{error_of}
use Rattle.fit_laws.proofs.ErrorLemmas.{worst-deviation}
use Rattle.fit_mesh.specs.Limit.{tolerance_of, error_within}
use Rattle.fit_mesh.specs.Kept.{FitMesh}
use Rattle.fit_mesh.proofs.KeptLemmas.{kept-next}
use Rattle.fit_mesh.proofs.fit.Fit.frame_for.Goals as goal

pub invariant_of-self : goal.invariant_of-self
invariant_of-self c =
    let n : ℕ = c.self.inside.set.n in
    let m : ℕ = c.args.grid.now.n in
    let grid : n ≡ m = ap (λ (z : FitMesh). z.n) c.self.view_is ∙ sym c.requires.grid in
    kept-next n c.fit.new.self.n m c.self.inside.budget c.self.inside.set.leaves c.fit.new.self.leaves _ _ _ _
    c.self.invariant c.fit.ensures.n grid c.fit.ensures.listed.conforming
    c.told.ensures.places c.told.ensures.numbers (omega arith)

pub worst_under-worst-requires-clause-levels : goal.worst_under-worst-requires-clause-levels
worst_under-worst-requires-clause-levels c =
    let same = c.fit.ensures.n ∙ ap (λ (z : FitMesh). z.n) c.self.view_is ∙ sym c.requires.grid in
    subst (λ k. All (λ a. level_of a ≤ 2 * k) c.leaves.result.now) same c.leaves.ensures.levels

pub worst_under-worst-requires-clause-within : goal.worst_under-worst-requires-clause-within
worst_under-worst-requires-clause-within c =
    let e : ℕ → ℕ = error_within c.args.grid.now.n c.args.grid.now.heights c.args.limit in
    subst (λ (l : List ℕ). worst_of e l ≤ tolerance_of c.args.limit) (sym c.leaves.ensures.value)
    c.fit.ensures.least.mesh.within

pub returns-clause-deviation : goal.returns-clause-deviation
returns-clause-deviation c =
    let n : ℕ = c.args.grid.now.n in
    let heights : List ℕ = c.args.grid.now.heights in
    c.told.ensures.deviation ∙ c.worst_under-worst.ensures
    ∙ ap (λ (l : List ℕ). worst_of (error_of n heights) l) c.leaves.ensures.value
    ∙ worst-deviation n heights c.fit.new.self.leaves
