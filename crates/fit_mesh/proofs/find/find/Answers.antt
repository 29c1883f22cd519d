-- Where the budget is no bound, the least settled set is what is looked for.
use Rattle.std.proofs.Common.{◌≡◌, ℕ, ◌+◌, ◌*◌, ◌^◌, Bool, subst, arith}
use Rattle.mesh_laws.specs.Sweep.{is_flagged}
use Rattle.fit_laws.specs.Error.{error_of}
use Rattle.fit_mesh.proofs.SettleLemmas.{nothing-required, settled-found}
use Rattle.fit_mesh.proofs.find.find.Goals as goal

pub returns-else-budget-end-clause-found : goal.returns-else-budget-end-clause-found
returns-else-budget-end-clause-found c =
    let n : ℕ = c.args.grid.now.n in
    let value : c.end.result ≡ 2 ^ (2 * n + 1) =
    subst (λ k. c.end.result ≡ 2 ^ (2 * k + 1)) c.n.ensures.value c.end.ensures.value in
    let wide = c.if-budget-end.false in
    let e : ℕ → ℕ = error_of n c.args.grid.now.heights in
    let has : ℕ → Bool = is_flagged c.settle_anew.new.flags in
    settled-found n e c.args.tolerance c.args.budget has (omega arith)
    (nothing-required n c.args.tolerance e has c.settle_anew.ensures.fit)

pub returns-else-budget-end-clause-unknown : goal.returns-else-budget-end-clause-unknown
returns-else-budget-end-clause-unknown c = c.settle_anew.ensures.fit.settled.within
