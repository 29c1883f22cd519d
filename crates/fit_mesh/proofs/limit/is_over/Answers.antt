-- What mesh_measure answers, by the error of each limit.
use Rattle.std.proofs.Common.{ℕ, List, ◌<◌, ◌≤◌, ◌↔◌, IsTrue, sym, subst, arith}
use Rattle.std.proofs.lemmas.Bool.{false≢true}
use Rattle.mesh_laws.proofs.DescentLemmas.{IsAddress-level}
use Rattle.fit_mesh.specs.declared.limit.Limit.{Limit}
use Rattle.fit_mesh.specs.Limit.{tolerance_of, error_within}
use Rattle.fit_mesh.proofs.ErrorLemmas.{error-greatest, excess-greatest}
use Rattle.fit_mesh.proofs.LimitLemmas.{limit-finest}
use Rattle.fit_mesh.proofs.limit.is_over.Goals as goal

pub returns-then-level-n : goal.returns-then-level-n
returns-then-level-n c =
    let n : ℕ = c.args.grid.now.n in
    let low : 2 ≤ c.args.t = omega arith in
    let fits = c.requires.level in
    let above = c.if-level-n.true in
    let level = c.level.ensures.value in
    let side = c.n.ensures.value in
    let none = limit-finest n c.args.grid.now.heights c.args.limit c.args.t
    (IsAddress-level n c.args.t low c.requires.level) (omega arith) in
    (λ is. absurd (false≢true is), λ more. absurd (omega arith))

pub returns-in-Common : goal.returns-in-Common
returns-in-Common c =
    let n : ℕ = c.args.grid.now.n in
    let heights : List ℕ = c.args.grid.now.heights in
    subst (λ (l : Limit). IsTrue c.exceeds_at.result ↔ (tolerance_of l < error_within n heights l c.args.t))
    (sym c.in-Common.is)
    (subst (λ k. IsTrue c.exceeds_at.result ↔ (c.in-Common.tolerance < k)) (error-greatest n heights c.args.t)
    c.exceeds_at.ensures)

pub returns-in-Own : goal.returns-in-Own
returns-in-Own c =
    let n : ℕ = c.args.grid.now.n in
    let heights : List ℕ = c.args.grid.now.heights in
    subst (λ (l : Limit). IsTrue c.exceeds_own_at.result ↔ (tolerance_of l < error_within n heights l c.args.t))
    (sym c.in-Own.is)
    (subst (λ k. IsTrue c.exceeds_own_at.result ↔ (0 < k))
    (excess-greatest n heights c.in-Own.tolerances.now c.args.t) c.exceeds_own_at.ensures)
