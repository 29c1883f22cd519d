-- A gap beyond the tolerance of its point is an excess.
use Rattle.std.proofs.Common.{ℕ, ◌≤◌, arith}
use Rattle.std.proofs.lemmas.Bool.{lt-ltb, ltb-true}
use Rattle.mesh_laws.proofs.DescentLemmas.{IsAddress-level}
use Rattle.mesh_measure.proofs.ErrorLemmas.{excess-iff}
use Rattle.mesh_measure.proofs.own.exceeds_own_at.Goals as goal

pub returns : goal.returns
returns c =
    let n : ℕ = c.args.grid.now.n in
    let low : 2 ≤ c.args.t = omega arith in
    let around = c.bounded_at-around.result in
    let is = c.bounded_at-around.ensures in
    let iff = excess-iff n c.args.grid.now.heights c.args.tolerances.now c.args.t c.excess_until.result
    around.facet.corners around.bounds (IsAddress-level n c.args.t low c.requires.level)
    is.corners is.bounds c.excess_until.ensures in
    (λ is. iff.0 (ltb-true 0 c.excess_until.result is), λ above. lt-ltb 0 c.excess_until.result (iff.1 above))
