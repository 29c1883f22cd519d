-- The midpoint shows it, or the rows do.
use Rattle.std.proofs.Common.{ℕ, ◌≤◌, arith}
use Rattle.std.proofs.lemmas.Bool.{lt-ltb, ltb-true}
use Rattle.mesh_laws.proofs.DescentLemmas.{IsAddress-level}
use Rattle.mesh_measure.proofs.ErrorLemmas.{off-iff}
use Rattle.mesh_measure.proofs.points.exceeds_at.Goals as goal

pub returns-then-off_middle-tolerance : goal.returns-then-off_middle-tolerance
returns-then-off_middle-tolerance c =
    let above = c.if-off_middle-tolerance.true in
    let le = c.off_middle.ensures in
    (λ is. omega arith, λ more. lt-ltb c.args.tolerance c.off_middle.result above)

pub returns-else-off_middle-tolerance : goal.returns-else-off_middle-tolerance
returns-else-off_middle-tolerance c =
    let n : ℕ = c.args.grid.now.n in
    let low : 2 ≤ c.args.t = omega arith in
    let around = c.bounded_at-around.result in
    let is = c.bounded_at-around.ensures in
    let iff = off-iff n c.args.grid.now.heights c.args.t c.args.tolerance c.most_until.result
    around.facet.corners around.bounds (IsAddress-level n c.args.t low c.requires.level) is.corners is.bounds
    c.most_until.ensures in (
      λ is. iff.0 (ltb-true c.args.tolerance c.most_until.result is),
      λ above. lt-ltb c.args.tolerance c.most_until.result (iff.1 above),
    )
