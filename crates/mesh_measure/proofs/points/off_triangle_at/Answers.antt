-- The rows of the rectangle have all held points.
use Rattle.std.proofs.Common.{ℕ, ◌≤◌, arith}
use Rattle.mesh_laws.proofs.DescentLemmas.{IsAddress-level}
use Rattle.mesh_measure.proofs.BoxLemmas.{greatest-most}
use Rattle.mesh_measure.proofs.points.off_triangle_at.Goals as goal

pub returns : goal.returns
returns c =
    let n : ℕ = c.args.grid.now.n in
    let low : 2 ≤ c.args.t = omega arith in
    let h = c.most_until.ensures in
    let around = c.bounded_at-around.result in
    let is = c.bounded_at-around.ensures in
    greatest-most n c.args.grid.now.heights c.args.t around.facet.corners around.bounds c.most_until.result
    (IsAddress-level n c.args.t low c.requires.level) is.corners is.bounds
    record { bound = h.bound (omega arith); reached = h.reached }
