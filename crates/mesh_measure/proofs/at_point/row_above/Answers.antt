-- One column more.
use Rattle.std.proofs.Common.{◌≡◌, ◌<◌, ◌≤◌, subst, arith, ⊎_elim}
use Rattle.std.proofs.lemmas.Bool.{cases_lt, both_ways}
use Rattle.mesh_defs.specs.BoundingBox.{point}
use Rattle.mesh_measure.specs.Above.{IsAbove}
use Rattle.mesh_measure.proofs.at_point.row_above.Goals as goal

pub loop-x-preserved : goal.loop-x-preserved
loop-x-preserved c k from below is = ⊎_elim
    (λ (less : k < c.loop-x.x). c.loop-x.invariant k from less is)
    (λ (last : c.loop-x.x ≤ k).
    let same : k ≡ c.loop-x.x = omega arith in
    both_ways c.is_above.result c.if-is_above.false (c.is_above.ensures.1
    (subst (λ z. IsAbove c.args.grid.now.n c.args.grid.now.heights c.args.t c.args.tolerance
    (point z c.args.y)) same is)))
    (cases_lt k c.loop-x.x)
