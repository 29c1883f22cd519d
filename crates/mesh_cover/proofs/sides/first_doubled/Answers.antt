use Rattle.std.proofs.Common.{arith, refl, length}
use Rattle.mesh_cover.proofs.RowLemmas.{doubled-first}
use Rattle.mesh_cover.proofs.sides.first_doubled.Goals as goal

pub returns-then-not-mark_edge-clause-some : goal.returns-then-not-mark_edge-clause-some
returns-then-not-mark_edge-clause-some c =
    doubled-first c.args.right c.args.top (length c.args.corners.now) c.loop-h.h c.args.points.now c.args.corners.now
    c.args.across.now c.loop-h.rows (omega arith) c.loop-h.invariant (c.if-not-mark_edge.ensures.taken refl)
