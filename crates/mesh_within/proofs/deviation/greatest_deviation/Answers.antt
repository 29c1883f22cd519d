use Rattle.std.proofs.Common.{◌<◌, arith}
use Rattle.mesh_within.proofs.WorstLemmas.{area-some, worst-more}
use Rattle.mesh_within.proofs.deviation.greatest_deviation.Goals as goal

pub loop-t-preserved : goal.loop-t-preserved
loop-t-preserved c =
    let some : 0 < c.facet_at-f.result.area =
    (let h = area-some c.facet_at-f.result.a c.facet_at-f.result.b c.facet_at-f.result.c c.facet_at-f.ensures.facet.left in
    omega (arith, c.facet_at-f.ensures.facet.area)) in
    worst-more c.args.right c.args.top c.args.surface.now c.args.points.now c.args.heights.now c.args.corners.now c.loop-t.t
    c.loop-t.worst c.greater-worst.result c.facet_at-f.result c.farthest-spot.result (omega arith) c.loop-t.invariant
    c.facet_at-f.ensures.value some c.farthest-spot.ensures.bound c.farthest-spot.ensures.attained c.greater-worst.ensures
