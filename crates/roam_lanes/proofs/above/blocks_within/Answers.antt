use Rattle.roam_lanes.proofs.LaneLemmas.{within_block}
use Rattle.roam_lanes.proofs.above.blocks_within.Goals as goal

pub loop-k-preserved : goal.loop-k-preserved
loop-k-preserved c =
    within_block c.args.max c.args.samples.now c.loop-k.k c.loop-k.invariant (c.any_above.ensures c.if-any_above.false)
