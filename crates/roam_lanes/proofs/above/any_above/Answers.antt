use Rattle.roam_lanes.proofs.LaneLemmas.{none_above}
use Rattle.roam_lanes.proofs.above.any_above.Goals as goal

pub returns : goal.returns
returns c = none_above c.args.max c.args.block.now c.requires
