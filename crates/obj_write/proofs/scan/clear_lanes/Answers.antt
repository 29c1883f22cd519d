use Rattle.obj_write.proofs.ScanLemmas.{first-lane}
use Rattle.obj_write.proofs.scan.clear_lanes.Goals as goal

pub returns : goal.returns
returns c = first-lane c.args.numbers.now c.args.at c.first_set.result c.requires c.first_set.ensures
