use Rattle.roam_gen.proofs.OctaveLemmas.{mask-within}
use Rattle.roam_gen.proofs.octave.within.Goals as goal

pub returns : goal.returns
returns c = mask-within c.args.k c.from.result c.args.coordinate c.requires c.from.ensures
