use Rattle.std.proofs.Common.{refl}
use Rattle.roam_gen.specs.Generated.{mixed}
use Rattle.roam_gen.proofs.octave.mix.Goals as goal

pub returns : goal.returns
unfolding mixed
returns c = refl
