use Rattle.std.proofs.Common.{refl}
use Rattle.roam_lanes.proofs.LaneLemmas.{within_all, within_more, above_behind}
use Rattle.roam_lanes.proofs.above.first_above.Goals as goal

pub returns-in-None-clause-none : goal.returns-in-None-clause-none
returns-in-None-clause-none c = (
  λ _. within_all c.args.max c.args.samples.now c.blocks_within-passed.result c.blocks_within-passed.ensures.within
      (c.in-None.ensures.none.0 refl),
  λ _. refl,
)

pub returns-in-Some-clause-before : goal.returns-in-Some-clause-before
returns-in-Some-clause-before c =
    within_more c.args.max c.args.samples.now c.blocks_within-passed.result c.in-Some.i
    c.blocks_within-passed.ensures.within c.in-Some.ensures.before

pub returns-in-Some-clause-above : goal.returns-in-Some-clause-above
returns-in-Some-clause-above c =
    above_behind c.args.max c.args.samples.now c.blocks_within-passed.result c.in-Some.i c.in-Some.ensures.above
