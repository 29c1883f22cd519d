-- The point is the mean of the corners by these weights.
use Rattle.std.proofs.Common.{refl, arith}
use Rattle.address_flags.proofs.WeightedLemmas.{weighted-lower, weighted-upper}
use Rattle.address_flags.proofs.place.half_around.Goals as goal

pub returns-then-x-y : goal.returns-then-x-y
returns-then-x-y c n is corner =
    weighted-lower n c.args.side c.args.point _ is c.if-x-y.true corner refl refl refl refl

pub returns-else-x-y : goal.returns-else-x-y
returns-else-x-y c n is corner =
    weighted-upper n c.args.side c.args.point _ is c.requires.point_in_grid (omega arith) corner refl refl refl refl
