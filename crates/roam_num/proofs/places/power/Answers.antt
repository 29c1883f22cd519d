use Rattle.std.proofs.Common.{lit<}
use Rattle.std.proofs.Math.Nat.{pow-le-pow_right}
use Rattle.roam_num.proofs.places.power.Goals as goal

pub returns-clause-small : goal.returns-clause-small
returns-clause-small c = rw c.pow.ensures (pow-le-pow_right (lit< tt) c.requires)
