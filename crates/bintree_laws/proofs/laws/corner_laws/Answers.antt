use Rattle.bintree_laws.proofs.LatticeLemmas.{HasEvenBase-corners_of}
use Rattle.bintree_laws.proofs.laws.corner_laws.Goals as goal

pub returns-clause-even : goal.returns-clause-even
returns-clause-even c n a coarse = HasEvenBase-corners_of n a coarse
