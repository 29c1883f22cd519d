use Rattle.bintree_laws.proofs.LevelLemmas.{level_of-below}
use Rattle.bintree_laws.proofs.laws.level_laws.Goals as goal

pub returns-clause-below : goal.returns-clause-below
returns-clause-below c a k low = level_of-below a k low
