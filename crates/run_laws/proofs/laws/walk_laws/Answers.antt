use Rattle.run_laws.proofs.WalkLemmas.{walk_of-append, ArePictures-append}
use Rattle.run_laws.proofs.laws.walk_laws.Goals as goal

pub returns-clause-walks : goal.returns-clause-walks
returns-clause-walks c = walk_of-append

pub returns-clause-pictures : goal.returns-clause-pictures
returns-clause-pictures c = ArePictures-append
