use Rattle.view_priority.proofs.MoveLemmas.{distance_of-moved}
use Rattle.view_priority.proofs.NestLemmas.{box_of-ordered}
use Rattle.view_priority.proofs.laws.distance_laws.Goals as goal

pub returns-clause-ordered : goal.returns-clause-ordered
returns-clause-ordered c = box_of-ordered

pub returns-clause-moved : goal.returns-clause-moved
returns-clause-moved c = distance_of-moved c.roots.ensures
