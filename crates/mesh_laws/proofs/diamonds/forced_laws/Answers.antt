-- Each clause is a lemma.
use Rattle.mesh_laws.proofs.ChangeLemmas.{split_leaves, split_mergeable, split_diamonds}
use Rattle.mesh_laws.proofs.diamonds.forced_laws.Goals as goal

pub returns-clause-leaves : goal.returns-clause-leaves
returns-clause-leaves c = split_leaves

pub returns-clause-own : goal.returns-clause-own
returns-clause-own c = split_mergeable

pub returns-clause-diamonds : goal.returns-clause-diamonds
returns-clause-diamonds c = split_diamonds
