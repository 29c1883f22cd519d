-- Each clause is a lemma.
use Rattle.mesh_laws.proofs.SweepLemmas.{swept_at_first, swept_skip, swept_mark, swept_at_last}
use Rattle.mesh_laws.proofs.least.sweep_laws.Goals as goal

pub returns-clause-at_first : goal.returns-clause-at_first
returns-clause-at_first c = swept_at_first

pub returns-clause-skip : goal.returns-clause-skip
returns-clause-skip c = swept_skip

pub returns-clause-mark : goal.returns-clause-mark
returns-clause-mark c = swept_mark

pub returns-clause-at_last : goal.returns-clause-at_last
returns-clause-at_last c = swept_at_last
