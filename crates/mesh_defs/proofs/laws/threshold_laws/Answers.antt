-- The laws are lemmas.
use Rattle.mesh_defs.proofs.ThresholdLemmas.{above-none, above-order, above-good}
use Rattle.mesh_defs.proofs.laws.threshold_laws.Goals as goal

pub returns-clause-none : goal.returns-clause-none
returns-clause-none c = above-none

pub returns-clause-order : goal.returns-clause-order
returns-clause-order c = above-order

pub returns-clause-good : goal.returns-clause-good
returns-clause-good c = above-good
