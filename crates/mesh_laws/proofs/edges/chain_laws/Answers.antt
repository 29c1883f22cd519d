-- Each clause is a lemma.
use Rattle.mesh_laws.proofs.ChainLemmas.{mate_or_parent, forced_leaf, forced_step, forced_end, chain-short}
use Rattle.mesh_laws.proofs.edges.chain_laws.Goals as goal

pub returns-clause-next : goal.returns-clause-next
returns-clause-next c = mate_or_parent

pub returns-clause-leaf : goal.returns-clause-leaf
returns-clause-leaf c = forced_leaf

pub returns-clause-step : goal.returns-clause-step
returns-clause-step c = forced_step

pub returns-clause-end : goal.returns-clause-end
returns-clause-end c = forced_end

pub returns-clause-short : goal.returns-clause-short
returns-clause-short c = chain-short
