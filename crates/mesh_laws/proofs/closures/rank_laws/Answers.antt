-- Each clause is a lemma.
use Rattle.mesh_laws.proofs.RankLemmas.{IsRankClosure-unique, IsBlockedBy-unique}
use Rattle.mesh_laws.proofs.closures.rank_laws.Goals as goal

pub returns-clause-closure : goal.returns-clause-closure
returns-clause-closure c = IsRankClosure-unique

pub returns-clause-blocked : goal.returns-clause-blocked
returns-clause-blocked c = IsBlockedBy-unique
