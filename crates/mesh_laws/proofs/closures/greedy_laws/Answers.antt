-- Each clause is a lemma.
use Rattle.mesh_laws.proofs.RankLemmas.{IsRankClosure-greedy, IsGreedyEnd-closure, IsBlockedBy-greedy}
use Rattle.mesh_laws.proofs.RankLemmas.{first_leaf-blocked, IsBestMesh-end}
use Rattle.mesh_laws.proofs.closures.greedy_laws.Goals as goal

pub returns-clause-closure : goal.returns-clause-closure
returns-clause-closure c n budget priority ranking has ranked falling =
    IsRankClosure-greedy n priority ranking ranked falling budget has

pub returns-clause-end : goal.returns-clause-end
returns-clause-end c n budget priority ranking chosen has ranked falling =
    IsGreedyEnd-closure n priority ranking ranked falling budget chosen has

pub returns-clause-blocked : goal.returns-clause-blocked
returns-clause-blocked c n budget priority ranking chosen has next f ranked falling =
    IsBlockedBy-greedy n priority ranking ranked falling budget chosen has next f

pub returns-clause-first : goal.returns-clause-first
returns-clause-first c n budget priority ranking chosen has ranked falling low end closure less =
    first_leaf-blocked n priority ranking ranked falling budget chosen has closure less low end

pub returns-clause-best : goal.returns-clause-best
returns-clause-best c = IsBestMesh-end
