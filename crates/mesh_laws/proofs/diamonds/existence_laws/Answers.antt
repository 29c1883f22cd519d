-- Each clause is a lemma.
use Rattle.mesh_laws.proofs.RankingLemmas.{ranking_of, IsRanking-of}
use Rattle.mesh_laws.proofs.ExistenceLemmas.{least_closed_of, forced_list, rank_closure_of, frame_of}
use Rattle.mesh_laws.proofs.diamonds.existence_laws.Goals as goal

pub returns-clause-closed : goal.returns-clause-closed
returns-clause-closed c = least_closed_of

pub returns-clause-forced : goal.returns-clause-forced
returns-clause-forced c = forced_list

pub returns-clause-ranking : goal.returns-clause-ranking
returns-clause-ranking c n priority = (ranking_of n priority, IsRanking-of n priority)

pub returns-clause-closure : goal.returns-clause-closure
returns-clause-closure c = rank_closure_of

pub returns-clause-frame : goal.returns-clause-frame
returns-clause-frame c = frame_of
