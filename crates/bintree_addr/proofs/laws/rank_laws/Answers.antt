use Rattle.bintree_addr.proofs.RankLemmas.{rank_cmp-cases}
use Rattle.bintree_addr.proofs.laws.rank_laws.Goals as goal

pub returns : goal.returns
returns c r s = rank_cmp-cases r s
