use Rattle.std.proofs.Common.{true≢false, sym, ◌∙◌}
use Rattle.bintree_addr.proofs.RankLemmas.{is_lt-rank_cmp}
use Rattle.bintree_addr.proofs.laws.rank_order_laws.Goals as goal

pub returns-clause-less : goal.returns-clause-less
returns-clause-less c r s = is_lt-rank_cmp r s

pub returns-clause-not_less : goal.returns-clause-not_less
returns-clause-not_less c r s e first = true≢false (sym ((is_lt-rank_cmp r s).1 first) ∙ e)
