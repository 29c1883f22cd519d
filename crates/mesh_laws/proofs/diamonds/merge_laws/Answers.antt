-- Each clause is a lemma.
use Rattle.mesh_laws.proofs.DiamondLemmas.{without_diamond-closed, without_diamond-length}
use Rattle.mesh_laws.proofs.ChangeLemmas.{merge_leaves, merge_keeps_mergeable, merge_new_mergeable}
use Rattle.mesh_laws.proofs.diamonds.merge_laws.Goals as goal

pub returns-clause-closed : goal.returns-clause-closed
returns-clause-closed c = without_diamond-closed

pub returns-clause-pair : goal.returns-clause-pair
returns-clause-pair c n before d after rises closed can without =
    (without_diamond-length n before d after rises closed can without).0

pub returns-clause-single : goal.returns-clause-single
returns-clause-single c n before d after rises closed can without =
    (without_diamond-length n before d after rises closed can without).1

pub returns-clause-leaves : goal.returns-clause-leaves
returns-clause-leaves c = merge_leaves

pub returns-clause-others : goal.returns-clause-others
returns-clause-others c = merge_keeps_mergeable

pub returns-clause-diamonds : goal.returns-clause-diamonds
returns-clause-diamonds c = merge_new_mergeable
