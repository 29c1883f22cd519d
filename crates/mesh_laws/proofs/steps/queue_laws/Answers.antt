-- Each clause is a lemma.
use Rattle.mesh_laws.proofs.KeyLemmas.{first_known, zero_head, lead_no_later_key, all_before, all_positive}
use Rattle.mesh_laws.proofs.steps.queue_laws.Goals as goal

pub returns-clause-first : goal.returns-clause-first
returns-clause-first c = first_known

pub returns-clause-none : goal.returns-clause-none
returns-clause-none c = zero_head

pub returns-clause-last : goal.returns-clause-last
returns-clause-last c = lead_no_later_key

pub returns-clause-before : goal.returns-clause-before
returns-clause-before c = all_before

pub returns-clause-positive : goal.returns-clause-positive
returns-clause-positive c = all_positive
