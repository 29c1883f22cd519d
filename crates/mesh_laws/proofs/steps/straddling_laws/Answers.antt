-- Each clause is a lemma.
use Rattle.mesh_laws.proofs.StraddleLemmas.{asked_leaf, asked_diamond, asked_over}
use Rattle.mesh_laws.proofs.steps.straddling_laws.Goals as goal

pub returns-clause-leaf : goal.returns-clause-leaf
returns-clause-leaf c = asked_leaf

pub returns-clause-room : goal.returns-clause-room
returns-clause-room c = asked_diamond

pub returns-clause-over : goal.returns-clause-over
returns-clause-over c = asked_over
