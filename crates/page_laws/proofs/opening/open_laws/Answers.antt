-- Each clause is a lemma.
use Rattle.page_laws.proofs.OpenLemmas.{opened-falls, opened-frame, open-unique}
use Rattle.page_laws.proofs.opening.open_laws.Goals as goal

pub returns-clause-falls : goal.returns-clause-falls
returns-clause-falls c = opened-falls

pub returns-clause-frame : goal.returns-clause-frame
returns-clause-frame c = opened-frame

pub returns-clause-unique : goal.returns-clause-unique
returns-clause-unique c = open-unique
