-- Each clause is a lemma.
use Rattle.page_laws.proofs.ChangeLemmas.{with-this, with-other, without-this, without-other, load-nested}
use Rattle.page_laws.proofs.ChangeLemmas.{unload-nested, wedge-other, wedge-quarter}
use Rattle.page_laws.proofs.SharedLemmas.{shared}
use Rattle.page_laws.proofs.changes.change_laws.Goals as goal

pub returns-clause-with_this : goal.returns-clause-with_this
returns-clause-with_this c = with-this

pub returns-clause-with_others : goal.returns-clause-with_others
returns-clause-with_others c = with-other

pub returns-clause-without_this : goal.returns-clause-without_this
returns-clause-without_this c = without-this

pub returns-clause-without_others : goal.returns-clause-without_others
returns-clause-without_others c = without-other

pub returns-clause-load : goal.returns-clause-load
returns-clause-load c w q t s above around = load-nested w q t s above around

pub returns-clause-unload : goal.returns-clause-unload
returns-clause-unload c w q t s coarse free = unload-nested w q t s coarse free

pub returns-clause-wedge : goal.returns-clause-wedge
returns-clause-wedge c w loaded q t height x others low apart else =
    wedge-other w loaded q t others height x low apart (λ first last is. else first is)

pub returns-clause-shared : goal.returns-clause-shared
returns-clause-shared c w q t p s coarse none point loaded = shared w s p q t coarse none point loaded

pub returns-clause-quarter : goal.returns-clause-quarter
returns-clause-quarter c w loaded q t height r k u others s coarse tile none coarse' tile' page small apart =
    wedge-quarter w loaded q t others height r k u s coarse tile none coarse' tile' page small apart
