-- Each clause is a lemma.
use Rattle.page_laws.proofs.AreaLemmas.{known-apart, open-apart, wedge-apart}
use Rattle.page_laws.proofs.areas.area_laws.Goals as goal

pub returns-clause-known : goal.returns-clause-known
returns-clause-known c w loaded q t x others fits low apart = known-apart w q t fits loaded others x low apart

pub returns-clause-open : goal.returns-clause-open
returns-clause-open c w loaded q t x others fits low apart = open-apart w q t fits loaded others x low apart

pub returns-clause-wedge : goal.returns-clause-wedge
returns-clause-wedge c w loaded q t height x others fits low apart =
    wedge-apart w q t fits loaded others height x low apart
