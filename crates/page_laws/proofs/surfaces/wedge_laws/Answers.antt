-- Each clause is a lemma.
use Rattle.page_laws.proofs.LoadedLemmas.{wedge-unknown, wedge-finest, wedge-known, wedge-same, wedge-whole}
use Rattle.page_laws.proofs.LoadedLemmas.{wedge-bounded}
use Rattle.page_laws.proofs.surfaces.wedge_laws.Goals as goal

pub returns-clause-unknown : goal.returns-clause-unknown
returns-clause-unknown c = wedge-unknown

pub returns-clause-finest : goal.returns-clause-finest
returns-clause-finest c = wedge-finest

pub returns-clause-joined : goal.returns-clause-joined
returns-clause-joined c = wedge-known

pub returns-clause-same : goal.returns-clause-same
returns-clause-same c = wedge-same

pub returns-clause-whole : goal.returns-clause-whole
returns-clause-whole c = wedge-whole

pub returns-clause-bounded : goal.returns-clause-bounded
returns-clause-bounded c = wedge-bounded
