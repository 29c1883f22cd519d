-- Each clause is a lemma.
use Rattle.fit_laws.proofs.ErrorLemmas.{error-finest, worst-deviation}
use Rattle.fit_laws.proofs.fits.error_laws.Goals as goal

pub returns-clause-finest : goal.returns-clause-finest
returns-clause-finest c = error-finest

pub returns-clause-deviation : goal.returns-clause-deviation
returns-clause-deviation c = worst-deviation
