-- Each clause is a lemma.
use Rattle.fit_laws.proofs.ExcessLemmas.{excess-finest, excess-within, excess-common}
use Rattle.std.proofs.Common.{arith}
use Rattle.fit_laws.proofs.PlaneLemmas.{off_plane-most}
use Rattle.fit_laws.proofs.tolerances.tolerance_laws.Goals as goal

pub returns-clause-finest : goal.returns-clause-finest
returns-clause-finest c = excess-finest

pub returns-clause-within : goal.returns-clause-within
returns-clause-within c = excess-within

pub returns-clause-common : goal.returns-clause-common
returns-clause-common c = excess-common

pub returns-clause-uncounted : goal.returns-clause-uncounted
returns-clause-uncounted c n top heights tolerances a r bounded address held wide =
    let most = off_plane-most n heights top a r address bounded held in omega arith
