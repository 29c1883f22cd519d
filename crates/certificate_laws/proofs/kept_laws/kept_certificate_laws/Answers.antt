-- Each clause is a lemma.
use Rattle.certificate_laws.proofs.KeepingLemmas.{kept-least, kept-order, kept-few, kept-certified, kept_found}
use Rattle.certificate_laws.proofs.KeepingLemmas.{kept-verdict_one, kept-mesh_one, kept_sound_found}
use Rattle.certificate_laws.proofs.kept_laws.kept_certificate_laws.Goals as goal

pub returns-clause-least : goal.returns-clause-least
returns-clause-least c = kept-least

pub returns-clause-order : goal.returns-clause-order
returns-clause-order c = kept-order

pub returns-clause-few : goal.returns-clause-few
returns-clause-few c = kept-few

pub returns-clause-certified : goal.returns-clause-certified
returns-clause-certified c n heights points tolerance cert mesh verdict sound is =
    kept-certified n heights points tolerance cert mesh sound verdict is

pub returns-clause-verdict : goal.returns-clause-verdict
returns-clause-verdict c = kept_found

pub returns-clause-one_verdict : goal.returns-clause-one_verdict
returns-clause-one_verdict c = kept-verdict_one

pub returns-clause-one_mesh : goal.returns-clause-one_mesh
returns-clause-one_mesh c n heights points tolerance cert mesh other p q =
    kept-mesh_one n heights points cert tolerance mesh other p q

pub returns-clause-some : goal.returns-clause-some
returns-clause-some c n heights points tolerance =
    let found = kept_sound_found n heights points tolerance in (found.0, found.1, found.2)
