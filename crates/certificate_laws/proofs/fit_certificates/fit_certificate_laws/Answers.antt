-- Each clause is a lemma.
use Rattle.certificate_laws.proofs.FitSoundLemmas.{sound-least, sound-error, sound-budget, sound-order, sound-few}
use Rattle.certificate_laws.proofs.FitSoundLemmas.{sound-low}
use Rattle.certificate_laws.proofs.FitVerdictLemmas.{sound-certified}
use Rattle.certificate_laws.proofs.DecisionLemmas.{verdict_found, verdict_one}
use Rattle.certificate_laws.proofs.FoundLemmas.{sound_found}
use Rattle.certificate_laws.proofs.fit_certificates.fit_certificate_laws.Goals as goal

pub returns-clause-least : goal.returns-clause-least
returns-clause-least c = sound-least

pub returns-clause-error : goal.returns-clause-error
returns-clause-error c = sound-error

pub returns-clause-budget : goal.returns-clause-budget
returns-clause-budget c = sound-budget

pub returns-clause-order : goal.returns-clause-order
returns-clause-order c = sound-order

pub returns-clause-certified : goal.returns-clause-certified
returns-clause-certified c n heights target cert mesh verdict sound is =
    sound-certified n heights target cert mesh sound verdict is

pub returns-clause-verdict : goal.returns-clause-verdict
returns-clause-verdict c = verdict_found

pub returns-clause-one_verdict : goal.returns-clause-one_verdict
returns-clause-one_verdict c = verdict_one

pub returns-clause-some : goal.returns-clause-some
returns-clause-some c n heights target possible =
    let found = sound_found n heights target possible in (found.0, found.1, found.2)

pub returns-clause-few : goal.returns-clause-few
returns-clause-few c = sound-few

pub returns-clause-tolerance : goal.returns-clause-tolerance
returns-clause-tolerance c = sound-low
