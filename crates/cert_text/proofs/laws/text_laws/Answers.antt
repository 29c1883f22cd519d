-- Each clause is a lemma.
use Rattle.cert_text.proofs.CertBackLemmas.{lines-back, text-ended, lines-whole}
use Rattle.cert_text.proofs.CertCountLemmas.{line-count}
use Rattle.cert_text.proofs.laws.text_laws.Goals as goal

pub returns-clause-back : goal.returns-clause-back
returns-clause-back c = lines-back

pub returns-clause-ended : goal.returns-clause-ended
returns-clause-ended c = text-ended

pub returns-clause-counted : goal.returns-clause-counted
returns-clause-counted c = line-count

pub returns-clause-lines : goal.returns-clause-lines
returns-clause-lines c = lines-whole
