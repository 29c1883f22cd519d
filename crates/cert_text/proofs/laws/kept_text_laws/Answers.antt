-- Each clause is a lemma.
use Rattle.cert_text.proofs.KeptLemmas.{kept_lines-back, kept_text-ended, kept_lines-whole, kept_line-count}
use Rattle.cert_text.proofs.laws.kept_text_laws.Goals as goal

pub returns-clause-back : goal.returns-clause-back
returns-clause-back c = kept_lines-back

pub returns-clause-ended : goal.returns-clause-ended
returns-clause-ended c = kept_text-ended

pub returns-clause-lines : goal.returns-clause-lines
returns-clause-lines c = kept_lines-whole

pub returns-clause-counted : goal.returns-clause-counted
returns-clause-counted c = kept_line-count
