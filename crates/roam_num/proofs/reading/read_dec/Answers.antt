use Rattle.text_laws.proofs.NumberLemmas.{number-valid, number-value}
use Rattle.roam_num.proofs.reading.read_dec.Goals as goal

pub returns-clause-valid : goal.returns-clause-valid
returns-clause-valid c = rw c.number_of_digits.ensures.same (number-valid 19 c.args.bytes.now)

pub returns-clause-value : goal.returns-clause-value
returns-clause-value c = rw c.number_of_digits.ensures.same (number-value 19 c.args.bytes.now)
