use Rattle.std.proofs.Common.{arith, length}
use Rattle.text_laws.proofs.NumberLemmas.{number-refused, number-read}
use Rattle.roam_num.proofs.DigitLemmas.{short-bound}
use Rattle.roam_num.proofs.reading.number_of_digits.Goals as goal
use Rattle.roam_num.proofs.reading.number_of_digits.Goals.{then-is_empty-via-then-is_empty}
use Rattle.roam_num.proofs.reading.number_of_digits.Goals.{then-is_empty-via-else-is_empty+then-bytes-longest}

pub returns-then-is_empty-clause-same : goal.returns-then-is_empty-clause-same
returns-then-is_empty-clause-same c = number-refused c.args.longest c.args.bytes.now (λ t. grind arith)

pub returns-clause-same : goal.returns-clause-same
returns-clause-same c =
    number-read c.args.longest c.args.bytes.now c.value_of_digits.result
    (λ e. grind arith) c.if-bytes-longest.false c.value_of_digits.ensures.value

pub returns-clause-bound : goal.returns-clause-bound
returns-clause-bound c =
    short-bound (length c.args.bytes.now) c.args.longest c.value_of_digits.result c.if-bytes-longest.false
    c.value_of_digits.ensures.bound
