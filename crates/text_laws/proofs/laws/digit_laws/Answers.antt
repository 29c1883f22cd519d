use Rattle.text_laws.proofs.DigitLemmas.{value-push, digit-yes, digit-is}
use Rattle.text_laws.proofs.BlankLemmas.{white-yes, white-is}
use Rattle.text_laws.proofs.laws.digit_laws.Goals as goal

pub returns-clause-push : goal.returns-clause-push
returns-clause-push c = value-push

pub returns-clause-digit : goal.returns-clause-digit
returns-clause-digit c = λ byte. (digit-yes byte, digit-is byte)

pub returns-clause-white : goal.returns-clause-white
returns-clause-white c = λ byte. (white-yes byte, white-is byte)
