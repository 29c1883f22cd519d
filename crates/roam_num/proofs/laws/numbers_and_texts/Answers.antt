use Rattle.std.proofs.Common.{arith, lit<}
use Rattle.std.proofs.lemmas.Fmt.{signed_decimal_injective}
use Rattle.text_laws.proofs.NumberLemmas.{decimal-back, signed-back, one-number}
use Rattle.roam_num.proofs.PlacesLemmas.{fractions-exact}
use Rattle.roam_num.proofs.laws.numbers_and_texts.Goals as goal

pub returns-clause-back : goal.returns-clause-back
returns-clause-back c = λ n small. decimal-back 19 n (lit< tt) small (omega arith)

pub returns-clause-signed_back : goal.returns-clause-signed_back
returns-clause-signed_back c = signed-back

pub returns-clause-one_number : goal.returns-clause-one_number
returns-clause-one_number c = one-number

pub returns-clause-own_texts : goal.returns-clause-own_texts
returns-clause-own_texts c = λ v w a b. signed_decimal_injective v w a.sfits b.sfits

pub returns-clause-exact : goal.returns-clause-exact
returns-clause-exact c = fractions-exact
