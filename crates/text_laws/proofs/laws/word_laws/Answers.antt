use Rattle.text_laws.proofs.WordLemmas.{words-append, length-words, length-flat, words-flat}
use Rattle.text_laws.proofs.laws.word_laws.Goals as goal

pub returns-clause-back : goal.returns-clause-back
returns-clause-back c = words-flat

pub returns-clause-size : goal.returns-clause-size
returns-clause-size c = length-flat

pub returns-clause-count : goal.returns-clause-count
returns-clause-count c = length-words

pub returns-clause-join : goal.returns-clause-join
returns-clause-join c = words-append
