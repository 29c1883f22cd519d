use Rattle.cull_marks.proofs.MarkLemmas.{mark_of-Outside, mark_of-Inside}
use Rattle.cull_marks.proofs.laws.mark_laws.Goals as goal

pub returns-clause-outside : goal.returns-clause-outside
returns-clause-outside c = mark_of-Outside

pub returns-clause-inside : goal.returns-clause-inside
returns-clause-inside c = mark_of-Inside
