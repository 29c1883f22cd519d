use Rattle.height_edit.proofs.MemberLemmas.{holders-members, holders-ascending}
use Rattle.height_edit.proofs.laws.holder_laws.Goals as goal

pub returns-clause-members : goal.returns-clause-members
returns-clause-members c = holders-members

pub returns-clause-ascending : goal.returns-clause-ascending
returns-clause-ascending c = holders-ascending
