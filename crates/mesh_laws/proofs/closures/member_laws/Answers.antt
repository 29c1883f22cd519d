-- Each clause is a lemma.
use Rattle.mesh_laws.proofs.MemberLemmas.{ascending_unique, gain_unique}
use Rattle.mesh_laws.proofs.closures.member_laws.Goals as goal

pub returns-clause-same : goal.returns-clause-same
returns-clause-same c = ascending_unique

pub returns-clause-gain : goal.returns-clause-gain
returns-clause-gain c = gain_unique
