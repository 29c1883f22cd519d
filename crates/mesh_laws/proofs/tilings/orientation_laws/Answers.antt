-- Each clause is a lemma.
use Rattle.mesh_laws.proofs.OrientationLemmas.{counterclockwise, apart}
use Rattle.mesh_laws.proofs.tilings.orientation_laws.Goals as goal

pub returns-clause-counterclockwise : goal.returns-clause-counterclockwise
returns-clause-counterclockwise c = counterclockwise

pub returns-clause-apart : goal.returns-clause-apart
returns-clause-apart c = apart
