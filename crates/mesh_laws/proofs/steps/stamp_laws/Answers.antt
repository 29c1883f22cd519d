-- The clause is a lemma.
use Rattle.mesh_laws.proofs.StampLemmas.{stamped_frame}
use Rattle.mesh_laws.proofs.steps.stamp_laws.Goals as goal

pub returns : goal.returns
returns c = stamped_frame
