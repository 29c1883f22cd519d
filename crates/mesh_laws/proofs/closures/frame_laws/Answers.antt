-- Each clause is a lemma.
use Rattle.mesh_laws.proofs.FrameLemmas.{IsFrame-unique, IsFrame-same, IsBestMesh-frame, unblocked, certificate}
use Rattle.mesh_laws.proofs.FrameLemmas.{IsFrame-done, IsFrame-stopped}
use Rattle.mesh_laws.proofs.closures.frame_laws.Goals as goal

pub returns-clause-unique : goal.returns-clause-unique
returns-clause-unique c = IsFrame-unique

pub returns-clause-same : goal.returns-clause-same
returns-clause-same c = IsFrame-same

pub returns-clause-best : goal.returns-clause-best
returns-clause-best c = IsBestMesh-frame

pub returns-clause-unblocked : goal.returns-clause-unblocked
returns-clause-unblocked c = unblocked

pub returns-clause-certificate : goal.returns-clause-certificate
returns-clause-certificate c = certificate

pub returns-clause-done : goal.returns-clause-done
returns-clause-done c = IsFrame-done

pub returns-clause-stopped : goal.returns-clause-stopped
returns-clause-stopped c = IsFrame-stopped
