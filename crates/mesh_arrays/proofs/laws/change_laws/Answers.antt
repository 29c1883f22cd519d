use Rattle.mesh_arrays.proofs.ChangeLemmas.{among-after}
use Rattle.mesh_arrays.proofs.OrderLemmas.{IsDepthFirst-leaves_of}
use Rattle.mesh_arrays.proofs.laws.change_laws.Goals as goal

pub returns-clause-leaves : goal.returns-clause-leaves
returns-clause-leaves c = IsDepthFirst-leaves_of

pub returns-clause-after : goal.returns-clause-after
returns-clause-after c = among-after
