-- The law is a lemma.
use Rattle.mesh_defs.proofs.RootLemmas.{root_of-IsRoot}
use Rattle.mesh_defs.proofs.laws.roots.Goals as goal

pub returns : goal.returns
returns c = root_of-IsRoot
