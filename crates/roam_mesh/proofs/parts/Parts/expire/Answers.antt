use Rattle.std.proofs.lemmas.Grind.{common_steps}
use Rattle.std.proofs.Common.{arith}
use Rattle.roam_mesh.proofs.parts.Parts.expire.Goals as goal

pub index_mut-requires : goal.index_mut-requires
index_mut-requires c = grind (arith, common_steps)

pub invariant_of-self : goal.invariant_of-self
invariant_of-self c = grind (arith, common_steps)

pub returns-clause-expired : goal.returns-clause-expired
returns-clause-expired c = grind (arith, common_steps)
