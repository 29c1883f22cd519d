use Rattle.std.proofs.Common.{arith}
use Rattle.std.proofs.lemmas.Grind.{common_steps}
use Rattle.triangle_pool.proofs.nodes.Nodes.tri.Goals as goal

pub address-requires-clause-within : goal.address-requires-clause-within
address-requires-clause-within c = grind (arith, common_steps)
