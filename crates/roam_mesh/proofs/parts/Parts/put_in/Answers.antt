use Rattle.std.proofs.lemmas.Grind.{common_steps}
use Rattle.std.proofs.Common.{arith}
use Rattle.roam_mesh.proofs.parts.Parts.put_in.Goals as goal

pub put-requires-clause-in_range : goal.put-requires-clause-in_range
put-requires-clause-in_range c = grind (arith, common_steps)
