use Rattle.std.proofs.Common.{length}
use Rattle.roam_mesh.proofs.parts.Parts.+leave_chain.Given as goal

abbrev pub decreases-leave_chain : goal.decreases-leave_chain
decreases-leave_chain l = length l.slots.now
