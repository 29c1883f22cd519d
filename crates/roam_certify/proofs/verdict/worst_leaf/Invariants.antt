-- The worst of the first ones.
use Rattle.std.proofs.Common.{◌≡◌, take}
use Rattle.mesh_defs.specs.Priority.{worst_of}
use Rattle.mesh_defs.specs.State.{priority_seen}
use Rattle.roam_certify.proofs.verdict.worst_leaf.Given as goal

abbrev pub invariant-loop-leaf : goal.invariant-loop-leaf
invariant-loop-leaf l = l.worst ≡ worst_of (priority_seen l.scene) (take l.leaf-index l.leaves)
