-- The worst of the first ones, at most one question for each, and none taken back.
use Rattle.std.proofs.Common.{◌≡◌, ◌+◌, ◌≤◌, take}
use Rattle.mesh_defs.specs.Priority.{worst_of}
use Rattle.mesh_defs.specs.State.{priority_seen}
use Rattle.least_mesh.proofs.list.worst_leaf.Given as goal

abbrev pub invariant-loop-leaf : goal.invariant-loop-leaf
invariant-loop-leaf l = record {
  value : l.worst ≡ worst_of (priority_seen l.scene) (take l.leaf-index l.leaves);
  asked : l.meter ≤ l.fn.meter + l.leaf-index;
  count : l.fn.meter ≤ l.meter;
}
