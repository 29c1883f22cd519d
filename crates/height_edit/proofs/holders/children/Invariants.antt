use Rattle.std.proofs.Common.{◌≡◌, take}
use Rattle.mesh_defs.specs.BoundingBox.{point}
use Rattle.height_edit.specs.Weights.{offspring}
use Rattle.height_edit.proofs.holders.children.Given as goal

abbrev pub invariant-loop-i : goal.invariant-loop-i
invariant-loop-i l = l.held.items ≡ offspring l.n (point l.x l.y) (take l.i l.level)
