use Rattle.mesh_defs.specs.BoundingBox.{point}
use Rattle.height_edit.proofs.HolderLemmas.{IsFound}
use Rattle.height_edit.proofs.holders.holders.Given as goal

abbrev pub invariant-loop-depth : goal.invariant-loop-depth
invariant-loop-depth l = IsFound l.n (point l.x l.y) l._depth l.level.items l.all.items
