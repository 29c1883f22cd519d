use Rattle.std.proofs.Common.{◌≡◌, take}
use Rattle.obj_write.specs.VertexMarks.{vertex_marks}
use Rattle.obj_write.proofs.vertices.mark_corners.Given as goal

-- the corners of the triangles so far are marked
abbrev pub invariant-loop-leaf : goal.invariant-loop-leaf
invariant-loop-leaf l = l.numbers ≡ vertex_marks l.n (take l.leaf-index l.leaves)
