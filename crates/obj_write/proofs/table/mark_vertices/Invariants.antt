use Rattle.std.proofs.Common.{◌≡◌, length, take}
use Rattle.obj_write.specs.VertexMarks.{vertex_marks}
use Rattle.obj_write.specs.Table.{AreFlagged}
use Rattle.obj_write.specs.Walk.{AreCorners}
use Rattle.obj_write.proofs.table.mark_vertices.Given as goal

-- the corners of the triangles so far are marked, and flagged; the steps know corners
abbrev pub invariant-loop-leaf : goal.invariant-loop-leaf
invariant-loop-leaf l = record {
  marks : l.numbers ≡ vertex_marks l.n (take l.leaf-index l.leaves);
  flagged : AreFlagged l.numbers l.used;
  levels : length l.steps ≡ 29;
  known : AreCorners l.n l.steps;
}
