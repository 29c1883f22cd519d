use Rattle.std.proofs.Common.{◌≡◌, ◌+◌, ◌≤◌, ◌++◌, take, drop}
use Rattle.obj_write.specs.VertexMarks.{numbered, marked}
use Rattle.obj_write.proofs.vertices.number_marked.Given as goal

-- the numbers so far, and what is to come
abbrev pub invariant-loop-mark : goal.invariant-loop-mark
invariant-loop-mark l = record {
  few : l.count ≤ l.mark-index;
  numbers : numbered 0 l.initial.marks ≡ take l.mark-index l.marks ++ numbered l.count (drop l.mark-index l.marks);
  total : marked l.initial.marks ≡ l.count + marked (drop l.mark-index l.marks);
}
