use Rattle.std.proofs.Common.{◌≡◌, ◌+◌, ◌≤◌, ◌++◌, true, length}
use Rattle.roam_edge.specs.Fault.{IsInTime}
use Rattle.obj_write.specs.Page.{Passed}
use Rattle.obj_write.specs.MeshView.{view_text}
use Rattle.obj_write.specs.declared.page.TheConstants.{PAGE_ROOM}
use Rattle.obj_write.specs.declared.lines.TheConstants.{LONGEST_PIECE}
use Rattle.obj_write.proofs.mesh.write_lines.Given as goal

-- the text but for the lines that are to come behind the page came through it
abbrev pub invariant-lines : goal.invariant-lines
invariant-lines g l = record {
  under_way : g.M.MeshSink.under_way l.out ≡ true;
  calm : g.M.MeshSink.faults l.out ≡ g.M.MeshSink.faults l.fn.out;
  room : length l.page + LONGEST_PIECE ≤ PAGE_ROOM;
  passed : Passed (g.M.MeshSink.meshes l.fn.out) (g.M.MeshSink.meshes l.out) l.fn.page (l.page ++ l.lines.text)
      (view_text l.view);
  in_time : IsInTime (g.M.MeshSink.late l.fn.out) (g.M.MeshSink.faults l.fn.out) (g.M.MeshSink.late l.out);
}

abbrev pub decreases-lines : goal.decreases-lines
decreases-lines g l = l.lines.most
