use Rattle.std.proofs.Common.{◌≡◌, ◌+◌, ◌*◌, ◌≤◌, [], false}
use Rattle.roam_edge.specs.Fault.{IsInTime}
use Rattle.obj_write.specs.declared.lines.TheConstants.{LONGEST_PIECE}
use Rattle.roam_edge.specs.Told.{StaysTold}
use Rattle.mesh_compare.specs.Differs.{Agrees, left_of}
use Rattle.mesh_compare.proofs.comparing.compare_lines.Given as goal

-- the file has the lines so far, and each of them had at most so many bytes
abbrev pub invariant-lines : goal.invariant-lines
invariant-lines g l = record {
  agrees : Agrees l.fn.lines.text (left_of l.fn.window (g.F.Shelf.rest l.fn.shelf)) l.lines.text
      (left_of l.window (g.F.Shelf.rest l.shelf)) l.at;
  clear : l.piece.items ≡ [];
  room : l.at + LONGEST_PIECE * l.lines.most ≤ LONGEST_PIECE * l.fn.lines.most;
  not_ended : g.F.Shelf.ended l.shelf ≡ false;
  told : StaysTold (g.F.Shelf.rest l.fn.shelf) (g.F.Shelf.rest l.shelf);
  files : g.F.Shelf.files l.shelf ≡ g.F.Shelf.files l.fn.shelf;
  opens : g.F.Shelf.opens l.shelf ≡ g.F.Shelf.opens l.fn.shelf;
  calm : g.F.Shelf.faults l.shelf ≡ g.F.Shelf.faults l.fn.shelf;
  in_time : IsInTime (g.F.Shelf.late l.fn.shelf) (g.F.Shelf.faults l.fn.shelf) (g.F.Shelf.late l.shelf);
}

abbrev pub decreases-lines : goal.decreases-lines
decreases-lines g l = l.lines.most
