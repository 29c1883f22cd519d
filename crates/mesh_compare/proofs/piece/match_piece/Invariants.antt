use Rattle.std.proofs.Common.{◌≡◌, take, false}
use Rattle.roam_edge.specs.Fault.{IsInTime}
use Rattle.roam_edge.specs.Told.{StaysTold}
use Rattle.mesh_compare.specs.Differs.{HasFront, left_of}
use Rattle.mesh_compare.proofs.piece.match_piece.Given as goal

-- the file has the bytes so far
abbrev pub invariant-loop-i : goal.invariant-loop-i
invariant-loop-i g l = record {
  has : HasFront (take l.i l.piece) (left_of l.fn.window (g.F.Shelf.rest l.fn.shelf))
      (left_of l.window (g.F.Shelf.rest l.shelf));
  not_ended : g.F.Shelf.ended l.shelf ≡ false;
  told : StaysTold (g.F.Shelf.rest l.fn.shelf) (g.F.Shelf.rest l.shelf);
  files : g.F.Shelf.files l.shelf ≡ g.F.Shelf.files l.fn.shelf;
  opens : g.F.Shelf.opens l.shelf ≡ g.F.Shelf.opens l.fn.shelf;
  calm : g.F.Shelf.faults l.shelf ≡ g.F.Shelf.faults l.fn.shelf;
  in_time : IsInTime (g.F.Shelf.late l.fn.shelf) (g.F.Shelf.faults l.fn.shelf) (g.F.Shelf.late l.shelf);
}
