-- The parents of the first entries are flagged.
use Rattle.std.proofs.Common.{◌≡◌, length, take}
use Rattle.mesh_laws.specs.Sweep.{is_flagged}
use Rattle.roam_certify.specs.Climb.{AreParentsFlagged}
use Rattle.roam_certify.proofs.conforming.flag_parents.Given as goal

abbrev pub invariant-loop-index : goal.invariant-loop-index
invariant-loop-index l = record {
  room : length l.flags ≡ length l.fn.flags;
  entered : AreParentsFlagged l.triangles (take l.index l.triangles) (is_flagged l.flags);
}
