-- The first entries are leaves, and seen.
use Rattle.std.proofs.Common.{◌≡◌, ℕ, length, take}
use Rattle.mesh_defs.specs.ClosedSet.{among}
use Rattle.mesh_laws.specs.Sweep.{is_flagged}
use Rattle.roam_certify.specs.Climb.{AreLeavesOf}
use Rattle.roam_certify.proofs.conforming.are_leaves.Given as goal

abbrev pub invariant-loop-index : goal.invariant-loop-index
invariant-loop-index l = record {
  room : length l.seen ≡ length l.fn.seen;
  same : (a : ℕ) → is_flagged l.seen a ≡ among (take l.index l.triangles) a;
  leaves : AreLeavesOf (is_flagged l.flags) (take l.index l.triangles);
}
