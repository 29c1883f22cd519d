-- The points so far are needed, or split.
use Rattle.std.proofs.Common.{◌≡◌, length, take}
use Rattle.fit_certify.specs.Keeping.{AreNeeded}
use Rattle.fit_certify.proofs.points.list_needs.Given as goal

abbrev pub invariant-loop-point : goal.invariant-loop-point
invariant-loop-point l = record {
  flags : length l.flags ≡ length l.fn.flags;
  needed : AreNeeded l.n l.points (take l.point-index l.points) l.needs.items l.flags;
}
