-- The points so far are marked.
use Rattle.std.proofs.Common.{◌≡◌, take}
use Rattle.fit_certify.specs.Keeping.{AreMarked}
use Rattle.fit_certify.proofs.points.mark.Given as goal

abbrev pub invariant-loop-point : goal.invariant-loop-point
invariant-loop-point l = record {
  n : l.marks.n ≡ l.fn.marks.n;
  maxval : l.marks.maxval ≡ l.fn.marks.maxval;
  marked : AreMarked (take l.point-index l.points) l.marks;
}
