-- The points so far are needed.
use Rattle.std.proofs.Common.{List, All, take}
use Rattle.mesh_defs.specs.declared.point.Point.{Point}
use Rattle.certificate_laws.specs.Keeping.{IsNeed}
use Rattle.fit_certify.specs.Keeping.{AreMarked}
use Rattle.fit_certify.proofs.points.bad_need.Given as goal

abbrev pub invariant-loop-index : goal.invariant-loop-index
invariant-loop-index l = record {
  needs : (points : List Point) → AreMarked points l.marks → All (IsNeed l.marks.n points) (take l.index l.needs);
}
