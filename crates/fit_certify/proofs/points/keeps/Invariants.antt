-- The triangles of the points so far are flagged.
use Rattle.std.proofs.Common.{take}
use Rattle.mesh_defs.specs.ClosedSet.{IsSubset}
use Rattle.mesh_laws.specs.Sweep.{is_flagged}
use Rattle.certificate_laws.specs.Keeping.{is_centred}
use Rattle.fit_certify.proofs.points.keeps.Given as goal

abbrev pub invariant-loop-point : goal.invariant-loop-point
invariant-loop-point l = record {
  kept : IsSubset (is_centred l.n (take l.point-index l.points)) (is_flagged l.flags);
}
