-- The triangles of the points so far are split.
use Rattle.std.proofs.Common.{◌≡◌, ◌^◌, All, length, take}
use Rattle.mesh_defs.specs.ClosedSet.{IsClosed, IsLeastClosed}
use Rattle.bintree_laws.specs.Corners.{IsInSquare}
use Rattle.mesh_laws.specs.Sweep.{is_flagged}
use Rattle.certificate_laws.specs.Keeping.{is_centred}
use Rattle.fit_certify.proofs.points.split_centred.Given as goal

abbrev pub invariant-loop-point : goal.invariant-loop-point
invariant-loop-point l = record {
  flags : length l.flags ≡ length l.fn.flags;
  closed : IsClosed l.n (is_flagged l.flags);
  least : All (IsInSquare (2 ^ l.n)) l.needs →
      IsLeastClosed l.n (is_centred l.n (take l.point-index l.needs)) (is_flagged l.flags);
}
