-- The reasons so far lead to the flagged set.
use Rattle.std.proofs.Common.{◌≡◌, length, take}
use Rattle.mesh_defs.specs.ClosedSet.{IsClosed}
use Rattle.mesh_laws.specs.Sweep.{is_flagged}
use Rattle.certificate_laws.specs.FitCertificate.{LeadsTo}
use Rattle.fit_certify.proofs.replay.replay.Given as goal

abbrev pub invariant-loop-index : goal.invariant-loop-index
invariant-loop-index l = record {
  flags : length l.flags ≡ length l.fn.flags;
  closed : IsClosed l.grid.n (is_flagged l.flags);
  leads : LeadsTo l.grid.n l.grid.heights l.tolerance (is_flagged l.fn.flags)
      (take l.index l.reasons) (is_flagged l.flags);
}
