use Rattle.std.proofs.Common.{◌≡◌, ℕ, length, take}
use Rattle.mesh_defs.specs.ClosedSet.{among}
use Rattle.mesh_laws.specs.Sweep.{is_flagged}
use Rattle.fit_mesh.proofs.force.set_back.Given as goal

abbrev pub invariant-loop-place : goal.invariant-loop-place
invariant-loop-place l = record {
  flags : length l.flags ≡ length l.fn.flags;
  same : (a : ℕ) → is_flagged l.flags a ≡ among (take l.place l.log) a;
}
