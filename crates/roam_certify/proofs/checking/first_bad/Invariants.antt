-- The reasons so far are good, and the flags are those of their triangles.
use Rattle.std.proofs.Common.{◌≡◌, ℕ, [], length, take}
use Rattle.mesh_laws.specs.Sweep.{is_flagged}
use Rattle.certificate_laws.specs.Certificate.{named_in, AreReasons}
use Rattle.mesh_defs.specs.State.{priority_seen}
use Rattle.roam_certify.proofs.checking.first_bad.Given as goal

abbrev pub invariant-loop-index : goal.invariant-loop-index
invariant-loop-index l = record {
  room : length l.flags ≡ length l.fn.flags;
  good : AreReasons l.n (priority_seen l.scene) l.worst [] (take l.index l.reasons);
  same : (a : ℕ) → is_flagged l.flags a ≡ named_in (take l.index l.reasons) a;
}
