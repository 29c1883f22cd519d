-- What is below the counter was counted.
use Rattle.mesh_laws.specs.Sweep.{is_flagged}
use Rattle.roam_certify.specs.Climb.{IsCountedBelow}
use Rattle.roam_certify.proofs.conforming.count_splits.Given as goal

abbrev pub invariant-loop-number : goal.invariant-loop-number
invariant-loop-number l = IsCountedBelow l.n (is_flagged l.flags) l.number l.count
