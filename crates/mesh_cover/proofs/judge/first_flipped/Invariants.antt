use Rattle.std.proofs.Common.{ℕ, ◌<◌}
use Rattle.mesh_cover.specs.Conforming.{IsTurned}
use Rattle.mesh_cover.proofs.judge.first_flipped.Given as goal

abbrev pub invariant-loop-t : goal.invariant-loop-t
invariant-loop-t l = (k : ℕ) → k < l.t → IsTurned l.points l.corners k
