use Rattle.mesh_within.specs.Deviation.{IsDeviationBefore}
use Rattle.mesh_within.proofs.deviation.greatest_deviation.Given as goal

abbrev pub invariant-loop-t : goal.invariant-loop-t
invariant-loop-t l = IsDeviationBefore l.right l.top l.surface l.points l.heights l.corners l.t l.worst
