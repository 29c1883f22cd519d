-- The heights so far.
use Rattle.std.proofs.Common.{◌≡◌, take}
use Rattle.tin_mesh.specs.Tin.{heights_at}
use Rattle.tin_mesh.proofs.judging.heights_of.Given as goal

abbrev pub invariant-loop-point : goal.invariant-loop-point
invariant-loop-point l = l.heights.items ≡ heights_at l.grid (take l.point-index l.points)
