use Rattle.std.proofs.Common.{ℕ, ◌<◌}
use Rattle.mesh_cover.specs.Conforming.{IsCorner}
use Rattle.mesh_cover.proofs.judge.first_off.Given as goal

abbrev pub invariant-loop-h : goal.invariant-loop-h
invariant-loop-h l = (k : ℕ) → k < l.h → IsCorner l.right l.top l.points l.corners k
