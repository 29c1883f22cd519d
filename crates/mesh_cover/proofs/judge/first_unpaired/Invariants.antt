use Rattle.std.proofs.Common.{ℕ, ◌<◌, ◌/◌, length, slice_index}
use Rattle.mesh_cover.specs.Conforming.{corner_in, height_in, IsJoined}
use Rattle.mesh_cover.proofs.judge.first_unpaired.Given as goal

abbrev pub invariant-loop-h : goal.invariant-loop-h
invariant-loop-h l = (k : ℕ) → k < l.h → IsJoined l.right l.top (length l.corners / 3) (corner_in l.points l.corners)
    (height_in l.heights l.corners) (slice_index l.across) k
