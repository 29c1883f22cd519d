use Rattle.std.proofs.Common.{ℕ, ◌<◌, ◌≤◌}
use Rattle.mesh_defs.specs.BoundingBox.{point}
use Rattle.mesh_measure.specs.Above.{IsAbove}
use Rattle.mesh_measure.proofs.at_point.row_above.Given as goal

abbrev pub invariant-loop-x : goal.invariant-loop-x
invariant-loop-x l = (k : ℕ) → l.left ≤ k → k < l.x → IsAbove l.grid.n l.grid.heights l.t l.tolerance (point k l.y) → ⊥
