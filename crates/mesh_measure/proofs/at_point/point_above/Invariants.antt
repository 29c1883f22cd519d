use Rattle.std.proofs.Common.{ℕ, ◌<◌, ◌≤◌}
use Rattle.mesh_defs.specs.BoundingBox.{point}
use Rattle.mesh_measure.specs.Above.{IsAbove}
use Rattle.mesh_measure.proofs.at_point.point_above.Given as goal

abbrev pub invariant-loop-y : goal.invariant-loop-y
invariant-loop-y l = (k j : ℕ) → l.bounds.left ≤ k → k ≤ l.bounds.right → l.bounds.low ≤ j → j < l.y →
    IsAbove l.grid.n l.grid.heights l.t l.tolerance (point k j) → ⊥
