-- All that were passed end before the triangle.
use Rattle.std.proofs.Common.{ℕ, ◌-◌, ◌<◌, ◌≤◌, length, get_or}
use Rattle.std.specs.List.{All}
use Rattle.mesh_arrays.specs.Changes.{IsTriangle, end_of}
use Rattle.mesh_arrays.proofs.changes.pass.Given as goal

abbrev pub invariant-loop-at : goal.invariant-loop-at
invariant-loop-at l = record {
  on : l.from ≤ l.at;
  within : l.at ≤ length l.those;
  before : All IsTriangle l.those → IsTriangle l.t → (k : ℕ) → l.from ≤ k → k < l.at →
      end_of (get_or l.those k 0) < end_of l.t;
}

abbrev pub decreases-loop-at : goal.decreases-loop-at
decreases-loop-at l = length l.initial.those - l.at
