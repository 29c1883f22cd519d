use Rattle.std.proofs.Common.{◌≡◌, ℕ, ◌<◌, ◌≤◌, ◌⊎◌, ◌^◌}
use Rattle.mesh_within.specs.declared.shape.Spot.{Spot}
use Rattle.mesh_within.specs.declared.shape.Facet.{Facet}
use Rattle.std.proofs.Common.{List}
use Rattle.mesh_within.specs.Gap.{gap_of, IsSpot}
use Rattle.mesh_within.proofs.farthest.farthest_in_row.Given as goal

-- the farthest of the spot before the row and of the row's columns before x
pub record IsFarthest (right top : ℕ) (surface : List ℕ) (f : Facet) (y from x : ℕ) (before far : Spot) : Type 0 where
  pub more : before.gap ≤ far.gap
  pub small : far.gap < 2 ^ 48
  pub bound : (k : ℕ) → from ≤ k → k < x → gap_of right top surface f (record { x = k; y = y }) ≤ far.gap
  pub attained : (far.gap ≡ 0) ⊎ IsSpot right top surface f far

abbrev pub invariant-loop-x : goal.invariant-loop-x
invariant-loop-x l = IsFarthest l.right l.top l.surface l.f l.y l.fn.columns.from l.x l.fn.spot l.far
