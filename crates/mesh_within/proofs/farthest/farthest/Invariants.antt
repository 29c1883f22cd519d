use Rattle.std.proofs.Common.{◌≡◌, ℕ, ◌<◌, ◌≤◌, ◌⊎◌, ◌^◌, List}
use Rattle.mesh_defs.specs.declared.point.Point.{Point}
use Rattle.mesh_within.specs.declared.shape.Spot.{Spot}
use Rattle.mesh_within.specs.declared.shape.Facet.{Facet}
use Rattle.mesh_within.specs.Gap.{gap_of, Holds, IsSpot}
use Rattle.mesh_within.proofs.farthest.farthest.Given as goal

-- the farthest of the points in rows from low on and before y
pub record IsFarthest (right top : ℕ) (surface : List ℕ) (f : Facet) (low y : ℕ) (far : Spot) : Type 0 where
  pub small : far.gap < 2 ^ 48
  pub bound : (o : Point) → Holds right f o → low ≤ o.y → o.y < y → gap_of right top surface f o ≤ far.gap
  pub attained : (far.gap ≡ 0) ⊎ IsSpot right top surface f far

abbrev pub invariant-loop-y : goal.invariant-loop-y
invariant-loop-y l = IsFarthest l.right l.top l.surface l.f l.low l.y l.far
