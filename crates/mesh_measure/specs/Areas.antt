-- The areas between a point and the edges of a triangle, as differences of two sums.
-- Words: high_across, low_across, AreSumsAcross, AreAcross, AreSmall, sum_of_weighted.
use Rattle.std.specs.Prelude.{◌≡◌, ℕ, ◌+◌, ◌-◌, ◌*◌, ◌≤◌}
use Rattle.mesh_defs.specs.declared.point.Point.{Point}
use Rattle.mesh_defs.specs.declared.point.Corners.{Corners}
use Rattle.mesh_measure.specs.declared.areas.Across.{Across}
use Rattle.mesh_measure.specs.declared.areas.Areas.{Areas}

-- twice the area of the triangle r, p, q is the first sum less the second
abbrev pub high_across : Point → Point → Point → ℕ
high_across r p q = p.x * q.y + q.x * r.y + r.x * p.y

abbrev pub low_across : Point → Point → Point → ℕ
low_across r p q = p.y * q.x + q.y * r.x + r.y * p.x

-- s has both sums of r and the edge from p to q
pub record AreSumsAcross (r p q : Point) (s : Across) : Type 0 where
  pub high : s.high ≡ high_across r p q
  pub low : s.low ≡ low_across r p q

-- s has those of r and the three edges of c
pub record AreAcross (c : Corners) (r : Point) (s : Areas) : Type 0 where
  pub apex : AreSumsAcross r c.v0 c.v1 s.apex
  pub v0 : AreSumsAcross r c.v1 c.apex s.v0
  pub v1 : AreSumsAcross r c.apex c.v0 s.v1

-- no sum is greater than at a point of the largest grid
pub record AreSmall (s : Areas) : Type 0 where
  pub apex_high : s.apex.high ≤ 805306368
  pub apex_low : s.apex.low ≤ 805306368
  pub v0_high : s.v0.high ≤ 805306368
  pub v0_low : s.v0.low ≤ 805306368
  pub v1_high : s.v1.high ≤ 805306368
  pub v1_low : s.v1.low ≤ 805306368

-- three numbers, each as often as the area across from its corner
abbrev pub sum_of_weighted : Areas → ℕ → ℕ → ℕ → ℕ
sum_of_weighted s apex v0 v1 =
    (s.apex.high - s.apex.low) * apex + (s.v0.high - s.v0.low) * v0 + (s.v1.high - s.v1.low) * v1
