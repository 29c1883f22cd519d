-- Points that are kept: marked on the grid, and needed one after the other. This project's own words.
-- Words: AreMarked, AreNeeded.
use Rattle.std.specs.Prelude.{◌≡◌, ◌↔◌, ℕ, ◌^◌, ◌≤◌, Bool, List, All, Contains, length}
use Rattle.mesh_defs.specs.declared.point.Point.{Point}
use Rattle.mesh_defs.specs.HeightField.{HeightField, height_at}
use Rattle.mesh_defs.specs.ClosedSet.{IsLeastClosed, IsSubset}
use Rattle.bintree_laws.specs.Corners.{IsInSquare}
use Rattle.mesh_laws.specs.Sweep.{is_flagged}
use Rattle.certificate_laws.specs.Keeping.{is_centred, IsNeed}

-- the points lie on the grid, whose height is 1 at them and nowhere else
pub record AreMarked (points : List Point) (marks : HeightField) : Type 0 where
  pub inside : All (IsInSquare (2 ^ marks.n)) points
  pub told : (q : Point) → IsInSquare (2 ^ marks.n) q →
      (height_at marks.n marks.heights q.x q.y ≡ 1) ↔ Contains points q

-- the needed points of a certificate for some of the points that are kept: with what they force, they are all that is
-- flagged, and all triangles whose centres are those some points are
pub record AreNeeded (n : ℕ) (points some needs : List Point) (flags : List Bool) : Type 0 where
  pub are : All (IsNeed n points) needs
  pub begun : IsLeastClosed n (is_centred n needs) (is_flagged flags)
  pub kept : IsSubset (is_centred n some) (is_flagged flags)
  pub few : length needs ≤ length some
