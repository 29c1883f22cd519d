-- A point that shows that a triangle is off by more than a tolerance. This project's own word.
-- Words: IsAbove.
use Rattle.std.specs.Prelude.{◌≡◌, ℕ, ◌^◌, ◌<◌, ◌≤◌, true, List}
use Rattle.mesh_defs.specs.declared.point.Point.{Point}
use Rattle.mesh_defs.specs.BoundingBox.{holds_point}
use Rattle.fit_laws.specs.PlaneHeight.{off_plane}

-- r is a point of the grid that triangle a holds, where the surface is farther from its plane than the tolerance
pub record IsAbove (n : ℕ) (heights : List ℕ) (a tolerance : ℕ) (r : Point) : Type 0 where
  pub column : r.x ≤ 2 ^ n
  pub row : r.y ≤ 2 ^ n
  pub held : holds_point n a r ≡ true
  pub above : tolerance < off_plane n heights a r
