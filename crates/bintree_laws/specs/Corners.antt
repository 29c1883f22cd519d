-- Where the corners of a triangle lie: within the square, with a base whose midpoint is a grid point, and
-- counterclockwise.
use Rattle.std.specs.Prelude.{◌≡◌, ◌≢◌, ℕ, ◌+◌, ◌*◌, ◌%◌, ◌<◌, ◌≤◌}
use Rattle.mesh_defs.specs.declared.point.Point.{Point}
use Rattle.mesh_defs.specs.declared.point.Corners.{Corners}

-- every coordinate of the three corners is at most m
pub record IsWithin (m : ℕ) (c : Corners) : Type 0 where
  pub apex_x : c.apex.x ≤ m
  pub apex_y : c.apex.y ≤ m
  pub v0_x : c.v0.x ≤ m
  pub v0_y : c.v0.y ≤ m
  pub v1_x : c.v1.x ≤ m
  pub v1_y : c.v1.y ≤ m

-- the point halfway between the ends of the base has whole coordinates
pub record HasEvenBase (c : Corners) : Type 0 where
  pub x : (c.v0.x + c.v1.x) % 2 ≡ 0
  pub y : (c.v0.y + c.v1.y) % 2 ≡ 0

-- both coordinates of the point are at most m
pub record IsInSquare (m : ℕ) (p : Point) : Type 0 where
  pub x : p.x ≤ m
  pub y : p.y ≤ m

-- the base of the one runs from the end to the beginning of the other's
abbrev pub IsReversed : Corners → Corners → Type 0
IsReversed c d = (c.v0 ≡ d.v1) × (c.v1 ≡ d.v0)

-- The corners are named counterclockwise: twice the area that they enclose is positive, its negative terms on
-- the left side.
abbrev pub IsCounterclockwise : Corners → Type 0
IsCounterclockwise c =
    c.apex.y * c.v0.x + c.v0.y * c.v1.x + c.v1.y * c.apex.x < c.apex.x * c.v0.y + c.v0.x * c.v1.y + c.v1.x * c.apex.y

-- no two of the corners are one point
abbrev pub AreApart : Corners → Type 0
AreApart c = (c.apex ≢ c.v0) × (c.v0 ≢ c.v1) × (c.v1 ≢ c.apex)
