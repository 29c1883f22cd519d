-- Lists of triangles that cover the square once and without cracks.
-- Every edge of a triangle runs along a row, a column or a diagonal through grid points, so a few sample
-- points in each grid square decide what covers what (this project's own form of a triangulation).
-- Words: IsSample, is_left, is_within, is_inside, Tiles, IsOnLine, IsBetween, IsStrictlyBetween, IsConforming.
use Rattle.std.specs.Prelude.{◌≡◌, ℕ, ◌+◌, ◌*◌, ◌%◌, ◌^◌, ◌<◌, ◌⊎◌, Bool, ◌&&◌, nat_lt, List, All, Contains, count_by}
use Rattle.mesh_defs.specs.declared.point.Point.{Point}
use Rattle.mesh_defs.specs.declared.point.Corners.{Corners}
use Rattle.mesh_defs.specs.Triangle.{IsAddress, corners_of, IsCorner, IsEdge}

-- In quarters of a grid step, (x, y) is one of the four sample points of a grid square:
-- (2, 1), (2, 3), (1, 2) and (3, 2) from the square's lower left corner.
pub record IsSample (n x y : ℕ) : Type 0 where
  pub x_within : x < 4 * 2 ^ n
  pub y_within : y < 4 * 2 ^ n
  pub placed : ((x % 4 ≡ 2) × (y % 2 ≡ 1)) ⊎ ((x % 2 ≡ 1) × (y % 4 ≡ 2))

-- (x, y), in quarters of a grid step, lies strictly left of the line from p to q
abbrev pub is_left : ℕ → ℕ → Point → Point → Bool
is_left x y p q = nat_lt (4 * p.y * q.x + q.y * x + y * p.x) (4 * p.x * q.y + q.x * y + x * p.y)

-- (x, y), in quarters of a grid step, lies strictly inside the triangle
abbrev pub is_within : ℕ → ℕ → Corners → Bool
is_within x y c = is_left x y c.apex c.v0 && (is_left x y c.v0 c.v1 && is_left x y c.v1 c.apex)

abbrev pub is_inside : ℕ → ℕ → ℕ → ℕ → Bool
is_inside n x y a = is_within x y (corners_of n a)

-- each sample point of the square lies strictly inside exactly one entry
abbrev pub Tiles : ℕ → List ℕ → Type 0
Tiles n triangles = (x y : ℕ) → IsSample n x y → count_by (is_inside n x y) triangles ≡ 1

-- r lies on the line through p and q
abbrev pub IsOnLine : Point → Point → Point → Type 0
IsOnLine p q r = p.x * q.y + q.x * r.y + r.x * p.y ≡ p.y * q.x + q.y * r.x + r.y * p.x

-- k lies strictly between i and j
abbrev pub IsBetween : ℕ → ℕ → ℕ → Type 0
IsBetween i j k = ((i < k) × (k < j)) ⊎ ((j < k) × (k < i))

-- r lies on the segment from p to q and is neither of its ends
pub record IsStrictlyBetween (p q r : Point) : Type 0 where
  pub on_line : IsOnLine p q r
  pub between : IsBetween p.x q.x r.x ⊎ IsBetween p.y q.y r.y

-- A conforming list: triangles of the grid that tile the square, where no corner of one lies inside an
-- edge of another. So two of them meet in a whole edge, a corner or nothing, and the surface has no cracks.
pub record IsConforming (n : ℕ) (triangles : List ℕ) : Type 0 where
  pub addresses : All (IsAddress n) triangles
  pub tiles : Tiles n triangles
  pub whole_edges : (a b : ℕ) (p q r : Point) → Contains triangles a → Contains triangles b →
      IsCorner (corners_of n a) r → IsEdge (corners_of n b) p q → IsStrictlyBetween p q r → ⊥
