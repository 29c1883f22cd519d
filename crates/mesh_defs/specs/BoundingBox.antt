-- The box around the part of the surface that a triangle stands for, and the camera's distance to it.
-- Lengths are in world units: a grid step is as many of them as the spacing, a unit of height is one.
-- Source: the nested bounds of Duchaineau et al., "ROAMing Terrain", IEEE Visualization 1997, the part on nested
-- bounds; that every grid point of the closed triangle counts is this project's own choice.
use Rattle.std.specs.Prelude.{ℕ, zero, suc, ◌+◌, ◌*◌, ◌/◌, ◌<◌, ◌≤◌, min, max, Bool, ◌&&◌, nat_le, if◌then◌else◌, List}
use Rattle.std.specs.Prelude.{[], ◌∷◌, map, filter, flat_map, ℤ, pos, ◌-ℤ◌, int_lt, unsigned_abs}
use Rattle.std.specs.List.{range_with_len}
use Rattle.mesh_defs.specs.declared.point.Point.{Point}
use Rattle.mesh_defs.specs.declared.point.Corners.{Corners}
use Rattle.mesh_defs.specs.HeightField.{side_of}
use Rattle.mesh_defs.specs.Triangle.{corners_of}
use Rattle.mesh_defs.specs.Thickness.{height_of}

-- a point of the plane
abbrev pub point : ℕ → ℕ → Point
point x y = record { x = x; y = y }

-- all points of a grid with this n, by y and then by x
unfoldable pub points_of : ℕ → List Point
points_of n = flat_map (λ y. map (λ x. point x y) (range_with_len 0 (side_of n))) (range_with_len 0 (side_of n))

-- the point r lies left of the line from p to q or on it
abbrev pub is_left_or_on : Point → Point → Point → Bool
is_left_or_on r p q = nat_le (p.y * q.x + q.y * r.x + r.y * p.x) (p.x * q.y + q.x * r.y + r.x * p.y)

-- the point lies in the closed triangle, its border included
abbrev pub is_in_closed : Corners → Point → Bool
is_in_closed c r = is_left_or_on r c.apex c.v0 && (is_left_or_on r c.v0 c.v1 && is_left_or_on r c.v1 c.apex)

abbrev pub holds_point : ℕ → ℕ → Point → Bool
holds_point n a r = is_in_closed (corners_of n a) r

-- the least entry of a list that has one
abbrev pub least : List ℕ → ℕ
least [] = 0
least (x ∷ []) = x
least (x ∷ (y ∷ ys)) = min x (least (y ∷ ys))

-- the greatest entry of a list, or 0 of an empty one
abbrev pub greatest : List ℕ → ℕ
greatest [] = 0
greatest (x ∷ xs) = max x (greatest xs)

-- the heights of all grid points in the closed triangle
abbrev pub heights_in : ℕ → List ℕ → ℕ → List ℕ
heights_in n heights a = map (height_of n heights) (filter (holds_point n a) (points_of n))

-- the least and the greatest height in the closed triangle
unfoldable pub low_of : ℕ → List ℕ → ℕ → ℕ
low_of n heights a = least (heights_in n heights a)

unfoldable pub high_of : ℕ → List ℕ → ℕ → ℕ
high_of n heights a = greatest (heights_in n heights a)

-- a box along the axes, in world units; each lower end is at most its upper end
pub record BoundingBox : Type 0 where
  pub x0 : ℤ
  pub x1 : ℤ
  pub y0 : ℤ
  pub y1 : ℤ
  pub z0 : ℤ
  pub z1 : ℤ

abbrev pub least_of_3 : ℕ → ℕ → ℕ → ℕ
least_of_3 i j k = min i (min j k)

abbrev pub greatest_of_3 : ℕ → ℕ → ℕ → ℕ
greatest_of_3 i j k = max i (max j k)

-- The box of triangle a: its bounding rectangle times the spacing, and its least and greatest height.
unfoldable pub box_of : ℕ → List ℕ → ℕ → ℕ → BoundingBox
box_of n heights spacing a =
    let c : Corners = corners_of n a in
    record {
      x0 = pos (spacing * least_of_3 c.apex.x c.v0.x c.v1.x);
      x1 = pos (spacing * greatest_of_3 c.apex.x c.v0.x c.v1.x);
      y0 = pos (spacing * least_of_3 c.apex.y c.v0.y c.v1.y);
      y1 = pos (spacing * greatest_of_3 c.apex.y c.v0.y c.v1.y);
      z0 = pos (low_of n heights a);
      z1 = pos (high_of n heights a);
    }

-- where the camera is, in world units
pub record CameraAt : Type 0 where
  pub x : ℤ
  pub y : ℤ
  pub z : ℤ

-- how far a coordinate is from the range low to high: 0 within it, else the distance to the nearer end
abbrev pub gap : ℤ → ℤ → ℤ → ℕ
gap v low high =
    if int_lt v low then unsigned_abs (low -ℤ v) else (if int_lt high v then unsigned_abs (v -ℤ high) else 0)

-- the sum of the squares of the three gaps
abbrev pub squared_distance : BoundingBox → CameraAt → ℕ
squared_distance box camera =
    let x : ℕ = gap camera.x box.x0 box.x1 in
    let y : ℕ = gap camera.y box.y0 box.y1 in
    let z : ℕ = gap camera.z box.z0 box.z1 in
    x * x + y * y + z * z

-- r is the square root of s, rounded down
pub record IsRoot (s r : ℕ) : Type 0 where
  pub square_within : r * r ≤ s
  pub next_square_above : s < (r + 1) * (r + 1)

-- The root by its digits in base 2: twice the root of a quarter, or one more. steps bounds the digits.
abbrev pub root_by : ℕ → ℕ → ℕ
root_by zero s = 0
root_by (suc steps) s = elim s as (λ _. ℕ) [
  | zero ↦ 0
  | suc k ↦
      let r : ℕ = 2 * root_by steps (suc k / 4) in
      if nat_le ((r + 1) * (r + 1)) (suc k) then r + 1 else r
]

-- the square root, rounded down; by the law roots() it is IsRoot of every number
unfoldable pub root_of : ℕ → ℕ
root_of s = root_by s s

-- The Euclidean distance of the camera to the box: the whole number d with d * d at most the sum of the
-- squares and (d + 1) * (d + 1) above it, in world units.
unfoldable pub distance_of : BoundingBox → CameraAt → ℕ
distance_of box camera = root_of (squared_distance box camera)
