-- Changes of heights, and the triangles that they reach. This project's own words.
-- Which rectangles share a point, `Areas` of bintree_laws says.
-- Words: area_between, is_in_row, placed_at, with_row, IsClearOf, AgreesOn.
use Rattle.std.specs.Prelude.{◌≡◌, ℕ, ◌+◌, ◌-◌, ◌^◌, ◌/◌, ◌%◌, true, Bool, ◌&&◌, nat_le, nat_lt, nat_eq, if◌then◌else◌}
use Rattle.std.specs.Prelude.{List, length, map, slice_index}
use Rattle.std.specs.List.{enumerate_from}
use Rattle.mesh_defs.specs.declared.point.Point.{Point}
use Rattle.mesh_defs.specs.HeightField.{HeightField, side_of}
use Rattle.mesh_defs.specs.Thickness.{height_of}
use Rattle.mesh_defs.specs.BoundingBox.{holds_point}
use Rattle.mesh_defs.specs.State.{Area, is_in_area}

-- the area of columns x0 to x1 and rows y0 to y1
abbrev pub area_between : ℕ → ℕ → ℕ → ℕ → Area
area_between left low right high = record { x0 = left; y0 = low; x1 = right; y1 = high }

-- the point (i, j) is one of this many from (x, y) to the right
abbrev pub is_in_row : ℕ → ℕ → ℕ → ℕ → ℕ → Bool
is_in_row x y count i j = nat_eq j y && nat_le x i && nat_lt i (x + count)

-- for a place in file order and its height: the height there after these stand from (x, y) to the right
abbrev pub placed_at : ℕ → ℕ → ℕ → List ℕ → ℕ × ℕ → ℕ
placed_at n x y row entry =
    let column : ℕ = entry.0 % side_of n in
    if is_in_row x y (length row) column (2 ^ n - entry.0 / side_of n) then slice_index row (column - x) else entry.1

-- all heights in file order, with a row of heights from the point (x, y) to the right
abbrev pub with_row : HeightField → ℕ → ℕ → List ℕ → List ℕ
with_row field x y row = map (placed_at field.n x y row) (enumerate_from 0 field.heights)

-- triangle a holds no point of the area
abbrev pub IsClearOf : ℕ → Area → ℕ → Type 0
IsClearOf n area a = (r : Point) → holds_point n a r ≡ true → is_in_area area r.x r.y ≡ true → ⊥

-- each point that triangle a holds has one height in both lists
abbrev pub AgreesOn : ℕ → List ℕ → List ℕ → ℕ → Type 0
AgreesOn n heights others a = (r : Point) → holds_point n a r ≡ true → height_of n heights r ≡ height_of n others r
