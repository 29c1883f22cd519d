-- How far a surface is from a triangle's plane at a grid point, and which columns of a row a triangle holds.
-- Words: surface_at, area_across, gap_across, facet_in, IsFacet, gap_of, Holds, IsColumn, IsLeftAt, IsSpot.
use Rattle.std.specs.Prelude.{◌≡◌, ℕ, ◌+◌, ◌-◌, ◌*◌, ◌<◌, ◌≤◌, List, slice_index}
use Rattle.mesh_defs.specs.declared.point.Point.{Point}
use Rattle.mesh_defs.specs.Thickness.{apart}
use Rattle.mesh_cover.specs.Cover.{high_across, low_across, IsHeld, IsCounterclockwise}
use Rattle.mesh_cover.specs.Mesh.{IsWithin}
use Rattle.mesh_cover.specs.Conforming.{corner_in, height_in}
use Rattle.mesh_within.specs.declared.shape.Facet.{Facet}
use Rattle.mesh_within.specs.declared.shape.Spot.{Spot}
use Rattle.mesh_within.specs.declared.shape.Columns.{Columns}

-- the surface at o: heights by rows from the top, each from column 0 to column right
abbrev pub surface_at : ℕ → ℕ → List ℕ → Point → ℕ
surface_at right top surface o = slice_index surface ((top - o.y) * (right + 1) + o.x)

-- twice the area of the triangle r, p, q where that turns left, else 0
unfoldable pub area_across : Point → Point → Point → ℕ
area_across r p q = high_across r p q - low_across r p q

-- how far a height at o is from the plane through three corners and their heights, times twice the triangle's area
unfoldable pub gap_across : (a b c : Point) (za zb zc height : ℕ) (o : Point) → ℕ
gap_across a b c za zb zc height o =
    apart (area_across a b c * height) (area_across o b c * za + area_across o c a * zb + area_across o a b * zc)

-- triangle t of a mesh
abbrev pub facet_in : List Point → List ℕ → List ℕ → ℕ → Facet
facet_in points heights corners t = record {
  a = corner_in points corners (t * 3);
  b = corner_in points corners (t * 3 + 1);
  c = corner_in points corners (t * 3 + 2);
  za = height_in heights corners (t * 3);
  zb = height_in heights corners (t * 3 + 1);
  zc = height_in heights corners (t * 3 + 2);
  area = area_across (corner_in points corners (t * 3)) (corner_in points corners (t * 3 + 1)) (corner_in points corners (t * 3 + 2));
}

-- a triangle that turns left in the rectangle, and its area
pub record IsFacet (right top : ℕ) (f : Facet) : Type 0 where
  pub a : IsWithin right top f.a
  pub b : IsWithin right top f.b
  pub c : IsWithin right top f.c
  pub left : IsCounterclockwise f.a f.b f.c
  pub area : f.area ≡ area_across f.a f.b f.c

-- how far the surface is from its plane at o, times twice its area
abbrev pub gap_of : ℕ → ℕ → List ℕ → Facet → Point → ℕ
gap_of right top surface f o = gap_across f.a f.b f.c f.za f.zb f.zc (surface_at right top surface o) o

-- a grid point that the closed triangle holds
pub record Holds (right : ℕ) (f : Facet) (o : Point) : Type 0 where
  pub column : o.x ≤ right
  pub held : IsHeld f.a f.b f.c o

-- x is one of these columns
pub record IsColumn (columns : Columns) (x : ℕ) : Type 0 where
  pub from : columns.from ≤ x
  pub before : x < columns.end

-- the point in column x of row y does not lie right of the edge from p to q
abbrev pub IsLeftAt : ℕ → ℕ → Point → Point → Type 0
IsLeftAt x y p q = low_across (record { x = x; y = y }) p q ≤ high_across (record { x = x; y = y }) p q

-- the place and the gap of a grid point that the triangle holds
pub record IsSpot (right top : ℕ) (surface : List ℕ) (f : Facet) (s : Spot) : Type 0 where
  pub held : Holds right f (record { x = s.column; y = s.row })
  pub gap : s.gap ≡ gap_of right top surface f (record { x = s.column; y = s.row })
