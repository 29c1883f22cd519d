-- A mesh of triangles over a rectangle of grid points, by the corners of its triangles, three after three, and for each edge
-- its partner: the same edge of the neighbour. Edge h leads from corner h to the next corner of its triangle; an edge on a side
-- of the rectangle is its own partner. Columns run from 0 to right, rows from 0 to top.
-- Source: the half-open rule of point location by crossings (Hormann and Agathos, "The point in polygon problem for arbitrary
-- polygons", Computational Geometry 20, 2001, section 2), summed over the triangles; the rule of partners is this project's own.
-- Words: next_corner, IsOnSide, IsSeam, rise_at, IsPartnered, IsInside, times, IsHeldBy, IsInsideOf, IsTiling, TilingLaw.
use Rattle.std.specs.Prelude.{◌≡◌, ◌≢◌, ℕ, ◌+◌, ◌*◌, ◌/◌, ◌%◌, ◌<◌, ◌≤◌, ◌⊎◌, ◌&&◌, nat_eq, nat_le, nat_lt, cond}
use Rattle.mesh_defs.specs.declared.point.Point.{Point}
use Rattle.mesh_cover.specs.Cover.{high_across, low_across, IsCounterclockwise, IsHeld}
use Rattle.mesh_cover.specs.Sums.{sum_below}

-- the next corner of the same triangle
abbrev pub next_corner : ℕ → ℕ
next_corner h = h / 3 * 3 + (h + 1) % 3

-- the edge from p to q lies on a side of the rectangle; on the right one it goes up
abbrev pub IsOnSide : ℕ → ℕ → Point → Point → Type 0
IsOnSide right top p q =
    ((p.y ≡ 0) × (q.y ≡ 0))
    ⊎ (((p.y ≡ top) × (q.y ≡ top)) ⊎ (((p.x ≡ 0) × (q.x ≡ 0)) ⊎ ((p.x ≡ right) × (q.x ≡ right) × (p.y < q.y))))

-- edge h is its own partner and lies on a side, or its partner is the same edge the other way round
abbrev pub IsSeam : ℕ → ℕ → (ℕ → Point) → (ℕ → ℕ) → ℕ → Type 0
IsSeam right top corner across h =
    ((across h ≡ h) × IsOnSide right top (corner h) (corner (next_corner h)))
    ⊎ ((across h ≢ h) × (corner h ≡ corner (next_corner (across h))) × (corner (next_corner h) ≡ corner (across h)))

-- 1 where edge h is its own partner, lies on the right side and has row y, its upper end left out
abbrev pub rise_at : ℕ → (ℕ → Point) → (ℕ → ℕ) → ℕ → ℕ → ℕ
rise_at right corner across y h =
    cond (nat_eq (across h) h && (nat_eq (corner h).x right && (nat_eq (corner (next_corner h)).x right
    && (nat_le (corner h).y y && nat_lt y (corner (next_corner h)).y)))) 1 0

-- a point in the rectangle
pub record IsWithin (right top : ℕ) (p : Point) : Type 0 where
  pub column : p.x ≤ right
  pub row : p.y ≤ top

-- The rule of partners, of so many triangles: each corner lies in the rectangle, each triangle turns left, partners lead back
-- and are the same edge the other way round, an edge without a neighbour lies on a side, and each row of the right side lies in
-- exactly one of those.
pub record IsPartnered (right top count : ℕ) (corner : ℕ → Point) (across : ℕ → ℕ) : Type 0 where
  pub within : (h : ℕ) → h < count * 3 → IsWithin right top (corner h)
  pub turns : (t : ℕ) → t < count → IsCounterclockwise (corner (t * 3)) (corner (t * 3 + 1)) (corner (t * 3 + 2))
  pub below : (h : ℕ) → h < count * 3 → across h < count * 3
  pub back : (h : ℕ) → h < count * 3 → across (across h) ≡ h
  pub seams : (h : ℕ) → h < count * 3 → IsSeam right top corner across h
  pub sides : (y : ℕ) → y < top → sum_below (count * 3) (rise_at right corner across y) ≡ 1

-- o lies strictly inside a triangle
pub record IsInside (a b c o : Point) : Type 0 where
  pub ab : low_across o a b < high_across o a b
  pub bc : low_across o b c < high_across o b c
  pub ca : low_across o c a < high_across o c a

-- a point k times as far from the corner (0, 0)
abbrev pub times : ℕ → Point → Point
times k p = record { x = k * p.x; y = k * p.y }

-- the closed triangle t holds the point whose coordinates are those of o over k
abbrev pub IsHeldBy : ℕ → (ℕ → Point) → ℕ → Point → Type 0
IsHeldBy k corner t o = IsHeld (times k (corner (t * 3))) (times k (corner (t * 3 + 1))) (times k (corner (t * 3 + 2))) o

-- that point lies strictly inside triangle t
abbrev pub IsInsideOf : ℕ → (ℕ → Point) → ℕ → Point → Type 0
IsInsideOf k corner t o = IsInside (times k (corner (t * 3))) (times k (corner (t * 3 + 1))) (times k (corner (t * 3 + 2))) o

-- A tiling: each point of the closed rectangle with rational coordinates, o over k, lies in a closed triangle, and strictly inside
-- one at most.
pub record IsTiling (right top count : ℕ) (corner : ℕ → Point) : Type 0 where
  pub covers : (k : ℕ) → 0 < k → (o : Point) → o.x ≤ k * right → o.y ≤ k * top → (t : ℕ) × (t < count) × IsHeldBy k corner t o
  pub apart : (k : ℕ) → 0 < k → (o : Point) → o.x ≤ k * right → o.y ≤ k * top → (s t : ℕ) → s < count → t < count →
      IsInsideOf k corner s o → IsInsideOf k corner t o → s ≡ t

-- the rule of partners makes a tiling
abbrev pub TilingLaw : Type 0
TilingLaw = (right top count : ℕ) (corner : ℕ → Point) (across : ℕ → ℕ) → 0 < right → 0 < top →
    IsPartnered right top count corner across → IsTiling right top count corner
