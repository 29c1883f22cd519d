-- Whether a page has the heights that the loaded pages agree on, at the points that they share.
-- The sides of a square are numbered as its quarters: lower (0), left (1), upper (2) and right (3).
-- This project's own.
-- Words: IsBesideAt, on_side, twice, moved_by, corner_above, IsAgreedInside, IsAgreedAt, IsAgreed, IsDifferingAt,
-- IsDiffering.
use Rattle.std.specs.Prelude.{◌≡◌, ℕ, zero, suc, ◌+◌, ◌-◌, ◌*◌, ◌%◌, ◌^◌, ◌≤◌, IsTrue, is_some, List}
use Rattle.mesh_defs.specs.declared.point.Point.{Point}
use Rattle.mesh_defs.specs.Thickness.{height_of}
use Rattle.bintree_laws.specs.Corners.{IsInSquare}
use Rattle.page_laws.specs.Pages.{page_point, IsLoadedPoint}
use Rattle.page_store.specs.Store.{Store, page_at, pages_of, height_in}

-- u is the square beside t at this side
abbrev pub IsBesideAt : ℕ → Point → Point → Type 0
IsBesideAt zero t u = (t.x ≡ u.x) × (t.y ≡ u.y + 1)
IsBesideAt (suc zero) t u = (t.x ≡ u.x + 1) × (t.y ≡ u.y)
IsBesideAt (suc (suc zero)) t u = (t.x ≡ u.x) × (u.y ≡ t.y + 1)
IsBesideAt (suc (suc (suc _))) t u = (u.x ≡ t.x + 1) × (t.y ≡ u.y)

-- point k of this side of the square of side m
abbrev pub on_side : ℕ → ℕ → ℕ → Point
on_side m zero k = record { x = k; y = 0 }
on_side m (suc zero) k = record { x = 0; y = k }
on_side m (suc (suc zero)) k = record { x = k; y = m }
on_side m (suc (suc (suc _))) k = record { x = m; y = k }

-- the point with twice these coordinates
abbrev pub twice : Point → Point
twice c = record { x = 2 * c.x; y = 2 * c.y }

-- the point so far from a corner
abbrev pub moved_by : Point → Point → Point
moved_by corner c = record { x = corner.x + c.x; y = corner.y + c.y }

-- the corner of square t's page in the grid of the coarser page
abbrev pub corner_above : ℕ → Point → Point
corner_above n t = record { x = t.x % 2 * 2 ^ (n - 1); y = t.y % 2 * 2 ^ (n - 1) }

-- A page of these heights has the heights of the terrain at its points of two steps each, which the coarser page has.
abbrev pub IsAgreedInside : Store → ℕ → Point → List ℕ → Type 0
IsAgreedInside s q t heights = (c : Point) → IsInSquare (2 ^ (s.n - 1)) c →
    height_of s.n heights (twice c) ≡ height_in s (page_point s.n q t (twice c))

-- And at the points of this side, if the page beside it is loaded.
abbrev pub IsAgreedAt : Store → ℕ → Point → List ℕ → ℕ → Type 0
IsAgreedAt s q t heights side = (u : Point) (k : ℕ) → IsTrue (is_some (page_at s q u)) → IsBesideAt side t u →
    k ≤ 2 ^ s.n → height_of s.n heights (on_side (2 ^ s.n) side k)
    ≡ height_in s (page_point s.n q t (on_side (2 ^ s.n) side k))

-- A page of these heights has the height of the terrain at each of its points that is loaded.
abbrev pub IsAgreed : Store → ℕ → Point → List ℕ → Type 0
IsAgreed s q t heights = (r : Point) → IsInSquare (2 ^ s.n) r → IsLoadedPoint (pages_of s) (page_point s.n q t r) →
    height_of s.n heights r ≡ height_in s (page_point s.n q t r)

-- At point r of its grid, which is loaded, a page of these heights has another one.
pub record IsDifferingAt (s : Store) (q : ℕ) (t : Point) (heights : List ℕ) (r : Point) : Type 0 where
  pub inside : IsInSquare (2 ^ s.n) r
  pub loaded : IsLoadedPoint (pages_of s) (page_point s.n q t r)
  pub differs : height_of s.n heights r ≡ height_in s (page_point s.n q t r) → ⊥

-- the same of a point of the terrain
abbrev pub IsDiffering : Store → ℕ → Point → List ℕ → Point → Type 0
IsDiffering s q t heights p = (r : Point) × (p ≡ page_point s.n q t r) × IsDifferingAt s q t heights r
