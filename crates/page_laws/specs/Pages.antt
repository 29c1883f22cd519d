-- Pages of a terrain, and the triangles whose centre they have.
-- The terrain is a square of side 2 ^ large in grid steps, with the triangles of a grid of that exponent. A page of
-- resolution q has 2 ^ n + 1 heights a side, 2 ^ q grid steps apart; it covers one of the squares of side 2 ^ (n + q),
-- told by its column and its row. So it is a tile of the terrain: its own triangles are those of a grid of n, moved.
-- This project's own.
-- Words: Pages, cuts_to, half, is_turned, left_quarter, right_quarter, half_corners, square_at, is_in_page,
-- is_in_pages, is_known, page_point, page_corners, page_area, IsPagePoint, IsLoadedPoint, square_above, AreBeside,
-- AreOnTerrain, IsPyramid, IsAtGap, with_page, without_page.
use Rattle.std.specs.Prelude.{◌≡◌, ◌⊎◌, ℕ, zero, suc, ◌+◌, ◌-◌, ◌*◌, ◌/◌, ◌%◌, ◌^◌, ◌<◌, ◌≤◌, Bool, ◌&&◌, ◌||◌, true}
use Rattle.std.specs.Prelude.{false, IsTrue, nat_eq, nat_le, nat_lt, not}
use Rattle.mesh_defs.specs.declared.point.Point.{Point}
use Rattle.mesh_defs.specs.declared.point.Corners.{Corners}
use Rattle.mesh_defs.specs.Triangle.{level_of, base_triangle}
use Rattle.mesh_defs.specs.MeshText.{is_same_point}
use Rattle.mesh_defs.specs.State.{Area}
use Rattle.bintree_laws.specs.Corners.{IsInSquare}
use Rattle.mosaic_laws.specs.Tile.{IsTile, quarter}
use Rattle.mosaic_laws.specs.Glue.{tile_of}

-- The exponents of the terrain and of its pages, the coarsest resolution, and which pages are loaded, by their
-- resolution and the column and row of their square.
pub record Pages : Type 0 where
  pub large : ℕ
  pub n : ℕ
  pub top : ℕ
  pub loaded : ℕ → Point → Bool

-- how often the terrain's side is halved down to a page's: there are 2 ^ that many columns and rows of its squares
abbrev pub cuts_to : Pages → ℕ → ℕ
cuts_to w q = w.large - (w.n + q)

-- the halves of the square in a column and row of 2 ^ p: at 0 the one with the lower quarter, at 1 that with the upper
abbrev pub half : ℕ → Point → ℕ → ℕ
half p t which = quarter p t.x t.y (2 * which) / 2

-- whether a square is cut by its rising diagonal, as those with an even sum of column and row are; the whole square and
-- the other ones are cut by the falling one
abbrev pub is_turned : ℕ → Point → Bool
is_turned zero t = false
is_turned (suc _) t = nat_eq ((t.x + t.y) % 2) 0

-- the quarters that are the left and the right child of a half; quarters are numbered from the lower one clockwise
abbrev pub left_quarter : Bool → ℕ → ℕ
left_quarter false zero = 0
left_quarter false (suc _) = 2
left_quarter true zero = 3
left_quarter true (suc _) = 1

abbrev pub right_quarter : Bool → ℕ → ℕ
right_quarter false zero = 1
right_quarter false (suc _) = 3
right_quarter true zero = 0
right_quarter true (suc _) = 2

-- the corners of a half in the square of side m
abbrev pub half_corners : ℕ → Bool → ℕ → Corners
half_corners m false which = base_triangle m which
half_corners m true zero =
    record { apex = record { x = m; y = 0 }; v0 = record { x = m; y = m }; v1 = record { x = 0; y = 0 } }
half_corners m true (suc _) =
    record { apex = record { x = 0; y = m }; v0 = record { x = 0; y = 0 }; v1 = record { x = m; y = m } }

-- the square of a page of resolution q that x lies in
abbrev pub square_at : Pages → ℕ → ℕ → Point
square_at w q x = tile_of (cuts_to w q) (2 * x)

-- x lies in a loaded page of resolution q, which has its centre: from the halves of the page, at level 2 cuts_to, down
-- to the last level but one of its 2 n more
abbrev pub is_in_page : Pages → ℕ → ℕ → Bool
is_in_page w q x =
    nat_le (2 * cuts_to w q) (level_of x) && (nat_lt (level_of x) (2 * (cuts_to w q + w.n))
    && w.loaded q (square_at w q x))

-- the same of a page of some resolution up to q
abbrev pub is_in_pages : Pages → ℕ → ℕ → Bool
is_in_pages w zero x = is_in_page w 0 x
is_in_pages w (suc q) x = is_in_page w (suc q) x || is_in_pages w q x

-- The known triangles: those in loaded pages that have their centre, and those above the coarsest pages, whose centres
-- are corners of those pages.
abbrev pub is_known : Pages → ℕ → Bool
is_known w x = nat_le 2 x && (nat_lt (level_of x) (2 * cuts_to w w.top) || is_in_pages w w.top x)

-- the point (x, y) of a page, in grid steps of the terrain
abbrev pub page_point : ℕ → ℕ → Point → Point → Point
page_point n q t r = record { x = 2 ^ q * (2 ^ n * t.x + r.x); y = 2 ^ q * (2 ^ n * t.y + r.y) }

-- a triangle of a page, its corners in grid steps of the terrain
abbrev pub page_corners : ℕ → ℕ → Point → Corners → Corners
page_corners n q t c =
    record { apex = page_point n q t c.apex; v0 = page_point n q t c.v0; v1 = page_point n q t c.v1 }

-- the square of a page, in grid steps of the terrain
abbrev pub page_area : Pages → ℕ → Point → Area
page_area w q t = record {
  x0 = 2 ^ (w.n + q) * t.x;
  y0 = 2 ^ (w.n + q) * t.y;
  x1 = 2 ^ (w.n + q) * (t.x + 1);
  y1 = 2 ^ (w.n + q) * (t.y + 1);
}

-- p is one of the points of a page
abbrev pub IsPagePoint : ℕ → ℕ → Point → Point → Type 0
IsPagePoint n q t p = (r : Point) × IsInSquare (2 ^ n) r × (p ≡ page_point n q t r)

-- p is a point of a loaded page, so that its height is loaded
pub record IsLoadedPoint (w : Pages) (p : Point) : Type 0 where
  pub q : ℕ
  pub square : Point
  pub coarse : q ≤ w.top
  pub page : IsTrue (w.loaded q square)
  pub point : IsPagePoint w.n q square p

-- the square of twice the side that a square lies in
abbrev pub square_above : Point → Point
square_above t = record { x = t.x / 2; y = t.y / 2 }

-- the squares have a side in common
abbrev pub AreBeside : Point → Point → Type 0
AreBeside t u = ((t.y ≡ u.y) × ((t.x ≡ u.x + 1) ⊎ (u.x ≡ t.x + 1)))
    ⊎ ((t.x ≡ u.x) × ((t.y ≡ u.y + 1) ⊎ (u.y ≡ t.y + 1)))

-- no page is loaded of a square that the terrain does not have
abbrev pub AreOnTerrain : Pages → Type 0
AreOnTerrain w = (q : ℕ) (t : Point) → q ≤ w.top → IsTrue (w.loaded q t) →
    IsTile (2 ^ cuts_to w q) (2 ^ cuts_to w q) t

-- The coarsest pages are all loaded, and each other page lies in one that is loaded, of the next resolution, as those
-- beside that are. So no two pages that meet are more than a resolution apart.
pub record IsPyramid (w : Pages) : Type 0 where
  pub some : 1 ≤ w.n
  pub fits : w.n + w.top ≤ w.large
  pub coarsest : (t : Point) → IsTile (2 ^ cuts_to w w.top) (2 ^ cuts_to w w.top) t → IsTrue (w.loaded w.top t)
  pub nested : (q : ℕ) (t : Point) → q < w.top → IsTrue (w.loaded q t) → IsTrue (w.loaded (q + 1) (square_above t))
  pub beside : (q : ℕ) (t u : Point) → q < w.top → IsTrue (w.loaded q t) →
      IsTile (2 ^ cuts_to w (q + 1)) (2 ^ cuts_to w (q + 1)) u → AreBeside (square_above t) u →
      IsTrue (w.loaded (q + 1) u)

-- x is one of the last border triangles of a page at a side where no page of its resolution is: x is at the last level
-- of which the page has centres, and its mate y lies beyond the side.
pub record IsAtGap (w : Pages) (x y : ℕ) : Type 0 where
  pub q : ℕ
  pub coarse : q ≤ w.top
  pub last : level_of x + 1 ≡ 2 * (cuts_to w q + w.n)
  pub page : IsTrue (w.loaded q (square_at w q x))
  pub across : AreBeside (square_at w q x) (square_at w q y)
  pub missing : w.loaded q (square_at w q y) ≡ false

-- the pages with this one, of resolution q, loaded too
abbrev pub with_page : Pages → ℕ → Point → Pages
with_page w q t = record w { loaded = λ r u. (nat_eq r q && is_same_point u t) || w.loaded r u }

-- the pages without this one
abbrev pub without_page : Pages → ℕ → Point → Pages
without_page w q t = record w { loaded = λ r u. not (nat_eq r q && is_same_point u t) && w.loaded r u }
