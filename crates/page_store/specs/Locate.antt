-- A triangle of a mesh, in the finest loaded page that it lies in.
-- This project's own.
-- Words: IsInReach, is_in_loaded, deepest_in, local_corners, triangle_in, page_triangle, IsPageTriangle.
use Rattle.std.specs.Prelude.{◌≡◌, ◌⊎◌, ℕ, zero, suc, ◌-◌, ◌*◌, ◌/◌, ◌^◌, ◌<◌, ◌≤◌, Bool, ◌&&◌, IsTrue, nat_le}
use Rattle.std.specs.Prelude.{cond, None, is_some}
use Rattle.mesh_defs.specs.declared.point.Point.{Point}
use Rattle.mesh_defs.specs.declared.point.Corners.{Corners}
use Rattle.mesh_defs.specs.Triangle.{level_of, corners_of}
use Rattle.bintree_laws.specs.Corners.{IsWithin}
use Rattle.mosaic_laws.specs.Glue.{tile_of}
use Rattle.page_laws.specs.Pages.{square_at, page_corners}
use Rattle.page_store.specs.declared.locate.PageTriangle.{PageTriangle}
use Rattle.page_store.specs.Store.{Store, top_of, cuts_of, page_at, pages_of, local_point, known_in}

-- x is a half of the terrain, or its parent is known: a mesh that splits known triangles alone has no others
abbrev pub IsInReach : Store → ℕ → Type 0
IsInReach s x = (x < 4) ⊎ IsTrue (known_in s (x / 2))

-- x lies in one of the squares of 2 ^ p columns and rows, and the page of that square is loaded
abbrev pub is_in_loaded : Store → ℕ → ℕ → Bool
is_in_loaded s x p = nat_le (2 * p) (level_of x) && is_some (page_at s (top_of s - p) (tile_of p (2 * x)))

-- how often the terrain's side is halved down to the finest loaded page that x lies in, if at most p times
abbrev pub deepest_in : Store → ℕ → ℕ → ℕ
deepest_in s x zero = 0
deepest_in s x (suc p) = cond (is_in_loaded s x (suc p)) (suc p) (deepest_in s x p)

-- corners of the terrain, in a page's grid
abbrev pub local_corners : ℕ → ℕ → Point → Corners → Corners
local_corners n q t c =
    record { apex = local_point n q t c.apex; v0 = local_point n q t c.v0; v1 = local_point n q t c.v1 }

-- x in the page of that one of 2 ^ p columns and rows in which it lies
abbrev pub triangle_in : Store → ℕ → ℕ → PageTriangle
triangle_in s x p = record {
  q = top_of s - p;
  square = tile_of p (2 * x);
  corners = local_corners s.n (top_of s - p) (tile_of p (2 * x)) (corners_of s.large x);
}

-- Triangle x in the finest loaded page that it lies in.
unfoldable pub page_triangle : Store → ℕ → PageTriangle
page_triangle s x = triangle_in s x (deepest_in s x (top_of s))

-- The page is loaded and has x, as no finer one does; the corners are points of its grid, those of x in the terrain.
pub record IsPageTriangle (s : Store) (x : ℕ) (r : PageTriangle) : Type 0 where
  pub page : IsTrue (is_some (page_at s r.q r.square))
  pub deep : 2 * cuts_of s r.q ≤ level_of x
  pub square : r.square ≡ square_at (pages_of s) r.q x
  pub finest : (q : ℕ) → q < r.q → 2 * cuts_of s q ≤ level_of x →
      page_at s q (square_at (pages_of s) q x) ≡ None
  pub within : IsWithin (2 ^ s.n) r.corners
  pub corners : corners_of s.large x ≡ page_corners s.n r.q r.square r.corners
