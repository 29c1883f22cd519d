-- The pages of a terrain that are loaded, in one table.
-- The table has a place for each square of each resolution, the coarsest first; of one resolution row by row, and in a
-- row by column. This project's own.
-- Words: Store, top_of, cuts_of, place, is_square, page_at, grid_at, maxval_of, pages_of, local_point, has_point, height_from,
-- numbered, first_height, first_in, first_down, height_in, known_in, IsPlaced, AreJoined, joined_page, IsTable, IsStore.
use Rattle.std.specs.Prelude.{◌≡◌, ℕ, zero, suc, ◌+◌, ◌-◌, ◌*◌, ◌/◌, ◌%◌, ◌^◌, ◌<◌, ◌≤◌, Bool, ◌&&◌, nat_eq, nat_le}
use Rattle.std.specs.Prelude.{nat_lt, cond, Option, Some, None, is_some, option_map, unwrap_or, List, length}
use Rattle.std.specs.Prelude.{slice_index_or}
use Rattle.mesh_defs.specs.declared.point.Point.{Point}
use Rattle.mesh_defs.specs.declared.level.TheConstants.{GREATEST_LEVEL}
use Rattle.mesh_defs.specs.HeightField.{HeightField, IsHeightField}
use Rattle.mesh_defs.specs.Thickness.{height_of}
use Rattle.mosaic_laws.specs.Tile.{in_tile}
use Rattle.page_laws.specs.Pages.{Pages, is_turned, is_known, page_point, IsPyramid}
use Rattle.page_laws.specs.Loaded.{known_wedge, AreSamples}
use Rattle.page_wedges.specs.Page.{Page, quarter_in}

-- The exponents of the terrain and of its pages, and the table.
pub record Store : Type 0 where
  pub large : ℕ
  pub n : ℕ
  pub pages : List (Option Page)

-- the coarsest resolution, of which one page covers the terrain
abbrev pub top_of : Store → ℕ
top_of s = s.large - s.n

-- how often the terrain's side is halved down to a page's
abbrev pub cuts_of : Store → ℕ → ℕ
cuts_of s q = s.large - (s.n + q)

-- The place in the table of a square in one of 2 ^ p columns and rows; 2 ^ (2 * p) / 3 squares are coarser.
unfoldable pub place : ℕ → Point → ℕ
place p t = 2 ^ (2 * p) / 3 + 2 ^ p * t.y + t.x

-- the terrain has pages of this resolution, and this square
abbrev pub is_square : Store → ℕ → Point → Bool
is_square s q t = nat_le (s.n + q) s.large && (nat_lt t.x (2 ^ cuts_of s q) && nat_lt t.y (2 ^ cuts_of s q))

-- The page of a resolution and a square, if it is loaded.
unfoldable pub page_at : Store → ℕ → Point → Option Page
page_at s q t = cond (is_square s q t) (slice_index_or s.pages (place (cuts_of s q) t) None) None

-- its grid of heights
abbrev pub grid_at : Store → ℕ → Point → Option HeightField
grid_at s q t = option_map (λ page. page.field) (page_at s q t)

-- the bound of heights, which is that of the coarsest page
abbrev pub maxval_of : Store → ℕ
maxval_of s = unwrap_or (option_map (λ grid. grid.maxval) (grid_at s (top_of s) (record { x = 0; y = 0 }))) 0

-- which pages are loaded
abbrev pub pages_of : Store → Pages
pages_of s = record { large = s.large; n = s.n; top = top_of s; loaded = λ q t. is_some (page_at s q t) }

-- where p lies in a page's grid
abbrev pub local_point : ℕ → ℕ → Point → Point → Point
local_point n q t p = record { x = p.x / 2 ^ q - 2 ^ n * t.x; y = p.y / 2 ^ q - 2 ^ n * t.y }

-- p is one of the points of a page
abbrev pub has_point : ℕ → ℕ → Point → Point → Bool
has_point n q t p =
    (nat_le (local_point n q t p).x (2 ^ n) && nat_le (local_point n q t p).y (2 ^ n))
    && (nat_eq (page_point n q t (local_point n q t p)).x p.x && nat_eq (page_point n q t (local_point n q t p)).y p.y)

-- the height of a page at p, if it has one
abbrev pub height_from : ℕ → ℕ → Point → Point → Option Page → Option ℕ
height_from n q t p None = None
height_from n q t p (Some page) =
    cond (has_point n q t p) (Some (height_of n page.field.heights (local_point n q t p))) None

-- the square of 2 ^ p columns that has this number, row by row
abbrev pub numbered : ℕ → ℕ → Point
numbered p i = record { x = i % 2 ^ p; y = i / 2 ^ p }

-- the first height if there is one, else the second
abbrev pub first_height : Option ℕ → Option ℕ → Option ℕ
first_height (Some h) other = Some h
first_height None other = other

-- the height at p of the first page that has one, among those of a resolution in squares of a number below i
abbrev pub first_in : Store → ℕ → Point → ℕ → Option ℕ
first_in s q p zero = None
first_in s q p (suc i) = first_height (first_in s q p i)
    (height_from s.n q (numbered (cuts_of s q) i) p (page_at s q (numbered (cuts_of s q) i)))

-- the same among so many of the coarsest resolutions
abbrev pub first_down : Store → Point → ℕ → Option ℕ
first_down s p zero = None
first_down s p (suc more) = first_height (first_down s p more) (first_in s (top_of s - more) p (2 ^ (2 * more)))

-- The height at a point of the terrain, by the first loaded page that has the point; 0 where none has.
unfoldable pub height_in : Store → Point → ℕ
height_in s p = unwrap_or (first_down s p (suc (top_of s))) 0

-- the triangles that can be split by what is loaded
abbrev pub known_in : Store → ℕ → Bool
known_in s = is_known (pages_of s)

-- A page as it stands in its square: with its grid, its diagonal, and the heights and the bound that all pages agree on.
pub record IsPlaced (s : Store) (q : ℕ) (t : Point) (page : Page) : Type 0 where
  pub side : page.field.n ≡ s.n
  pub bound : page.field.maxval ≡ maxval_of s
  pub field : IsHeightField page.field
  pub turned : page.turned ≡ is_turned (cuts_of s q) t
  pub heights : AreSamples s.n q t (height_in s) page.field.heights

-- its quarters have their wedges over all that is loaded
abbrev pub AreJoined : Store → ℕ → Point → Page → Type 0
AreJoined s q t page = (k : ℕ) → k < 4 →
    quarter_in page k ≡ known_wedge s.large (height_in s) (known_in s) (in_tile (cuts_of s q) t (4 + k))

-- the page with the wedges that its quarters have over all that is loaded
abbrev pub joined_page : Store → ℕ → Point → Page → Page
joined_page s q t page = record page {
  lower = known_wedge s.large (height_in s) (known_in s) (in_tile (cuts_of s q) t 4);
  left = known_wedge s.large (height_in s) (known_in s) (in_tile (cuts_of s q) t 5);
  upper = known_wedge s.large (height_in s) (known_in s) (in_tile (cuts_of s q) t 6);
  right = known_wedge s.large (height_in s) (known_in s) (in_tile (cuts_of s q) t 7);
}

-- A table of nested pages, each of which stands as it should.
pub record IsTable (s : Store) : Type 0 where
  pub some : 1 ≤ s.n
  pub fits : s.n ≤ s.large
  pub small : s.large ≤ GREATEST_LEVEL
  pub places : length s.pages ≡ 2 ^ (2 * (top_of s + 1)) / 3
  pub pyramid : IsPyramid (pages_of s)
  pub placed : (q : ℕ) (t : Point) (page : Page) → page_at s q t ≡ Some page → IsPlaced s q t page

-- And the quarters of each have their wedges.
pub record IsStore (s : Store) : Type 0 where
  pub table : IsTable s
  pub joined : (q : ℕ) (t : Point) (page : Page) → page_at s q t ≡ Some page → AreJoined s q t page
