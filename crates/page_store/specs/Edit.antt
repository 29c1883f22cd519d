-- Heights that are raised in an area, by one rule in each loaded page.
-- This project's own.
-- Words: area_in, store_in, raised_in, HasPointIn, HasLoadedPoint, IsRaisedPage, IsRaisedAt, span_from, span_end, IsNear, side_at, IsSized,
-- IsRaisedWhere, AreJoinedBut, IsRaisedTerrain.
use Rattle.std.specs.Prelude.{◌≡◌, ◌⊎◌, ℕ, ◌+◌, ◌-◌, ◌*◌, ◌/◌, ◌^◌, ◌<◌, ◌≤◌, min, ℤ, pos, ◌+ℤ◌, if◌then◌else◌, Bool}
use Rattle.std.specs.Prelude.{true, false, IsTrue, List, Option, Some, is_some, option_map, length}
use Rattle.mesh_defs.specs.declared.level.TheConstants.{GREATEST_LEVEL}
use Rattle.mesh_defs.specs.declared.point.Point.{Point}
use Rattle.mesh_defs.specs.HeightField.{IsHeightField}
use Rattle.mesh_defs.specs.State.{Area, is_in_area, clamped}
use Rattle.mesh_defs.specs.Thickness.{height_of}
use Rattle.bintree_laws.specs.Corners.{IsInSquare}
use Rattle.page_laws.specs.Pages.{page_point, IsLoadedPoint}
use Rattle.page_wedges.specs.Page.{Page, IsAlone}
use Rattle.page_store.specs.declared.edits.Raise.{Raise}
use Rattle.page_store.specs.Store.{Store, top_of, cuts_of, page_at, pages_of, maxval_of, height_in, AreJoined}

-- the area that is raised
abbrev pub area_in : Raise → Area
area_in r = record { x0 = r.low.x; y0 = r.low.y; x1 = r.high.x; y1 = r.high.y }

-- the terrain, with these pages
abbrev pub store_in : Raise → List (Option Page) → Store
store_in r pages = record { large = r.large; n = r.n; pages = pages }

-- the height h of point p, after the area was raised by dz
abbrev pub raised_in : ℕ → Area → ℤ → Point → ℕ → ℕ
raised_in maxval area dz p h = if is_in_area area p.x p.y then clamped maxval (pos h +ℤ dz) else h

-- a loaded point lies in the area
pub record HasLoadedPoint (s : Store) (area : Area) : Type 0 where
  pub point : Point
  pub loaded : IsLoadedPoint (pages_of s) point
  pub there : is_in_area area point.x point.y ≡ true

-- a page's point lies in the area
pub record HasPointIn (n q : ℕ) (t : Point) (area : Area) : Type 0 where
  pub point : Point
  pub inside : IsInSquare (2 ^ n) point
  pub there : is_in_area area (page_point n q t point).x (page_point n q t point).y ≡ true

-- A page whose points in the area are raised; where it has some, it is as built.
pub record IsRaisedPage (n q : ℕ) (t : Point) (area : Area) (dz : ℤ) (before after : Page) : Type 0 where
  pub side : after.field.n ≡ before.field.n
  pub bound : after.field.maxval ≡ before.field.maxval
  pub turned : after.turned ≡ before.turned
  pub field : IsHeightField after.field
  pub heights : (r : Point) → IsInSquare (2 ^ n) r → height_of n after.field.heights r
      ≡ raised_in before.field.maxval area dz (page_point n q t r) (height_of n before.field.heights r)
  pub quarters : (after ≡ before) ⊎ IsAlone after

-- the same of the page of a square, if it is loaded
abbrev pub IsRaisedAt : ℕ → ℕ → Point → Area → ℤ → Option Page → Option Page → Type 0
IsRaisedAt n q t area dz before after = (page new : Page) → before ≡ Some page → after ≡ Some new →
    IsRaisedPage n q t area dz page new

-- the first and the last but one of the squares of side 2 ^ m that have a point from one coordinate to another, if the
-- terrain has 2 ^ cuts of them
abbrev pub span_from : ℕ → ℕ → ℕ
span_from m low = (low - 1) / 2 ^ m

abbrev pub span_end : ℕ → ℕ → ℕ → ℕ
span_end m cuts high = min (high / 2 ^ m) (2 ^ cuts - 1) + 1

-- the square meets the area
pub record IsNear (s : Store) (area : Area) (q : ℕ) (t : Point) : Type 0 where
  pub left : span_from (s.n + q) area.x0 ≤ t.x
  pub right : t.x < span_end (s.n + q) (cuts_of s q) area.x1
  pub bottom : span_from (s.n + q) area.y0 ≤ t.y
  pub top : t.y < span_end (s.n + q) (cuts_of s q) area.y1

-- how many columns a page has, by its exponent
abbrev pub side_at : Store → ℕ → Point → Option ℕ
side_at s q t = option_map (λ page. page.field.n) (page_at s q t)

-- a table of pages of one side
pub record IsSized (s : Store) : Type 0 where
  pub some : 1 ≤ s.n
  pub fits : s.n ≤ s.large
  pub small : s.large ≤ GREATEST_LEVEL
  pub places : length s.pages ≡ 2 ^ (2 * (top_of s + 1)) / 3
  pub sides : (q : ℕ) (t : Point) (page : Page) → page_at s q t ≡ Some page → page.field.n ≡ s.n

-- After is before with the pages that are due raised; found says whether one of them has a point in the area.
pub record IsRaisedWhere (before after : Store) (area : Area) (dz : ℤ) (due : ℕ → Point → Type 0) (found : Bool) : Type 0
  where
    pub large : after.large ≡ before.large
    pub n : after.n ≡ before.n
    pub places : length after.pages ≡ length before.pages
    pub sides : (q : ℕ) (t : Point) → side_at after q t ≡ side_at before q t
    pub there : (q : ℕ) (t : Point) → due q t →
        IsRaisedAt before.n q t area dz (page_at before q t) (page_at after q t)
    pub others : (q : ℕ) (t : Point) → (due q t → ⊥) → page_at after q t ≡ page_at before q t
    pub some : IsTrue found →
        (q : ℕ) × (t : Point) × IsTrue (is_some (page_at before q t)) × HasPointIn before.n q t area
    pub none : found ≡ false → (q : ℕ) (t : Point) → due q t → IsTrue (is_some (page_at before q t)) →
        HasPointIn before.n q t area → ⊥
    pub same : found ≡ false → after ≡ before

-- all pages are joined but for those that are due
abbrev pub AreJoinedBut : Store → (ℕ → Point → Type 0) → Type 0
AreJoinedBut s due = (q : ℕ) (t : Point) (page : Page) → (due q t → ⊥) → page_at s q t ≡ Some page → AreJoined s q t page

-- The same pages are loaded, of the same bound, and loaded heights are raised in the area.
pub record IsRaisedTerrain (before after : Store) (area : Area) (dz : ℤ) : Type 0 where
  pub large : after.large ≡ before.large
  pub n : after.n ≡ before.n
  pub pages : pages_of after ≡ pages_of before
  pub bound : maxval_of after ≡ maxval_of before
  pub heights : (p : Point) → IsLoadedPoint (pages_of before) p →
      height_in after p ≡ raised_in (maxval_of before) area dz p (height_in before p)
  pub others : (p : Point) → is_in_area area p.x p.y ≡ false → height_in after p ≡ height_in before p
