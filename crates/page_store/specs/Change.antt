-- How a table changes: by the wedge of a quarter, or by those of a page.
-- This project's own. Words: quarter_wedge, IsQuarterJoined, IsPageJoined, AreSameGrids, AreOthersSame, AreHeightsSame,
-- AreOthersJoined.
use Rattle.std.specs.Prelude.{◌≡◌, ℕ, ◌+◌, ◌-◌, ◌/◌, ◌^◌, ◌<◌, Some, option_map}
use Rattle.mesh_defs.specs.declared.point.Point.{Point}
use Rattle.mosaic_laws.specs.Tile.{in_tile}
use Rattle.page_laws.specs.Loaded.{known_wedge}
use Rattle.page_laws.specs.Pages.{IsLoadedPoint}
use Rattle.page_laws.specs.declared.wedge.KnownWedge.{KnownWedge}
use Rattle.page_wedges.specs.Page.{Page, with_quarter}
use Rattle.page_store.specs.Store.{Store, cuts_of, page_at, grid_at, pages_of, height_in, known_in, joined_page}
use Rattle.page_store.specs.Store.{AreJoined}

-- the wedge of a quarter of a page's square over all that is loaded
abbrev pub quarter_wedge : Store → ℕ → Point → ℕ → KnownWedge
quarter_wedge s q t k = known_wedge s.large (height_in s) (known_in s) (in_tile (cuts_of s q) t (4 + k))

-- after is before, but for the wedge of quarter k of a page, which it has over all that is loaded
pub record IsQuarterJoined (before after : Store) (q : ℕ) (t : Point) (k : ℕ) : Type 0 where
  pub large : after.large ≡ before.large
  pub n : after.n ≡ before.n
  pub here : page_at after q t
      ≡ option_map (λ page. with_quarter page k (quarter_wedge before q t k)) (page_at before q t)
  pub others : (r : ℕ) (u : Point) → (r ≡ q → u ≡ t → ⊥) → page_at after r u ≡ page_at before r u

-- and of all quarters of a page
pub record IsPageJoined (before after : Store) (q : ℕ) (t : Point) : Type 0 where
  pub large : after.large ≡ before.large
  pub n : after.n ≡ before.n
  pub here : page_at after q t ≡ option_map (joined_page before q t) (page_at before q t)
  pub others : (r : ℕ) (u : Point) → (r ≡ q → u ≡ t → ⊥) → page_at after r u ≡ page_at before r u

-- the pages of both have the same grids, in the same squares
pub record AreSameGrids (before after : Store) : Type 0 where
  pub large : after.large ≡ before.large
  pub n : after.n ≡ before.n
  pub grids : (q : ℕ) (t : Point) → grid_at after q t ≡ grid_at before q t

-- the squares but t of resolution q have the same grids
abbrev pub AreOthersSame : Store → Store → ℕ → Point → Type 0
AreOthersSame before after q t = (r : ℕ) (u : Point) → (r ≡ q → u ≡ t → ⊥) → grid_at after r u ≡ grid_at before r u

-- the points of the pages of s have the same heights
abbrev pub AreHeightsSame : Store → Store → Store → Type 0
AreHeightsSame s before after = (p : Point) → IsLoadedPoint (pages_of s) p → height_in after p ≡ height_in before p

-- all pages are joined but for those, coarser than q, in which the square t lies
abbrev pub AreOthersJoined : Store → ℕ → Point → Type 0
AreOthersJoined s q t = (r : ℕ) (u : Point) (page : Page) →
    (q < r → u ≡ record { x = t.x / 2 ^ (r - q); y = t.y / 2 ^ (r - q) } → ⊥) →
    page_at s r u ≡ Some page → AreJoined s r u page
