-- Stores of one size, where a page comes or goes.
use Rattle.std.proofs.Common.{◌≡◌, ℕ, ◌+◌, ◌^◌, cond, nat_le, nat_lt, Bool, true, false, refl}
use Rattle.std.proofs.Common.{Option, None, Some, option_map}
use Rattle.std.specs.Option.{is_some}
use Rattle.std.proofs.lemmas.Bool.{and_parts, ltb-true}
use Rattle.std.proofs.lemmas.Option.{none-some}
use Rattle.mesh_defs.specs.declared.point.Point.{Point}
use Rattle.mosaic_laws.specs.Tile.{IsTile}
use Rattle.page_laws.specs.Pages.{page_area}
use Rattle.page_wedges.specs.Page.{Page}
use Rattle.page_store.specs.Store.{Store, cuts_of, is_square, page_at, pages_of}

-- a page is loaded where its grid is
pub is_some-grid : (page : Option Page) → is_some (option_map (λ (p : Page). p.field) page) ≡ is_some page
is_some-grid None = refl
is_some-grid (Some page) = refl

-- the pages of a store, by those of one of the same size
pub pages_of-loaded : (s more : Store) → more.large ≡ s.large → more.n ≡ s.n →
    pages_of more ≡ record (pages_of s) { loaded = λ q t. is_some (page_at more q t) }
pages_of-loaded s more large n = rw (large, n) refl

-- a page's square, in a store of the same size
pub page_area-same : (s more : Store) (q : ℕ) (t : Point) → more.n ≡ s.n →
    page_area (pages_of more) q t ≡ page_area (pages_of s) q t
page_area-same s more q t n = rw n refl

-- a page that is loaded lies in a square of the terrain
tested : (b : Bool) (some : Option Page) (page : Page) → cond b some None ≡ Some page → b ≡ true
tested true some page is = refl
tested false some page is = absurd (none-some page is)

pub loaded-tile : (s : Store) (q : ℕ) (t : Point) (page : Page) → page_at s q t ≡ Some page →
    IsTile (2 ^ cuts_of s q) (2 ^ cuts_of s q) t
unfolding page_at
loaded-tile s q t page is =
    let square = tested (is_square s q t) _ page is in
    let there = (and_parts (nat_le (s.n + q) s.large) _ square).1 in
    let parts = and_parts (nat_lt t.x (2 ^ cuts_of s q)) (nat_lt t.y (2 ^ cuts_of s q)) there in
    record { column = ltb-true t.x (2 ^ cuts_of s q) parts.0; row = ltb-true t.y (2 ^ cuts_of s q) parts.1 }

-- and so in one of a store of the same size
pub tile-same : (s more : Store) (q : ℕ) (t : Point) → more.large ≡ s.large → more.n ≡ s.n →
    IsTile (2 ^ cuts_of s q) (2 ^ cuts_of s q) t → IsTile (2 ^ cuts_of more q) (2 ^ cuts_of more q) t
tile-same s more q t large n tile = rw (large, n) tile
