-- The pages that a triangle lies in, from the coarsest one down.
-- This project's own. Words: IsFound, IsFinest.
use Rattle.std.specs.Prelude.{◌≡◌, ℕ, ◌+◌, ◌-◌, ◌*◌, ◌<◌, ◌≤◌, Some, None}
use Rattle.mesh_defs.specs.declared.point.Point.{Point}
use Rattle.mesh_defs.specs.Triangle.{level_of}
use Rattle.mosaic_laws.specs.Glue.{quarter_of, prefix_of, tile_of}
use Rattle.page_wedges.specs.Page.{Page}
use Rattle.page_store.specs.Store.{Store, top_of, page_at}

-- Triangle x lies in quarter k of this loaded page, in square t of 2 ^ p columns and rows. A half of the square counts
-- to the quarter that is its left child.
pub record IsFound (s : Store) (x p k : ℕ) (t : Point) (page : Page) : Type 0 where
  pub coarse : p ≤ top_of s
  pub deep : 2 * p ≤ level_of x
  pub part : quarter_of p (prefix_of p (2 * x)) ≡ k
  pub square : tile_of p (2 * x) ≡ t
  pub loaded : page_at s (top_of s - p) t ≡ Some page

-- and in no loaded page of the next resolution
pub record IsFinest (s : Store) (x p : ℕ) : Type 0 where
  pub end : p < top_of s → 2 * (p + 1) ≤ level_of x →
      page_at s (top_of s - (p + 1)) (tile_of (p + 1) (2 * x)) ≡ None
