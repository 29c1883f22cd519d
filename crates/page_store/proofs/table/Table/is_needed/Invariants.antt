-- No page lies in the squares beside that were looked at.
use Rattle.std.proofs.Common.{◌≡◌, ℕ, ◌-◌, ◌^◌, ◌<◌, false, is_some}
use Rattle.mesh_defs.specs.declared.point.Point.{Point}
use Rattle.mosaic_laws.specs.Tile.{IsTile}
use Rattle.page_laws.specs.Pages.{square_above}
use Rattle.page_store.specs.Store.{page_at, cuts_of}
use Rattle.page_store.specs.Agreement.{IsBesideAt}
use Rattle.page_store.proofs.table.Table.is_needed.Given as goal

abbrev pub invariant-loop-side : goal.invariant-loop-side
invariant-loop-side l = (side : ℕ) (other u : Point) → side < l.side → IsBesideAt side l.square other →
    IsTile (2 ^ cuts_of l.self l.q) (2 ^ cuts_of l.self l.q) other → square_above u ≡ other →
    is_some (page_at l.self (l.q - 1) u) ≡ false
