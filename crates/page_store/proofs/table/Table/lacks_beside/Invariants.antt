-- The squares beside that were looked at have pages.
use Rattle.std.proofs.Common.{ℕ, ◌<◌, ◌^◌, IsTrue, is_some}
use Rattle.mesh_defs.specs.declared.point.Point.{Point}
use Rattle.mosaic_laws.specs.Tile.{IsTile}
use Rattle.page_store.specs.Store.{page_at, cuts_of}
use Rattle.page_store.specs.Agreement.{IsBesideAt}
use Rattle.page_store.proofs.table.Table.lacks_beside.Given as goal

abbrev pub invariant-loop-side : goal.invariant-loop-side
invariant-loop-side l = (side : ℕ) (u : Point) → side < l.side → IsBesideAt side l.square u →
    IsTile (2 ^ cuts_of l.self l.q) (2 ^ cuts_of l.self l.q) u → IsTrue (is_some (page_at l.self l.q u))
