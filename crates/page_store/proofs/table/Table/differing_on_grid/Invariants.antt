use Rattle.std.proofs.Common.{ℕ, ◌<◌}
use Rattle.page_store.specs.Agreement.{IsAgreedInside, IsAgreedAt}
use Rattle.page_store.proofs.table.Table.differing_on_grid.Given as goal

abbrev pub invariant-loop-side : goal.invariant-loop-side
invariant-loop-side l = IsAgreedInside l.self l.q l.square l.grid.heights
    × ((side : ℕ) → side < l.side → IsAgreedAt l.self l.q l.square l.grid.heights side)
