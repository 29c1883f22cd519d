-- The squares that were looked at have no page.
use Rattle.std.proofs.Common.{◌≡◌, ℕ, ◌+◌, ◌-◌, ◌*◌, ◌/◌, ◌%◌, ◌<◌, false, is_some}
use Rattle.page_store.specs.Store.{page_at}
use Rattle.page_store.proofs.table.Table.has_finer.Given as goal

abbrev pub invariant-loop-k : goal.invariant-loop-k
invariant-loop-k l = (k : ℕ) → k < l.k →
    is_some (page_at l.self (l.q - 1) (record { x = 2 * l.square.x + k % 2; y = 2 * l.square.y + k / 2 })) ≡ false
