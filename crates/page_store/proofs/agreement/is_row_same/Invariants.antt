use Rattle.std.proofs.Common.{◌≡◌, ℕ, ◌*◌, ◌<◌, ◌↔◌, IsTrue, slice_index}
use Rattle.page_store.proofs.agreement.is_row_same.Given as goal

abbrev pub invariant-loop-k : goal.invariant-loop-k
invariant-loop-k l =
    IsTrue l.is_same ↔ ((k : ℕ) → k < l.k → slice_index l.row (2 * k) ≡ slice_index l.coarser k)
