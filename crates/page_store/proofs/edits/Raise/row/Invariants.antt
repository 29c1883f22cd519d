-- The squares before this one are raised.
use Rattle.std.proofs.Common.{◌≡◌, ◌+◌, ◌-◌, ◌<◌, ◌≤◌}
use Rattle.page_store.specs.Edit.{area_in, store_in, span_from, span_end, IsRaisedWhere}
use Rattle.page_store.proofs.edits.Raise.row.Given as goal

abbrev pub invariant-loop-x : goal.invariant-loop-x
invariant-loop-x l = IsRaisedWhere (store_in l.fn.self l.fn.pages.items) (store_in l.fn.self l.pages.items)
    (area_in l.fn.self) l.fn.self.dz
    (λ r t. (r ≡ l.fn.q) × (t.y ≡ l.fn.y) × (span_from (l.fn.self.n + l.fn.q) l.fn.self.low.x ≤ t.x)
    × (t.x < span_end (l.fn.self.n + l.fn.q) (l.fn.self.large - l.fn.self.n - l.fn.q) l.fn.self.high.x) × (t.x < l.x))
    l.found
