-- The rows before this one are raised.
use Rattle.std.proofs.Common.{◌≡◌, ◌<◌}
use Rattle.page_store.specs.Edit.{area_in, store_in, IsNear, IsRaisedWhere}
use Rattle.page_store.proofs.edits.Raise.level.Given as goal

abbrev pub invariant-loop-y : goal.invariant-loop-y
invariant-loop-y l = IsRaisedWhere (store_in l.fn.self l.fn.pages.items) (store_in l.fn.self l.pages.items)
    (area_in l.fn.self) l.fn.self.dz
    (λ r t. (r ≡ l.fn.q) × IsNear (store_in l.fn.self l.fn.pages.items) (area_in l.fn.self) r t × (t.y < l.y)) l.found
