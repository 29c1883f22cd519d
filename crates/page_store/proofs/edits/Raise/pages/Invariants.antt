-- The finer resolutions are raised.
use Rattle.std.proofs.Common.{◌<◌}
use Rattle.page_store.specs.Edit.{area_in, store_in, IsNear, IsRaisedWhere}
use Rattle.page_store.proofs.edits.Raise.pages.Given as goal

abbrev pub invariant-loop-q : goal.invariant-loop-q
invariant-loop-q l = IsRaisedWhere (store_in l.fn.self l.fn.pages.items) (store_in l.fn.self l.pages.items)
    (area_in l.fn.self) l.fn.self.dz
    (λ r t. (r < l.q) × IsNear (store_in l.fn.self l.fn.pages.items) (area_in l.fn.self) r t) l.found
