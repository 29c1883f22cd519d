-- The rows before this one are joined.
use Rattle.std.proofs.Common.{◌≡◌, ◌≤◌}
use Rattle.page_store.specs.Store.{IsTable}
use Rattle.page_store.specs.Change.{AreSameGrids}
use Rattle.page_store.specs.Edit.{IsNear, AreJoinedBut}
use Rattle.wedgie_tree.specs.Edits.{area_between}
use Rattle.page_store.proofs.table.Table.join_level.Given as goal

abbrev pub invariant-loop-y : goal.invariant-loop-y
invariant-loop-y l = record {
  grids : AreSameGrids l.initial.self l.self;
  joined : AreJoinedBut l.self (λ r t. (l.fn.q ≤ r)
      × IsNear l.self (area_between l.fn.low.x l.fn.low.y l.fn.high.x l.fn.high.y) r t × (r ≡ l.fn.q → l.y ≤ t.y));
  valid : IsTable l.self;
}
