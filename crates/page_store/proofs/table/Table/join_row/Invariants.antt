-- The pages before this square are joined.
use Rattle.page_store.specs.Store.{IsTable}
use Rattle.page_store.specs.Change.{AreSameGrids}
use Rattle.page_store.specs.Edit.{AreJoinedBut}
use Rattle.wedgie_tree.specs.Edits.{area_between}
use Rattle.page_store.proofs.RejoinLemmas.{IsDueFrom}
use Rattle.page_store.proofs.table.Table.join_row.Given as goal

abbrev pub invariant-loop-x : goal.invariant-loop-x
invariant-loop-x l = record {
  grids : AreSameGrids l.initial.self l.self;
  joined : AreJoinedBut l.self (IsDueFrom l.self (area_between l.fn.low.x l.fn.low.y l.fn.high.x l.fn.high.y) l.fn.q
      l.fn.y l.x);
  valid : IsTable l.self;
}
