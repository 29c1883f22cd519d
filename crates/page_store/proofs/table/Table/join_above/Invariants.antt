-- What is left to join are the pages above the square; the terrain is the same.
use Rattle.std.proofs.Common.{◌-◌, ◌^◌, ◌≤◌}
use Rattle.mosaic_laws.specs.Tile.{IsTile}
use Rattle.page_store.specs.Store.{top_of, IsTable}
use Rattle.page_store.specs.Change.{AreSameGrids, AreOthersJoined}
use Rattle.page_store.proofs.table.Table.join_above.Given as goal

abbrev pub invariant-loop-cuts : goal.invariant-loop-cuts
invariant-loop-cuts l = record {
  coarse : l.cuts ≤ top_of l.self;
  in_square : IsTile (2 ^ l.cuts) (2 ^ l.cuts) l.square;
  joined : AreOthersJoined l.self (top_of l.self - l.cuts) l.square;
  grids : AreSameGrids l.initial.self l.self;
  valid : IsTable l.self;
}

abbrev pub decreases-loop-cuts : goal.decreases-loop-cuts
decreases-loop-cuts l = l.cuts
