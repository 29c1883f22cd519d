use Rattle.wedgie_tree.proofs.RowLemmas.{IsReadSoFar}
use Rattle.wedgie_tree.proofs.heights.row_of.Given as goal

abbrev pub invariant-loop-x : goal.invariant-loop-x
invariant-loop-x l = IsReadSoFar l.grid l.x0 l.y l.row.items l.x
