use Rattle.wedgie_tree.proofs.RowLemmas.{IsPutSoFar}
use Rattle.wedgie_tree.proofs.heights.put_row.Given as goal

abbrev pub invariant-loop-k : goal.invariant-loop-k
invariant-loop-k l = IsPutSoFar l.fn.grid l.x l.y l.row l.k l.grid
