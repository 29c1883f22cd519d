use Rattle.wedgie_tree.proofs.RowLemmas.{IsRaisedSoFar}
use Rattle.wedgie_tree.proofs.heights.raise_heights.Given as goal

abbrev pub invariant-loop-y : goal.invariant-loop-y
invariant-loop-y l = IsRaisedSoFar l.fn.grid l.fn.area l.fn.dz l.y l.grid
