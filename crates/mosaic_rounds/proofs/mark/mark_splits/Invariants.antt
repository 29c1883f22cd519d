-- So far the bits say what lies above the first leaves.
use Rattle.std.proofs.Common.{◌≡◌, take, length}
use Rattle.mosaic_rounds.specs.Marks.{MarksAll}
use Rattle.mosaic_rounds.proofs.mark.mark_splits.Given as goal

abbrev pub invariant-loop-leaf : goal.invariant-loop-leaf
invariant-loop-leaf l =
    (length l.words ≡ length l.initial.words) × MarksAll l.fn.n (take l.leaf-index l.fn.leaves) l.initial.words l.words
