use Rattle.frame_loop.proofs.marks.+count_leaves.Given as goal

abbrev pub decreases-count_leaves : goal.decreases-count_leaves
decreases-count_leaves l = l.levels
