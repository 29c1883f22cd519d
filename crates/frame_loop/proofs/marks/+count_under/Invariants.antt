use Rattle.frame_loop.proofs.marks.+count_under.Given as goal

abbrev pub decreases-count_under : goal.decreases-count_under
decreases-count_under l = l.levels
