-- Each call begins two levels nearer to the leaf.
use Rattle.mosaic_rounds.proofs.mark.+mark_below.Given as goal

abbrev pub decreases-mark_below : goal.decreases-mark_below
decreases-mark_below l = l.above
