-- Each call halves the place.
use Rattle.mosaic_rounds.proofs.border.+border_tri.Given as goal

abbrev pub decreases-border_tri : goal.decreases-border_tri
decreases-border_tri l = l.place
