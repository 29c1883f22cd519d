-- Each clause is a lemma.
use Rattle.mosaic_laws.proofs.CornerLemmas.{in_tile-corners, in_tile-midpoint}
use Rattle.mosaic_laws.proofs.tiles.place_laws.Goals as goal

pub returns-clause-corners : goal.returns-clause-corners
returns-clause-corners c n p a t tile = in_tile-corners p t tile n a

pub returns-clause-midpoint : goal.returns-clause-midpoint
returns-clause-midpoint c n p a t tile = in_tile-midpoint p t tile n a
