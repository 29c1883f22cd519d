-- Each clause is a lemma.
use Rattle.mosaic_laws.proofs.HeightLemmas.{error-in_tile, tile-exact}
use Rattle.mosaic_laws.proofs.heights.height_laws.Goals as goal

pub returns-clause-error : goal.returns-clause-error
returns-clause-error c n p t small large tile heights a big address =
    error-in_tile n p t small large tile heights a big address

pub returns-clause-exact : goal.returns-clause-exact
returns-clause-exact c = tile-exact
