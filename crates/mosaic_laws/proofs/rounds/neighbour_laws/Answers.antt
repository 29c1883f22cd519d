-- Each clause is a lemma.
use Rattle.mosaic_laws.proofs.NeighbourLemmas.{beyond-asked, asked-beyond, down-from}
use Rattle.mosaic_laws.proofs.rounds.neighbour_laws.Goals as goal

pub returns-clause-asked : goal.returns-clause-asked
returns-clause-asked c columns rows n p sets wide high t u a d = beyond-asked columns rows n p sets wide high t u a d

pub returns-clause-there : goal.returns-clause-there
returns-clause-there c columns rows n p sets wide high closed t a =
    asked-beyond columns rows n p sets wide high closed t a

pub returns-clause-down : goal.returns-clause-down
returns-clause-down c columns rows n p sets wide high closed all = down-from columns rows n p sets wide high closed all
