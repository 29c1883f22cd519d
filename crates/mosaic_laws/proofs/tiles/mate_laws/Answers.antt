-- Each clause is a lemma.
use Rattle.mosaic_laws.proofs.MateLemmas.{mate-in, mate-out, mate-border, beyond-border, mates-midpoint}
use Rattle.mosaic_laws.proofs.tiles.mate_laws.Goals as goal

pub returns-clause-inside : goal.returns-clause-inside
returns-clause-inside c n p a d t tile = mate-in n p t tile a d

pub returns-clause-back : goal.returns-clause-back
returns-clause-back c n p a d t tile = mate-out n p t tile a d

pub returns-clause-border : goal.returns-clause-border
returns-clause-border c n p a d t tile = mate-border n p t tile a d

pub returns-clause-beyond : goal.returns-clause-beyond
returns-clause-beyond c n p a d t u tile = beyond-border n p t tile u a d

pub returns-clause-point : goal.returns-clause-point
returns-clause-point c n p a d t u = mates-midpoint n p t u a d
