-- Each clause is a lemma.
use Rattle.mosaic_laws.proofs.ClosedLemmas.{coarse-n, part-closed, part-agreed, glue-closed, glue-coarse, coarse-parts}
use Rattle.mosaic_laws.proofs.ClosedLemmas.{part-glue, glue-part}
use Rattle.mosaic_laws.proofs.ClosedLemmas.{closed-second}
use Rattle.std.proofs.Common.{arith}
use Rattle.mosaic_laws.proofs.tiles.closed_laws.Goals as goal

pub returns-clause-some : goal.returns-clause-some
returns-clause-some c = coarse-n

pub returns-clause-part : goal.returns-clause-part
returns-clause-part c = part-closed

pub returns-clause-agreed : goal.returns-clause-agreed
returns-clause-agreed c = part-agreed

pub returns-clause-glue : goal.returns-clause-glue
returns-clause-glue c n p sets closed centres agreed = glue-closed n p sets closed centres agreed

pub returns-clause-coarse : goal.returns-clause-coarse
returns-clause-coarse c p sets x h = let q = coarse-parts p x h in glue-coarse p sets x q.0 q.1

pub returns-clause-parts : goal.returns-clause-parts
returns-clause-parts c n p sets t tile closed centre = part-glue n p sets t tile closed centre

pub returns-clause-whole : goal.returns-clause-whole
returns-clause-whole c = glue-part

pub returns-clause-second : goal.returns-clause-second
returns-clause-second c n has closed first = closed-second n has closed first 3 (omega arith) (omega arith)
