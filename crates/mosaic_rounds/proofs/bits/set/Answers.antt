-- One word changes, and in it one bit.
use Rattle.mosaic_rounds.proofs.BitLemmas.{has-set}
use Rattle.mosaic_rounds.proofs.bits.set.Goals as goal

pub returns-clause-added : goal.returns-clause-added
returns-clause-added c j = has-set c.args.words.now c.args.i j c.requires.room
