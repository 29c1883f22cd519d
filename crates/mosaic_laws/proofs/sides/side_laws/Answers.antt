-- Each clause is a lemma.
use Rattle.bintree_laws.proofs.LevelLemmas.{level-le}
use Rattle.mosaic_laws.proofs.MirrorLemmas.{mirrored-left, mirrored-right, mirrored-level, mirrored-big, mirrored-corners}
use Rattle.mosaic_laws.proofs.SideLemmas.{mirrored-address, beyond-mates, mates-beyond}
use Rattle.mosaic_laws.proofs.BitLemmas.{mirrored-bits}
use Rattle.mosaic_laws.proofs.sides.side_laws.Goals as goal

pub returns-clause-left : goal.returns-clause-left
returns-clause-left c = mirrored-left

pub returns-clause-right : goal.returns-clause-right
returns-clause-right c = mirrored-right

pub returns-clause-level : goal.returns-clause-level
returns-clause-level c which a big = (mirrored-big which a big, mirrored-level which a big)

pub returns-clause-address : goal.returns-clause-address
returns-clause-address c = mirrored-address

pub returns-clause-corners : goal.returns-clause-corners
returns-clause-corners c which n a big address = mirrored-corners which n a big (level-le n a address)

pub returns-clause-mates : goal.returns-clause-mates
returns-clause-mates c n p a d t u tile tile' other big large address = (
  (λ mates. mates-beyond n p t u a d tile tile' big large address mates other),
  (λ is. beyond-mates n p t u a d tile tile' big address is),
)

pub returns-clause-bits : goal.returns-clause-bits
returns-clause-bits c = mirrored-bits
