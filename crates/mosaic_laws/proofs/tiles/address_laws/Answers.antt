-- Each clause is a lemma.
use Rattle.mosaic_laws.proofs.AddressLemmas.{in_tile-quarter, in_tile-left, in_tile-right, in_tile-level, in_tile-address}
use Rattle.mosaic_laws.proofs.AddressLemmas.{in_tile-inside, in_tile-unique, in_tile-apart, tile-is, in_tile-local}
use Rattle.mosaic_laws.proofs.AddressLemmas.{local-big, local-address, tile-in_tile, local-in_tile}
use Rattle.mosaic_laws.proofs.BitLemmas.{in_tile-bits}
use Rattle.mosaic_laws.proofs.tiles.address_laws.Goals as goal

pub returns-clause-quarter : goal.returns-clause-quarter
returns-clause-quarter c p a t = in_tile-quarter p t a

pub returns-clause-left : goal.returns-clause-left
returns-clause-left c p a t = in_tile-left p t a

pub returns-clause-right : goal.returns-clause-right
returns-clause-right c p a t = in_tile-right p t a

pub returns-clause-level : goal.returns-clause-level
returns-clause-level c p a t = in_tile-level p t a

pub returns-clause-address : goal.returns-clause-address
returns-clause-address c n p a t big = (in_tile-inside p t n a big, in_tile-address p t n a big)

pub returns-clause-unique : goal.returns-clause-unique
returns-clause-unique c p a d t = in_tile-unique p t a d

pub returns-clause-apart : goal.returns-clause-apart
returns-clause-apart c p a d t u = in_tile-apart p t u a d

pub returns-clause-tile : goal.returns-clause-tile
returns-clause-tile c = tile-is

pub returns-clause-there : goal.returns-clause-there
returns-clause-there c = in_tile-local

pub returns-clause-number : goal.returns-clause-number
returns-clause-number c = local-big

pub returns-clause-small : goal.returns-clause-small
returns-clause-small c n p x address deep = local-address p x address.low deep n address

pub returns-clause-tile_of : goal.returns-clause-tile_of
returns-clause-tile_of c p a t = tile-in_tile p t a

pub returns-clause-local_of : goal.returns-clause-local_of
returns-clause-local_of c p a t = local-in_tile p t a

pub returns-clause-bits : goal.returns-clause-bits
returns-clause-bits c p a t = in_tile-bits p t a
