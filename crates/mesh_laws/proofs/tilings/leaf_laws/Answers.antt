-- Each clause is a lemma.
use Rattle.mesh_laws.proofs.DescentLemmas.{IsAddress-leaves_of, Tiles-leaves_of}
use Rattle.mesh_laws.proofs.tilings.leaf_laws.Goals as goal

pub returns-clause-addresses : goal.returns-clause-addresses
returns-clause-addresses c = IsAddress-leaves_of

pub returns-clause-tiles : goal.returns-clause-tiles
returns-clause-tiles c = Tiles-leaves_of
