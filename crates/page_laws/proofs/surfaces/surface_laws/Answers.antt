-- Each clause is a lemma.
use Rattle.page_laws.proofs.PlacedLemmas.{loaded-seen}
use Rattle.page_laws.proofs.SurfaceLemmas.{centre-near, mesh-near}
use Rattle.page_laws.proofs.surfaces.surface_laws.Goals as goal

pub returns-clause-points : goal.returns-clause-points
returns-clause-points c w r s squares loaded = loaded-seen w s squares r loaded

pub returns-clause-triangle : goal.returns-clause-triangle
returns-clause-triangle c w height heights a b s agree = centre-near w s height heights agree a b

pub returns-clause-mesh : goal.returns-clause-mesh
returns-clause-mesh c w height heights has r s squares agree closed loaded =
    mesh-near w s height heights agree has closed r (loaded-seen w s squares r loaded)
