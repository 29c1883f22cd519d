-- Each clause is a lemma.
use Rattle.page_laws.proofs.PointLemmas.{page-corners, half-page, page-centre, known-centre, vertex-loaded}
use Rattle.page_laws.proofs.squares.point_laws.Goals as goal

pub returns-clause-corners : goal.returns-clause-corners
returns-clause-corners c = page-corners

pub returns-clause-centre : goal.returns-clause-centre
returns-clause-centre c = page-centre

pub returns-clause-known : goal.returns-clause-known
returns-clause-known c w x s h = known-centre w s x h

pub returns-clause-vertices : goal.returns-clause-vertices
returns-clause-vertices c w has r s inside vertex = vertex-loaded w s has r inside vertex

pub returns-clause-half : goal.returns-clause-half
returns-clause-half c = half-page
