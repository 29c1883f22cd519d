-- Each clause is a lemma.
use Rattle.mesh_laws.proofs.VertexLemmas.{vertex-place, centre-member, vertex-same}
use Rattle.mesh_laws.proofs.vertices.vertex_laws.Goals as goal

pub returns-clause-place : goal.returns-clause-place
returns-clause-place c = vertex-place

pub returns-clause-centre : goal.returns-clause-centre
returns-clause-centre c = centre-member

pub returns-clause-same : goal.returns-clause-same
returns-clause-same c = vertex-same
