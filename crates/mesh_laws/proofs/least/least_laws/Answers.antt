-- Each clause is a lemma.
use Rattle.mesh_laws.proofs.LeastLemmas.{worse-iff, least_found, least_unique, least_list-mesh, least_inside}
use Rattle.mesh_laws.proofs.LeastLemmas.{worse-parent, least_closed-frame}
use Rattle.mesh_laws.proofs.least.least_laws.Goals as goal

pub returns-clause-wanted : goal.returns-clause-wanted
returns-clause-wanted c = worse-iff

pub returns-clause-found : goal.returns-clause-found
returns-clause-found c = least_found

pub returns-clause-unique : goal.returns-clause-unique
returns-clause-unique c = least_unique

pub returns-clause-mesh : goal.returns-clause-mesh
returns-clause-mesh c = least_list-mesh

pub returns-clause-inside : goal.returns-clause-inside
returns-clause-inside c = least_inside

pub returns-clause-below : goal.returns-clause-below
returns-clause-below c = worse-parent

pub returns-clause-frame : goal.returns-clause-frame
returns-clause-frame c = least_closed-frame
