-- Each clause is a lemma.
use Rattle.std.proofs.Common.{subst, arith}
use Rattle.mesh_defs.specs.Triangle.{IsMate}
use Rattle.mesh_laws.proofs.MateLemmas.{mate_of-back}
use Rattle.mesh_laws.proofs.IsMateLemmas.{IsMate-mate_of, mate_of-IsMate}
use Rattle.mesh_laws.proofs.EdgeLemmas.{reversed}
use Rattle.mesh_laws.proofs.LeafAcrossLemmas.{named_edge}
use Rattle.mesh_laws.proofs.edges.edge_laws.Goals as goal

pub returns-clause-mate : goal.returns-clause-mate
returns-clause-mate c n a b low fits = (
  (λ m. let is = mate_of-IsMate n a b low fits m in let two = m.address.low in (omega arith, is)),
  (λ v. subst (λ t. IsMate n a t) v.1 (IsMate-mate_of n a low fits v.0)),
)

pub returns-clause-back : goal.returns-clause-back
returns-clause-back c = mate_of-back

pub returns-clause-reversed : goal.returns-clause-reversed
returns-clause-reversed c = reversed

pub returns-clause-named : goal.returns-clause-named
returns-clause-named c = named_edge
