-- Each clause is a lemma.
use Rattle.mesh_laws.proofs.LeafAcrossLemmas.{one_leaf, edge-reversed, edge-alone, leaf_across, edge-border, base-across}
use Rattle.mesh_laws.proofs.LeafAcrossLemmas.{leg-across}
use Rattle.mesh_laws.proofs.DiamondEdgeLemmas.{across_children, across_merged}
use Rattle.mesh_laws.proofs.edges.leaf_edge_laws.Goals as goal

pub returns-clause-one_leaf : goal.returns-clause-one_leaf
returns-clause-one_leaf c = one_leaf

pub returns-clause-reversed : goal.returns-clause-reversed
returns-clause-reversed c = edge-reversed

pub returns-clause-border : goal.returns-clause-border
returns-clause-border c = edge-alone

pub returns-clause-across : goal.returns-clause-across
returns-clause-across c = leaf_across

pub returns-clause-none : goal.returns-clause-none
returns-clause-none c = edge-border

pub returns-clause-base : goal.returns-clause-base
returns-clause-base c = base-across

pub returns-clause-leg : goal.returns-clause-leg
returns-clause-leg c = leg-across

pub returns-clause-split : goal.returns-clause-split
returns-clause-split c = across_children

pub returns-clause-merge : goal.returns-clause-merge
returns-clause-merge c = across_merged
