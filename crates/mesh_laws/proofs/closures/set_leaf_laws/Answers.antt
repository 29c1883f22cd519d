-- Each clause is a lemma.
use Rattle.mesh_laws.proofs.LeafLemmas.{leaf-where, leaf-once, leaves-most, leaves-determine}
use Rattle.mesh_laws.proofs.closures.set_leaf_laws.Goals as goal

pub returns-clause-leaf : goal.returns-clause-leaf
returns-clause-leaf c = leaf-where

pub returns-clause-once : goal.returns-clause-once
returns-clause-once c = leaf-once

pub returns-clause-most : goal.returns-clause-most
returns-clause-most c = leaves-most

pub returns-clause-determine : goal.returns-clause-determine
returns-clause-determine c = leaves-determine
