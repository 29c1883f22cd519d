-- Each clause is a lemma.
use Rattle.mesh_laws.proofs.SlotLemmas.{square-children, slot_of, parent_has_children, IsLeafOf-slot, leaf_slot}
use Rattle.mesh_laws.proofs.SlotLemmas.{leaves_count, IsMerge-IsSplit, IsSplit-IsMerge}
use Rattle.mesh_laws.proofs.edges.slot_laws.Goals as goal

pub returns-clause-members : goal.returns-clause-members
returns-clause-members c = square-children

pub returns-clause-slot : goal.returns-clause-slot
returns-clause-slot c = slot_of

pub returns-clause-live : goal.returns-clause-live
returns-clause-live c = parent_has_children

pub returns-clause-leaf : goal.returns-clause-leaf
returns-clause-leaf c pairs s leaf = IsLeafOf-slot pairs s leaf.live leaf.leaf

pub returns-clause-leaf_slot : goal.returns-clause-leaf_slot
returns-clause-leaf_slot c = leaf_slot

pub returns-clause-count : goal.returns-clause-count
returns-clause-count c = leaves_count

pub returns-clause-merged : goal.returns-clause-merged
returns-clause-merged c = IsMerge-IsSplit

pub returns-clause-split : goal.returns-clause-split
returns-clause-split c = IsSplit-IsMerge
