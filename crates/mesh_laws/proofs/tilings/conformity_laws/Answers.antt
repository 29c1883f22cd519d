-- Each clause is a lemma.
use Rattle.mesh_defs.specs.ClosedSet.{leaves_of}
use Rattle.mesh_laws.specs.Ancestors.{ancestors_of}
use Rattle.mesh_laws.proofs.ConformityLemmas.{IsConforming-leaves_of}
use Rattle.mesh_laws.proofs.PermutedLemmas.{IsConforming-permuted}
use Rattle.mesh_laws.proofs.ConverseLemmas.{is_above-power, IsClosed-ancestors_of, AreLeaves-ancestors_of}
use Rattle.mesh_defs.proofs.ListLemmas.{length-counts}
use Rattle.mesh_laws.proofs.tilings.conformity_laws.Goals as goal

pub returns-clause-above : goal.returns-clause-above
returns-clause-above c = is_above-power

pub returns-clause-conforming : goal.returns-clause-conforming
returns-clause-conforming c = IsConforming-leaves_of

pub returns-clause-any_order : goal.returns-clause-any_order
returns-clause-any_order c = IsConforming-permuted

pub returns-clause-closed : goal.returns-clause-closed
returns-clause-closed c = IsClosed-ancestors_of

pub returns-clause-each_once : goal.returns-clause-each_once
returns-clause-each_once c = AreLeaves-ancestors_of

pub returns-clause-same_count : goal.returns-clause-same_count
returns-clause-same_count c n others h =
    length-counts (leaves_of n (ancestors_of others)) others (AreLeaves-ancestors_of n others h).counts
