-- Each clause is a lemma.
use Rattle.mesh_laws.proofs.ClosureLemmas.{IsLeastClosed-unique, IsSubset-closures, closure_of, leaves_of-same}
use Rattle.mesh_laws.proofs.ClosureLemmas.{leaves_of-more}
use Rattle.mesh_laws.proofs.SizeLemmas.{length-leaves_once}
use Rattle.mesh_defs.proofs.ListLemmas.{among-in}
use Rattle.mesh_laws.proofs.closures.closed_set_laws.Goals as goal

pub returns-clause-unique : goal.returns-clause-unique
returns-clause-unique c = IsLeastClosed-unique

pub returns-clause-larger : goal.returns-clause-larger
returns-clause-larger c = IsSubset-closures

pub returns-clause-found : goal.returns-clause-found
returns-clause-found c = closure_of

pub returns-clause-same_leaves : goal.returns-clause-same_leaves
returns-clause-same_leaves c = leaves_of-same

pub returns-clause-more_leaves : goal.returns-clause-more_leaves
returns-clause-more_leaves c = leaves_of-more

pub returns-clause-counted : goal.returns-clause-counted
returns-clause-counted c n members once closed =
    length-leaves_once n members (λ a h. once a (among-in a members h)) closed
