-- Each clause is a lemma.
use Rattle.mesh_laws.proofs.LeafLemmas.{leaves-most}
use Rattle.mesh_defs.proofs.ListLemmas.{IsIn-contains}
use Rattle.mesh_defs.specs.ClosedSet.{leaves_of}
use Rattle.fit_laws.proofs.SettledLemmas.{outer-leaf, settled-both, settled-ancestors, nothing_needed, needed-lower}
use Rattle.fit_laws.proofs.SettledLemmas.{needed-step}
use Rattle.fit_laws.proofs.FitLemmas.{step-grown}
use Rattle.fit_laws.proofs.fits.settled_laws.Goals as goal

pub returns-clause-meet : goal.returns-clause-meet
returns-clause-meet c = settled-both

pub returns-clause-list : goal.returns-clause-list
returns-clause-list c = settled-ancestors

pub returns-clause-nothing : goal.returns-clause-nothing
returns-clause-nothing c = nothing_needed

pub returns-clause-step : goal.returns-clause-step
returns-clause-step c n tolerance error has next t closed needed leaf above least =
    needed-step n tolerance error has next t needed
    (outer-leaf n has t closed (IsIn-contains t (leaves_of n has) leaf)) above least

pub returns-clause-grown : goal.returns-clause-grown
returns-clause-grown c n has next t closed leaf least =
    step-grown n has next t closed (outer-leaf n has t closed (IsIn-contains t (leaves_of n has) leaf)) least

pub returns-clause-most : goal.returns-clause-most
returns-clause-most c = leaves-most

pub returns-clause-lower : goal.returns-clause-lower
returns-clause-lower c = needed-lower
