-- Each clause is a lemma.
use Rattle.fit_laws.proofs.RequiredLemmas.{raise-raised, raised-exact, raised-least, raised-mesh, with-found}
use Rattle.fit_laws.proofs.RequiredLemmas.{with-mesh, mesh-with}
use Rattle.fit_laws.proofs.RequiredLemmas.{with-more, with-grown}
use Rattle.fit_laws.proofs.RequiredLemmas.{wanted-iff, wanted-parent, wanted-test, closure-test, with-unique}
use Rattle.fit_laws.proofs.RequiredLemmas.{with-one}
use Rattle.fit_laws.proofs.PointLemmas.{point-test}
use Rattle.fit_laws.proofs.required.required_laws.Goals as goal

pub returns-clause-raise : goal.returns-clause-raise
returns-clause-raise c = raise-raised

pub returns-clause-exact : goal.returns-clause-exact
returns-clause-exact c n tolerance required wanted error raised splittable test up =
    raised-exact n required wanted splittable test tolerance error raised up

pub returns-clause-set : goal.returns-clause-set
returns-clause-set c n tolerance required wanted error raised splittable test up =
    raised-least n required wanted splittable test tolerance error raised up

pub returns-clause-mesh : goal.returns-clause-mesh
returns-clause-mesh c n tolerance required wanted error raised splittable test up =
    raised-mesh n required wanted splittable test tolerance error raised up

pub returns-clause-found : goal.returns-clause-found
returns-clause-found c n tolerance required error splittable = with-found n required splittable tolerance error

pub returns-clause-leaves : goal.returns-clause-leaves
returns-clause-leaves c n tolerance error required has triangles least leaves =
    with-mesh n has triangles least.settled.closed leaves tolerance error required least

pub returns-clause-list : goal.returns-clause-list
returns-clause-list c = mesh-with

pub returns-clause-more : goal.returns-clause-more
returns-clause-more c = with-more

pub returns-clause-grown : goal.returns-clause-grown
returns-clause-grown c = with-grown

pub returns-clause-same : goal.returns-clause-same
returns-clause-same c n tolerance error required more has within all p = record {
  settled = p.settled;
  splits = all;
  needed = λ other fine splits. p.needed other fine (λ a h. splits a (within a h));
}

pub returns-clause-wanted : goal.returns-clause-wanted
returns-clause-wanted c = wanted-iff

pub returns-clause-parent : goal.returns-clause-parent
returns-clause-parent c = wanted-parent

pub returns-clause-unique : goal.returns-clause-unique
returns-clause-unique c = with-unique

pub returns-clause-one : goal.returns-clause-one
returns-clause-one c = with-one

pub returns-clause-words : goal.returns-clause-words
returns-clause-words c = wanted-test

pub returns-clause-closure : goal.returns-clause-closure
returns-clause-closure c = closure-test

pub returns-clause-points : goal.returns-clause-points
returns-clause-points c = point-test
