-- Each clause is a lemma.
use Rattle.mesh_laws.proofs.DiamondLemmas.{with_diamond-forced, forced-with_diamond, with_diamond-length}
use Rattle.mesh_laws.proofs.ChangeLemmas.{with_diamond-leaves}
use Rattle.mesh_laws.proofs.diamonds.split_laws.Goals as goal

pub returns-clause-forced : goal.returns-clause-forced
returns-clause-forced c n before d after closed can =
    (with_diamond-forced n before d after closed can, forced-with_diamond n before d after closed can)

pub returns-clause-pair : goal.returns-clause-pair
returns-clause-pair c n before d after rises closed can with_d =
    (with_diamond-length n before d after rises closed can with_d).0

pub returns-clause-single : goal.returns-clause-single
returns-clause-single c n before d after rises closed can with_d =
    (with_diamond-length n before d after rises closed can with_d).1

pub returns-clause-leaves : goal.returns-clause-leaves
returns-clause-leaves c = with_diamond-leaves
