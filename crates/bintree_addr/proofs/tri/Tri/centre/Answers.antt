use Rattle.bintree_laws.proofs.LatticeLemmas.{HasEvenBase-corners_of}
use Rattle.bintree_addr.proofs.tri.Tri.centre.Goals as goal

pub returns-clause-exact : goal.returns-clause-exact
returns-clause-exact c = HasEvenBase-corners_of c.args.n c.args.self c.requires.splittable
