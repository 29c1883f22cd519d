-- Each clause is a lemma.
use Rattle.mesh_laws.proofs.StripOrderLemmas.{AreLeaves-strip_of, once-strip_of}
use Rattle.mesh_laws.proofs.StripLemmas.{IsRing-strip_of}
use Rattle.mesh_laws.proofs.strips.strip_laws.Goals as goal

pub returns-clause-leaves : goal.returns-clause-leaves
returns-clause-leaves c = AreLeaves-strip_of

pub returns-clause-once : goal.returns-clause-once
returns-clause-once c = once-strip_of

pub returns-clause-ring : goal.returns-clause-ring
returns-clause-ring c = IsRing-strip_of
