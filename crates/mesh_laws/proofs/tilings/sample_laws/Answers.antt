-- Each clause is a lemma.
use Rattle.std.proofs.Common.{◌-◌, ◌*◌, refl, arith}
use Rattle.mesh_defs.specs.Triangle.{level_of}
use Rattle.mesh_laws.proofs.DescentLemmas.{IsDown-address, IsDown-splittable, sample_of, one_child_of}
use Rattle.mesh_laws.proofs.ConverseLemmas.{same_level}
use Rattle.mesh_laws.proofs.tilings.sample_laws.Goals as goal

pub returns-clause-child : goal.returns-clause-child
returns-clause-child c n a x y splittable sample =
    let one = one_child_of n (2 * n - level_of a - 1) a x y (IsDown-splittable n a splittable) sample in omega arith

pub returns-clause-some : goal.returns-clause-some
returns-clause-some c n a address = sample_of n (2 * n - level_of a) a (IsDown-address n a address)

pub returns-clause-level : goal.returns-clause-level
returns-clause-level c n x y a b sample p q same h k = same_level n x y (level_of b) a b sample p q same refl h k
