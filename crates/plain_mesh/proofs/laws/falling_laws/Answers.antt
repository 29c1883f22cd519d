use Rattle.bintree_laws.proofs.LevelLemmas.{level-le}
use Rattle.plain_mesh.proofs.laws.falling_laws.Goals as goal

pub returns : goal.returns
returns c n heights view = record {
  finest = λ a address e. c.priority_laws.ensures.finest n heights view a e;
  child = λ a address big. c.priority_laws.ensures.parent n heights view a big (level-le n a address);
}
