-- The clause is a lemma.
use Rattle.mesh_laws.proofs.ExclusiveLemmas.{not_both}
use Rattle.mesh_laws.proofs.strips.turn_laws.Goals as goal

pub returns : goal.returns
returns c = record {
  one_side = λ n before t after has closed in_before in_middle in_after other.
      not_both n before t after has closed other in_before in_middle in_after;
}
