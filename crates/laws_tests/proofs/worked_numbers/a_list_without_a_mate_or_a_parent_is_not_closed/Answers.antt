-- What is missing is demanded by name.
use Rattle.std.proofs.Common.{◌≡◌, ◌<◌, false, true, refl, lit≤, arith}
use Rattle.mesh_defs.specs.Triangle.{level_of}
use Rattle.laws_tests.proofs.CornerExample.{mate_2_3}
use Rattle.laws_tests.proofs.worked_numbers.a_list_without_a_mate_or_a_parent_is_not_closed.Goals as goal

pub returns : goal.returns
unfolding level_of
returns c = record {
  mate = λ h. let there : false ≡ true = h.mate 2 3 refl mate_2_3 in cc;
  parent = λ h. let there : false ≡ true = h.parent 8 refl (lit≤ tt) in cc;
  finest = λ h. let coarse : 2 < 2 = (h.splittable 8 refl).coarse in omega arith;
}
