-- Each address below 64 is tried.
use Rattle.std.proofs.Common.{refl}
use Rattle.mesh_defs.specs.Triangle.{level_of, corners_of}
use Rattle.laws_tests.proofs.ClosedLists.{no_mate, only_mate}
use Rattle.laws_tests.proofs.worked_numbers.a_border_base_has_no_mate.Goals as goal

pub returns : goal.returns
unfolding level_of corners_of
returns c = record {
  lower = λ b m. no_mate 2 4 b refl m;
  left = λ b m. no_mate 2 5 b refl m;
  half_of_the_lower = λ b m. no_mate 2 17 b refl m;
  within = λ b m. only_mate 2 8 11 b refl m;
}
