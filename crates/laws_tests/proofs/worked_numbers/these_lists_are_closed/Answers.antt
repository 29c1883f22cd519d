-- The test of each list computes.
use Rattle.std.proofs.Common.{[], refl}
use Rattle.laws_tests.specs.declared.worked_numbers.TheConstants.{SPLIT, FORCED_BY_8, OTHER_SPLIT}
use Rattle.mesh_defs.specs.Triangle.{level_of, corners_of}
use Rattle.laws_tests.proofs.ClosedLists.{closed-list}
use Rattle.laws_tests.proofs.worked_numbers.these_lists_are_closed.Goals as goal

pub returns : goal.returns
unfolding level_of corners_of
returns c = record {
  none = closed-list 2 [] tt;
  six = closed-list 2 FORCED_BY_8 (refl, (refl, (refl, (refl, (refl, (refl, tt))))));
  seven = closed-list 2 SPLIT (refl, (refl, (refl, (refl, (refl, (refl, (refl, tt)))))));
  others = closed-list 2 OTHER_SPLIT (refl, (refl, (refl, (refl, (refl, (refl, (refl, tt)))))));
}
