-- By the test.
use Rattle.std.proofs.Common.{refl}
use Rattle.mesh_defs.specs.Triangle.{level_of}
use Rattle.laws_tests.specs.declared.worked_frames.TheConstants.{RANKING, FIRST}
use Rattle.laws_tests.proofs.FrameExampleLemmas.{grid_set, loose_is}
use Rattle.laws_tests.proofs.worked_frames.members_without_a_chosen_triangle_are_loose.Goals as goal

pub returns : goal.returns
unfolding level_of
returns c = loose_is 2 RANKING 5 FIRST (grid_set 2 FIRST refl)
