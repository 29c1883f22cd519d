-- The run is an example.
use Rattle.std.proofs.Common.{refl}
use Rattle.mesh_defs.specs.ClosedSet.{leaves_of}
use Rattle.laws_tests.proofs.FrameStepExamples.{over_run}
use Rattle.laws_tests.proofs.worked_frames.a_frame_over_the_budget_merges_the_last_diamond.Goals as goal

pub returns : goal.returns
unfolding leaves_of
returns c = record { too_many = refl; counts = over_run }
