-- The run is an example.
use Rattle.laws_tests.proofs.FrameStepExamples.{zero_run}
use Rattle.laws_tests.proofs.worked_frames.a_frame_of_priorities_0_merges_all.Goals as goal

pub returns : goal.returns
returns c = zero_run
