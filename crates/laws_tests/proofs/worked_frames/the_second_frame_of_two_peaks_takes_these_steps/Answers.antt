-- Each step is an example.
use Rattle.laws_tests.proofs.FrameStepExamples.{merge_17, split_6, merge_8, merge_5, split_12, merge_4, split_25}
use Rattle.laws_tests.proofs.FrameStepExamples.{blocked_by_4, peaks_run}
use Rattle.laws_tests.proofs.worked_frames.the_second_frame_of_two_peaks_takes_these_steps.Goals as goal

pub returns : goal.returns
returns c = record {
  merge_17 = merge_17;
  split_6 = split_6;
  merge_8_with_11 = merge_8;
  merge_5 = merge_5;
  split_12_with_15_and_7 = split_12;
  merge_4 = merge_4;
  split_25 = split_25;
  blocked_by_4 = blocked_by_4;
  counts = peaks_run;
}
