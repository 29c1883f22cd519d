-- Each step is an example.
use Rattle.laws_tests.proofs.FrameStepExamples.{split_5, merge_6, merge_4_too, split_10, left_run}
use Rattle.laws_tests.proofs.worked_frames.a_merged_diamond_may_come_back_by_force.Goals as goal

pub returns : goal.returns
returns c = record {
  split_5 = split_5;
  merge_6 = merge_6;
  merge_4 = merge_4_too;
  split_10_with_13_and_6 = split_10;
  counts = left_run;
}
