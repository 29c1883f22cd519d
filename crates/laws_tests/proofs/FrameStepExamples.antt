-- The steps of the worked examples, each by the tests.
use Rattle.std.proofs.Common.{◌≡◌, ℕ, [], ◌∷◌, refl, lit≤}
use Rattle.mesh_defs.specs.Triangle.{level_of}
use Rattle.mesh_defs.specs.ClosedSet.{leaves_of, among}
use Rattle.mesh_laws.specs.Steps.{DoesNotFit, IsSplitStep, too_many, needless, IsMergeStep, IsFinished, blocked}
use Rattle.mesh_laws.specs.Steps.{all_split, begin, split, merge, IsFrameRun}
use Rattle.mesh_laws.specs.Table.{told_by}
use Rattle.laws_tests.specs.declared.worked_frames.TheConstants.{FROM_UPPER_RIGHT, FIRST, WITHOUT_17, WITH_6}
use Rattle.laws_tests.specs.declared.worked_frames.TheConstants.{WITHOUT_8, WITHOUT_5, WITH_12, WITHOUT_4, SECOND}
use Rattle.laws_tests.specs.declared.worked_frames.TheConstants.{SECOND_SPLITS, SECOND_MERGES, LEFT_ALONE}
use Rattle.laws_tests.specs.declared.worked_frames.TheConstants.{WITH_4_AND_6, AND_5, LESS_6, LESS_4, AND_10}
use Rattle.laws_tests.specs.declared.worked_frames.TheConstants.{FORCED_SPLITS, FORCED_MERGES, FALLING}
use Rattle.laws_tests.proofs.FrameExampleLemmas.{grid_set, does_not_fit, split_step, merge_step, room_for, leads_before}
use Rattle.laws_tests.proofs.FrameExampleLemmas.{leads_positive, zero_leaves}

-- two peaks: the second frame

abbrev peaks : ℕ → ℕ
peaks = told_by FROM_UPPER_RIGHT

-- the diamond of 17 is merged first
pub merge_17 : (step : IsMergeStep 2 9 peaks FIRST WITHOUT_17) × (step.diamond ≡ 17)
unfolding level_of leaves_of
merge_17 =
    merge_step 2 9 peaks FIRST WITHOUT_17 17 refl refl (room_for 2 9 peaks FIRST 17 6 ([])
    (2 ∷ 3 ∷ 4 ∷ 5 ∷ 6 ∷ 8 ∷ 11 ∷ 17 ∷ []) (lit≤ tt) refl refl (lit≤ tt) refl) refl

-- then 6 is split
pub split_6 : (step : IsSplitStep 2 9 peaks WITHOUT_17 WITH_6) × (step.leaf ≡ 6)
unfolding level_of leaves_of
split_6 = split_step 2 9 peaks WITHOUT_17 6 ([]) WITH_6 (lit≤ tt) refl refl (lit≤ tt)

-- the diamond of 8, which holds 11 too, is merged
pub merge_8 : (step : IsMergeStep 2 9 peaks WITH_6 WITHOUT_8) × (step.diamond ≡ 8)
unfolding level_of leaves_of
merge_8 =
    merge_step 2 9 peaks WITH_6 WITHOUT_8 8 refl refl (room_for 2 9 peaks WITH_6 8 12 (15 ∷ 7 ∷ [])
    (2 ∷ 3 ∷ 4 ∷ 5 ∷ 6 ∷ 7 ∷ 8 ∷ 11 ∷ 12 ∷ 15 ∷ []) (lit≤ tt) refl refl (lit≤ tt) refl) refl

-- the diamond of 5 is merged
pub merge_5 : (step : IsMergeStep 2 9 peaks WITHOUT_8 WITHOUT_5) × (step.diamond ≡ 5)
unfolding level_of leaves_of
merge_5 =
    merge_step 2 9 peaks WITHOUT_8 WITHOUT_5 5 refl refl (room_for 2 9 peaks WITHOUT_8 5 12 (15 ∷ 7 ∷ [])
    (2 ∷ 3 ∷ 4 ∷ 5 ∷ 6 ∷ 7 ∷ 12 ∷ 15 ∷ []) (lit≤ tt) refl refl (lit≤ tt) refl) refl

-- 12 is split, which forces 15 and 7
pub split_12 : (step : IsSplitStep 2 9 peaks WITHOUT_5 WITH_12) × (step.leaf ≡ 12)
unfolding level_of leaves_of
split_12 = split_step 2 9 peaks WITHOUT_5 12 (15 ∷ 7 ∷ []) WITH_12 (lit≤ tt) refl refl (lit≤ tt)

-- the diamond of 4 is merged
pub merge_4 : (step : IsMergeStep 2 9 peaks WITH_12 WITHOUT_4) × (step.diamond ≡ 4)
unfolding level_of leaves_of
merge_4 =
    merge_step 2 9 peaks WITH_12 WITHOUT_4 4 refl refl (room_for 2 9 peaks WITH_12 4 25 ([])
    (2 ∷ 3 ∷ 4 ∷ 6 ∷ 7 ∷ 12 ∷ 15 ∷ 25 ∷ []) (lit≤ tt) refl refl (lit≤ tt) refl) refl

-- 25 is split
pub split_25 : (step : IsSplitStep 2 9 peaks WITHOUT_4 SECOND) × (step.leaf ≡ 25)
unfolding level_of leaves_of
split_25 = split_step 2 9 peaks WITHOUT_4 25 ([]) SECOND (lit≤ tt) refl refl (lit≤ tt)

-- the next leaf in rank, 4, does not fit the budget of 9 leaves
pub blocked_by_4 : DoesNotFit 2 9 peaks SECOND 4
unfolding level_of leaves_of
blocked_by_4 = does_not_fit 2 9 peaks SECOND 4 [] (2 ∷ 3 ∷ 4 ∷ 6 ∷ 7 ∷ 12 ∷ 15 ∷ 25 ∷ []) refl refl (lit≤ tt)

-- there the frame ends
pub peaks_finished : IsFinished 2 9 peaks SECOND
unfolding level_of leaves_of
peaks_finished = blocked 4 (lit≤ tt) blocked_by_4 (leads_before 2 peaks SECOND 4 (grid_set 2 SECOND refl).closed refl)

-- these steps are the second frame, with 5 addresses split and 5 merged
pub peaks_run : IsFrameRun 2 9 peaks FIRST SECOND SECOND_SPLITS SECOND_MERGES
peaks_run = record {
  run = split WITHOUT_4 SECOND 4 5 (merge WITH_12 WITHOUT_4 4 4
      (split WITHOUT_5 WITH_12 1 4 (merge WITHOUT_8 WITHOUT_5 1 3 (merge WITH_6 WITHOUT_8 1 1
      (split WITHOUT_17 WITH_6 0 1 (merge FIRST WITHOUT_17 0 0 begin merge_17.0) split_6.0) merge_8.0) merge_5.0)
      split_12.0) merge_4.0) split_25.0;
  finished = peaks_finished;
}

-- a diamond that is merged and comes back by force

abbrev left : ℕ → ℕ
left = told_by LEFT_ALONE

-- 5 is split first
pub split_5 : (step : IsSplitStep 2 8 left WITH_4_AND_6 AND_5) × (step.leaf ≡ 5)
unfolding level_of leaves_of
split_5 = split_step 2 8 left WITH_4_AND_6 5 ([]) AND_5 (lit≤ tt) refl refl (lit≤ tt)

-- then the diamond of 6 is merged
pub merge_6 : (step : IsMergeStep 2 8 left AND_5 LESS_6) × (step.diamond ≡ 6)
unfolding level_of leaves_of
merge_6 =
    merge_step 2 8 left AND_5 LESS_6 6 refl refl (room_for 2 8 left AND_5 6 10 (13 ∷ [])
    (2 ∷ 3 ∷ 4 ∷ 5 ∷ 6 ∷ 10 ∷ 13 ∷ []) (lit≤ tt) refl refl (lit≤ tt) refl) refl

-- and that of 4
pub merge_4_too : (step : IsMergeStep 2 8 left LESS_6 LESS_4) × (step.diamond ≡ 4)
unfolding level_of leaves_of
merge_4_too =
    merge_step 2 8 left LESS_6 LESS_4 4 refl refl (room_for 2 8 left LESS_6 4 10 (13 ∷ 6 ∷ [])
    (2 ∷ 3 ∷ 4 ∷ 5 ∷ 6 ∷ 10 ∷ 13 ∷ []) (lit≤ tt) refl refl (lit≤ tt) refl) refl

-- 10 is split, which forces 13 and brings 6 back
pub split_10 : (step : IsSplitStep 2 8 left LESS_4 AND_10) × (step.leaf ≡ 10)
unfolding level_of leaves_of
split_10 = split_step 2 8 left LESS_4 10 (13 ∷ 6 ∷ []) AND_10 (lit≤ tt) refl refl (lit≤ tt)

left_finished : IsFinished 2 8 left AND_10
unfolding level_of leaves_of
left_finished = all_split (lit≤ tt) (zero_leaves left (leaves_of 2 (among AND_10)) refl)
    (λ d lead. leads_positive 2 left AND_10 (grid_set 2 AND_10 refl).closed refl d lead)

-- these steps are the frame, with 4 addresses split and 2 merged
pub left_run : IsFrameRun 2 8 left WITH_4_AND_6 AND_10 FORCED_SPLITS FORCED_MERGES
left_run = record {
  run = split LESS_4 AND_10 1 2 (merge LESS_6 LESS_4 1 1
      (merge AND_5 LESS_6 1 0 (split WITH_4_AND_6 AND_5 0 0 begin split_5.0) merge_6.0) merge_4_too.0) split_10.0;
  finished = left_finished;
}

-- over the budget

over_budget : (step : IsMergeStep 2 5 (told_by FALLING) LESS_6 (2 ∷ 3 ∷ 4 ∷ [])) × (step.diamond ≡ 5)
unfolding level_of leaves_of
over_budget = merge_step 2 5 (told_by FALLING) LESS_6 (2 ∷ 3 ∷ 4 ∷ []) 5 refl refl (too_many (lit≤ tt)) refl

-- at a budget of 5 leaves the diamond of 5 is merged, and the frame ends: 5 does not fit
pub over_run : IsFrameRun 2 5 (told_by FALLING) LESS_6 (2 ∷ 3 ∷ 4 ∷ []) 0 1
unfolding level_of leaves_of
over_run = record {
  run = merge LESS_6 (2 ∷ 3 ∷ 4 ∷ []) 0 0 begin over_budget.0;
  finished = blocked 5 (lit≤ tt) (does_not_fit 2 5 (told_by FALLING) (2 ∷ 3 ∷ 4 ∷ []) 5 [] LESS_6 refl refl (lit≤ tt))
      (leads_before 2 (told_by FALLING) (2 ∷ 3 ∷ 4 ∷ []) 5 (grid_set 2 (2 ∷ 3 ∷ 4 ∷ []) refl).closed refl);
}

-- priorities 0

needless_4 : (step : IsMergeStep 2 9 (told_by []) (2 ∷ 3 ∷ 4 ∷ []) (2 ∷ 3 ∷ [])) × (step.diamond ≡ 4)
unfolding level_of leaves_of
needless_4 = merge_step 2 9 (told_by []) (2 ∷ 3 ∷ 4 ∷ []) (2 ∷ 3 ∷ []) 4 refl refl
    (needless (lit≤ tt) (zero_leaves (told_by []) (leaves_of 2 (among (2 ∷ 3 ∷ 4 ∷ []))) refl) refl) refl

needless_2 : (step : IsMergeStep 2 9 (told_by []) (2 ∷ 3 ∷ []) []) × (step.diamond ≡ 2)
unfolding level_of leaves_of
needless_2 = merge_step 2 9 (told_by []) (2 ∷ 3 ∷ []) [] 2 refl refl
    (needless (lit≤ tt) (zero_leaves (told_by []) (leaves_of 2 (among (2 ∷ 3 ∷ []))) refl) refl) refl

-- a frame whose priorities are all 0 merges 4, and then 2 with 3, and ends with no member
pub zero_run : IsFrameRun 2 9 (told_by []) (2 ∷ 3 ∷ 4 ∷ []) [] 0 3
unfolding level_of leaves_of
zero_run = record {
  run = merge (2 ∷ 3 ∷ []) [] 0 1 (merge (2 ∷ 3 ∷ 4 ∷ []) (2 ∷ 3 ∷ []) 0 0 begin needless_4.0) needless_2.0;
  finished = all_split (lit≤ tt) (zero_leaves (told_by []) (leaves_of 2 (among [])) refl)
      (λ d lead. leads_positive 2 (told_by []) [] (grid_set 2 [] refl).closed refl d lead);
}
