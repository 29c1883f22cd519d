-- 17 is merged in the first step.
use Rattle.std.proofs.Common.{◌≡◌, ℕ, inl, lit≤, ⊎_elim}
use Rattle.mesh_defs.specs.Triangle.{level_of}
use Rattle.mesh_laws.proofs.DescentLemmas.{IsAddress-level}
use Rattle.mesh_laws.specs.Diamond.{IsInDiamond}
use Rattle.mesh_laws.specs.Order.{RanksNoLater}
use Rattle.mesh_laws.proofs.OrderLemmas.{ranks_no_later}
use Rattle.mesh_laws.specs.Steps.{begin}
use Rattle.mesh_laws.specs.Deferred.{after_merged}
use Rattle.mesh_laws.specs.Table.{told_by}
use Rattle.laws_tests.specs.declared.worked_frames.TheConstants.{FROM_UPPER_RIGHT, FIRST, WITHOUT_17}
use Rattle.laws_tests.proofs.FrameExampleLemmas.{diamond-in}
use Rattle.laws_tests.proofs.FrameStepExamples.{merge_17}
use Rattle.laws_tests.proofs.worked_frames.what_straddles_in_the_frames_of_two_peaks.Goals as goal

no_later : (b : ℕ) → IsInDiamond 2 17 b → RanksNoLater (told_by FROM_UPPER_RIGHT) 17 b
unfolding level_of
no_later b i = ⊎_elim
    (λ (same : 17 ≡ b). ranks_no_later (told_by FROM_UPPER_RIGHT) (inl same))
    (λ none. absurd none)
    (diamond-in 2 17 b (IsAddress-level 2 17 (lit≤ tt) (lit≤ tt)) i)

pub returns-clause-merged : goal.returns-clause-merged
returns-clause-merged c =
    after_merged 17 record {
      before = FIRST;
      after = WITHOUT_17;
      added = 0;
      removed = 0;
      run = begin;
      step = merge_17.0;
      lead = merge_17.1;
    } no_later
