-- The laws of a frame's run, put together.
use Rattle.std.proofs.Common.{◌≡◌, ℕ, ◌+◌, ◌≤◌, Bool, IsTrue, List, Option, None, Some, length, take, refl, sym, subst}
use Rattle.mesh_defs.specs.ClosedSet.{IsSubset, among}
use Rattle.mesh_defs.specs.Ranking.{IsRanking, IsRankClosure}
use Rattle.mesh_laws.proofs.RankingLemmas.{ranking_of, IsRanking-of}
use Rattle.mesh_defs.specs.GridSet.{IsGridSet}
use Rattle.mesh_defs.specs.Falling.{IsFalling}
use Rattle.mesh_laws.proofs.MemberLemmas.{ascending_unique}
use Rattle.mesh_defs.specs.Greedy.{IsGreedyEnd}
use Rattle.mesh_laws.proofs.RankLemmas.{IsRankClosure-unique, IsGreedyEnd-closure}
use Rattle.bintree_addr.specs.declared.blocked.Blocked.{Blocked}
use Rattle.mesh_laws.specs.Frame.{IsFrame}
use Rattle.mesh_laws.proofs.FrameLemmas.{IsFrame-done, IsFrame-stopped}
use Rattle.mesh_laws.specs.Steps.{leaf_count, blocked, all_split, IsSplitStep, IsMergeStep, IsFinished, HoldsChosen}
use Rattle.mesh_laws.specs.Steps.{AreLoose, IsFrameRun}
use Rattle.mesh_laws.proofs.ChosenLemmas.{merge_spares_chosen, split_is_chosen}
use Rattle.mesh_laws.proofs.FinishLemmas.{finished_closure}
use Rattle.mesh_laws.proofs.RunLemmas.{run_set, run_size, run_inside, run_outside, run_bound}
use Rattle.mesh_laws.proofs.SingleLemmas.{one_run}
use Rattle.mesh_laws.proofs.EndingLemmas.{run_ends}
use Rattle.mesh_laws.proofs.ExistenceLemmas.{rank_closure_of}

-- from each closed set there is a frame's run
pub frame_run_of : (n budget : ℕ) (priority : ℕ → ℕ) (start : List ℕ) → IsGridSet n start →
    IsFalling n priority → 2 ≤ budget →
    (last : List ℕ) × (added : ℕ) × (removed : ℕ) × IsFrameRun n budget priority start last added removed
frame_run_of n budget priority start set falling low =
    let ranking : List ℕ = ranking_of n priority in
    let ranked : IsRanking n priority ranking = IsRanking-of n priority in
    let aim = rank_closure_of n budget priority ranking ranked low in
    let r = run_ends n budget priority ranking aim.0 aim.1 ranked falling aim.2 start set low in
    (r.last, r.added, r.removed, record { run = r.run; finished = r.finished })

-- and one only
pub frame_run_unique : (n budget : ℕ) (priority : ℕ → ℕ) (start last other : List ℕ) (added removed more less : ℕ) →
    IsFrameRun n budget priority start last added removed → IsFrameRun n budget priority start other more less →
    (last ≡ other) × (added ≡ more) × (removed ≡ less)
frame_run_unique n budget priority start last other added removed more less p q =
    one_run n budget priority start last other added removed more less p.run p.finished q.run q.finished

module _ (n budget : ℕ) (priority : ℕ → ℕ) (start last : List ℕ) (added removed : ℕ)
    (set : IsGridSet n start) (frame : IsFrameRun n budget priority start last added removed) where
  -- it goes to a closed set
  pub frame_set : IsGridSet n last
  frame_set = run_set n budget priority start last added removed set frame.run

  -- the number of members changes by those added less those removed
  pub frame_size : length start + added ≡ length last + removed
  frame_size = run_size n budget priority start last added removed set frame.run

  -- which is the rank closure
  pub frame_closure : (ranking : List ℕ) → IsRanking n priority ranking → IsFalling n priority →
      (chosen : ℕ) × IsRankClosure n budget ranking chosen (among last)
  frame_closure ranking ranked falling =
      finished_closure n priority ranking ranked falling budget last frame_set.closed frame.finished

  -- with no needless change
  pub frame_no_merge : IsFalling n priority → IsSubset (among start) (among last) → removed ≡ 0
  frame_no_merge falling sub =
      let aim = frame_closure (ranking_of n priority) (IsRanking-of n priority) falling in
      (run_inside n budget priority (ranking_of n priority) aim.0 (among last)
      (IsRanking-of n priority) falling aim.1 start last added removed set sub frame.run).1

  -- a frame that ends within its start adds nothing
  pub frame_no_split : IsFalling n priority → IsSubset (among last) (among start) → added ≡ 0
  frame_no_split falling sub =
      let aim = frame_closure (ranking_of n priority) (IsRanking-of n priority) falling in
      (run_outside n budget priority (ranking_of n priority) aim.0 (among last)
      (IsRanking-of n priority) falling aim.1 start last added removed set
      (λ c h. sub c (aim.1.closure.holds c h)) frame.run).1

  -- and it merges no more than the members whose diamond holds no chosen triangle
  pub frame_bound : (ranking : List ℕ) (chosen : ℕ) (loose : List ℕ) →
      IsRanking n priority ranking → IsFalling n priority →
      IsRankClosure n budget ranking chosen (among last) →
      AreLoose n ranking chosen start loose → removed ≤ length loose
  frame_bound ranking chosen loose ranked falling closure o =
      run_bound n budget priority ranking chosen
      (among last) ranked falling closure start last loose added removed set o frame.run

  -- a rank closure is left alone
  pub frame_still : (ranking : List ℕ) (chosen : ℕ) → IsRanking n priority ranking → IsFalling n priority →
      IsRankClosure n budget ranking chosen (among start) → (last ≡ start) × (added ≡ 0) × (removed ≡ 0)
  frame_still ranking chosen ranked falling closure =
      let aim = frame_closure ranking ranked falling in
      let same : last ≡ start = ascending_unique last start frame_set.ascending set.ascending
      (IsRankClosure-unique n budget ranking aim.0 chosen (among last) (among start) aim.1 closure).1 in (
        same,
        frame_no_split falling (λ a h. subst (λ (l : List ℕ). IsTrue (among l a)) same h),
        frame_no_merge falling (λ a h. subst (λ (l : List ℕ). IsTrue (among l a)) (sym same) h),
      )

-- on the way no diamond that holds a chosen triangle is merged, and each split is of a chosen triangle
module _ (n budget : ℕ) (priority : ℕ → ℕ) (ranking : List ℕ) (chosen : ℕ) (best : ℕ → Bool) (before after : List ℕ)
    (ranked : IsRanking n priority ranking) (falling : IsFalling n priority)
    (closure : IsRankClosure n budget ranking chosen best) (set : IsGridSet n before) where
  -- a merged diamond holds no chosen triangle
  pub merge_spares : (step : IsMergeStep n budget priority before after) → HoldsChosen n ranking chosen step.diamond → ⊥
  merge_spares step = merge_spares_chosen n budget priority ranking chosen best ranked falling closure before after
      set.ascending set.closed step

  -- the leaf that is split is a chosen triangle
  pub split_chosen : (step : IsSplitStep n budget priority before after) →
      IsTrue (among (take chosen ranking) step.leaf)
  split_chosen step =
      split_is_chosen n budget priority ranking chosen best ranked falling closure before after set.closed step

-- where a frame ends, greedy refinement ends too
pub finished_end : (n budget : ℕ) (priority : ℕ → ℕ) (members : List ℕ) → IsGridSet n members → IsFalling n priority →
    IsFinished n budget priority members →
    IsGreedyEnd n budget priority (among members)
finished_end n budget priority members set falling finished =
    let aim = finished_closure n priority (ranking_of n priority)
    (IsRanking-of n priority) falling budget members set.closed finished in
    IsGreedyEnd-closure n priority (ranking_of n priority)
    (IsRanking-of n priority) falling budget aim.0 (among members) aim.1

-- so it is the frame of the budget: the first leaf in rank blocks, or nothing does
pub finished_frame : (n budget : ℕ) (priority : ℕ → ℕ) (members : List ℕ) → IsGridSet n members →
    IsFalling n priority → 2 ≤ budget →
    IsFinished n budget priority members →
    (worst : ℕ) × (blocked : Option Blocked) × IsFrame n budget priority (among members) worst blocked
finished_frame n budget priority members set falling low finished = by_case finished
  where
    end : IsGreedyEnd n budget priority (among members)
    end = finished_end n budget priority members set falling finished

    by_case : IsFinished n budget priority members →
        (worst : ℕ) × (blocked : Option Blocked) × IsFrame n budget priority (among members) worst blocked
    by_case (blocked f within no_room leads) =
        let block : Blocked = record { tri = f; need = leaf_count n no_room.after } in (
          priority f,
          Some block,
          IsFrame-stopped n budget priority (among members)
              (among no_room.after) block falling low end no_room.first no_room.forced.least refl,
        )
    by_case (all_split within zeros leads) =
        (0, None, IsFrame-done n budget priority (among members) falling low end zeros)
