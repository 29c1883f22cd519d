-- How many steps are left, as a number that each step lowers, and how large the counts of a run can be.
use Rattle.std.proofs.Common.{◌≡◌, ℕ, ◌+◌, ◌-◌, ◌*◌, ◌^◌, ◌<◌, ◌≤◌, Bool, List, length, take, subst, arith}
use Rattle.mesh_defs.specs.Ranking.{IsRankClosure}
use Rattle.mesh_laws.proofs.RankingLemmas.{ranking_of, IsRanking-of}
use Rattle.mesh_defs.specs.GridSet.{IsGridSet}
use Rattle.mesh_defs.specs.Falling.{IsFalling}
use Rattle.mesh_laws.proofs.SizeLemmas.{length-members}
use Rattle.mesh_laws.specs.Steps.{IsSplitStep, IsMergeStep, StepRun}
use Rattle.mesh_laws.proofs.RunLemmas.{split_set, merge_shorter, run_set, run_size, run_removed}
use Rattle.mesh_laws.proofs.EndingLemmas.{missing, split_misses_less, merge_misses_same}
use Rattle.mesh_laws.proofs.ExistenceLemmas.{rank_closure_of}

-- the chosen triangles of a budget, which counts as at least 2
chosen_of : ℕ → ℕ → (ℕ → ℕ) → ℕ
chosen_of n budget priority =
    (rank_closure_of n (2 + (budget - 2)) priority (ranking_of n priority) (IsRanking-of n priority) (omega arith)).0

-- first the chosen triangles that are missing, and then the members
pub steps_left : ℕ → ℕ → (ℕ → ℕ) → List ℕ → ℕ
steps_left n budget priority members =
    missing (take (chosen_of n budget priority) (ranking_of n priority)) members * (2 ^ 30 + 1) + length members

-- their closure
closure_of_chosen : (n budget : ℕ) (priority : ℕ → ℕ) → 2 ≤ budget →
    (has : ℕ → Bool) × IsRankClosure n budget (ranking_of n priority) (chosen_of n budget priority) has
unfolding chosen_of
closure_of_chosen n budget priority low =
    let r =
    rank_closure_of n (2 + (budget - 2)) priority (ranking_of n priority) (IsRanking-of n priority) (omega arith) in (
      r.1,
      subst (λ z. IsRankClosure n z (ranking_of n priority) r.0 r.1)
          (let e : 2 + (budget - 2) ≡ budget = omega arith in e) r.2,
    )

module _ (n budget : ℕ) (priority : ℕ → ℕ) (falling : IsFalling n priority) (low : 2 ≤ budget) where
  -- a split step lowers the number that bounds the steps left
  pub split_steps_left : (before after : List ℕ) → IsGridSet n before → IsSplitStep n budget priority before after →
      steps_left n budget priority after < steps_left n budget priority before
  unfolding steps_left
  split_steps_left before after set step =
      let c = closure_of_chosen n budget priority low in
      let less = split_misses_less n budget priority (ranking_of n priority) (chosen_of n budget priority) c.0
      (IsRanking-of n priority) falling c.1 before after set step in
      let short = length-members n after (split_set n budget priority before after set step) in
      omega arith

  -- and so does a merge step
  pub merge_steps_left : (before after : List ℕ) → IsGridSet n before → IsMergeStep n budget priority before after →
      steps_left n budget priority after < steps_left n budget priority before
  unfolding steps_left
  merge_steps_left before after set step =
      let c = closure_of_chosen n budget priority low in
      let same = merge_misses_same n budget priority (ranking_of n priority) (chosen_of n budget priority) c.0
      (IsRanking-of n priority) falling c.1 before after set step in
      let shorter = merge_shorter n budget priority before after set step in
      omega arith

  -- the counts of a run fit 32 bits
  pub run_small : (start last : List ℕ) (added removed : ℕ) → IsGridSet n start →
      StepRun n budget priority start last added removed →
      (added ≤ 2 ^ 31) × (removed ≤ 2 ^ 30)
  run_small start last added removed set run =
      let c = closure_of_chosen n budget priority low in
      let few = run_removed n budget priority (ranking_of n priority) (chosen_of n budget priority) c.0
      (IsRanking-of n priority) falling c.1 start last added removed set run in
      let first = length-members n start set in
      let second = length-members n last (run_set n budget priority start last added removed set run) in
      let size = run_size n budget priority start last added removed set run in
      (omega arith, omega arith)
