-- The run ends: fewer chosen triangles are missing after each split, and fewer members are left after each merge.
use Rattle.std.proofs.Common.{ℕ, zero, suc, ◌+◌, ◌-◌, ◌<◌, ◌≤◌, Bool, not, List, length, take, count_by, arith}
use Rattle.std.proofs.lemmas.Bool.{both_ways, not-true, not_from_false, not_from_true, false_from_ne_true}
use Rattle.mesh_defs.specs.ClosedSet.{among}
use Rattle.mesh_defs.specs.Ranking.{IsRanking, IsRankClosure}
use Rattle.mesh_defs.proofs.ListLemmas.{IsIn-among, among-in}
use Rattle.mesh_defs.specs.GridSet.{IsGridSet}
use Rattle.mesh_defs.specs.Falling.{IsFalling}
use Rattle.mesh_laws.proofs.SetListLemmas.{count-no_more, count-less}
use Rattle.mesh_laws.specs.Steps.{IsSplitStep, IsMergeStep, IsFinished, StepRun, begin, split, merge}
use Rattle.mesh_laws.proofs.ChosenLemmas.{split_is_chosen}
use Rattle.mesh_laws.proofs.RunLemmas.{split_set, merge_set, split_keeps, split_member, split_leaf_outside}
use Rattle.mesh_laws.proofs.RunLemmas.{merge_shorter, merge_keeps_chosen}
use Rattle.mesh_laws.proofs.NextLemmas.{splits, merges, ends, next}

-- how many of the chosen triangles are not members
pub missing : List ℕ → List ℕ → ℕ
missing chosen members = count_by (λ c. not (among members c)) chosen

-- a run that ends
pub record HasEnd (n budget : ℕ) (priority : ℕ → ℕ) (start : List ℕ) : Type 0 where
  pub last : List ℕ
  pub added : ℕ
  pub removed : ℕ
  pub run : StepRun n budget priority start last added removed
  pub finished : IsFinished n budget priority last

module _ (n budget : ℕ) (priority : ℕ → ℕ) (ranking : List ℕ) (chosen : ℕ) (best : ℕ → Bool)
    (ranked : IsRanking n priority ranking) (falling : IsFalling n priority)
    (closure : IsRankClosure n budget ranking chosen best) where
  -- a split adds a chosen triangle
  pub split_misses_less : (before after : List ℕ) → IsGridSet n before → IsSplitStep n budget priority before after →
      missing (take chosen ranking) after < missing (take chosen ranking) before
  unfolding missing
  split_misses_less before after set step =
      count-less (λ c. not (among after c)) (λ c. not (among before c)) step.leaf (take chosen ranking)
      (λ c out. not_from_false (among before c) (false_from_ne_true (among before c) (λ is.
      both_ways (among after c) (not-true (among after c) out) (split_keeps n budget priority before after step c is))))
      (IsIn-among step.leaf (take chosen ranking)
      (split_is_chosen n budget priority ranking chosen best ranked falling closure before after set.closed step))
      (not_from_true (among after step.leaf) (split_member n budget priority before after step))
      (not_from_false (among before step.leaf)
      (false_from_ne_true (among before step.leaf) (split_leaf_outside n budget priority before after set step)))

  -- a merge takes none away
  pub merge_misses_same : (before after : List ℕ) → IsGridSet n before → IsMergeStep n budget priority before after →
      missing (take chosen ranking) after ≤ missing (take chosen ranking) before
  unfolding missing
  merge_misses_same before after set step =
      count-no_more (λ c. not (among after c)) (λ c. not (among before c)) (take chosen ranking)
      (λ c i out. not_from_false (among before c) (false_from_ne_true (among before c) (λ is.
      both_ways (among after c) (not-true (among after c) out)
      (merge_keeps_chosen n budget priority ranking chosen best ranked falling closure before after set step c
      (among-in c (take chosen ranking) i) is))))

  ends_by_size : (size misses : ℕ) → 2 ≤ budget →
      ((start now : List ℕ) (added removed : ℕ) → StepRun n budget priority start now added removed → IsGridSet n now →
      missing (take chosen ranking) now < misses → HasEnd n budget priority start) →
      (start now : List ℕ) (added removed : ℕ) → StepRun n budget priority start now added removed → IsGridSet n now →
      missing (take chosen ranking) now ≤ misses → length now < size →
      HasEnd n budget priority start
  ends_by_size zero misses low fewer start now added removed run set most short = absurd (omega arith)
  ends_by_size (suc size) misses low fewer start now added removed run set most short =
      elim (next n budget priority falling now set low) as (λ _. HasEnd n budget priority start) [
        | ends finished ↦ record { last = now; added = added; removed = removed; run = run; finished = finished }
        | splits after step ↦ (
            let less = split_misses_less now after set step in
            fewer start after (added + (length after - length now)) removed (split now after added removed run step)
            (split_set n budget priority now after set step) (omega arith))
        | merges after step ↦ (
            let less = merge_misses_same now after set step in
            let shorter = merge_shorter n budget priority now after set step in
            ends_by_size size misses low fewer start after added (removed + (length now - length after))
            (merge now after added removed run step)
            (merge_set n budget priority now after set step) (omega arith) (omega arith))
      ]

  ends_by_missing : (misses : ℕ) → 2 ≤ budget →
      (start now : List ℕ) (added removed : ℕ) → StepRun n budget priority start now added removed → IsGridSet n now →
      missing (take chosen ranking) now < misses → HasEnd n budget priority start
  ends_by_missing zero low start now added removed run set most = absurd (omega arith)
  ends_by_missing (suc misses) low start now added removed run set most =
      ends_by_size (suc (length now)) misses low (ends_by_missing misses low) start now added removed run set
      (omega arith) (omega arith)

  -- from each closed set the run ends
  pub run_ends : (start : List ℕ) → IsGridSet n start → 2 ≤ budget → HasEnd n budget priority start
  run_ends start set low =
      ends_by_missing (suc (missing (take chosen ranking) start)) low start start 0 0 begin set (omega arith)
