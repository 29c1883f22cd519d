-- Runs: what they keep, what they count, and how much they can merge.
use Rattle.std.proofs.Common.{◌≡◌, ℕ, ◌+◌, ◌-◌, ◌<◌, ◌≤◌, ◌⊎◌, ◌||◌, inl, inr, Bool, not, IsTrue, List, length, take}
use Rattle.std.proofs.Common.{refl, arith, ⊎_elim}
use Rattle.std.specs.List.{filter}
use Rattle.std.proofs.lemmas.Bool.{cases_Bool, both_ways, not-true, not_from_false, or_left, or_right, or_cases}
use Rattle.std.proofs.lemmas.Bool.{false_from_ne_true}
use Rattle.mesh_defs.specs.Triangle.{IsAddress}
use Rattle.mesh_defs.specs.ClosedSet.{IsClosed, IsSubset, among}
use Rattle.mesh_defs.specs.Ranking.{IsRanking, IsRankClosure}
use Rattle.mesh_laws.proofs.DescentLemmas.{IsAddress-splittable}
use Rattle.mesh_defs.specs.GridSet.{IsAscending, IsGridSet}
use Rattle.mesh_defs.specs.Falling.{IsFalling}
use Rattle.mesh_laws.proofs.ForcingLemmas.{with-old, with-new}
use Rattle.mesh_laws.specs.Steps.{IsSplitStep, IsMergeStep, StepRun, begin, split, merge, HoldsChosen, AreLoose}
use Rattle.mesh_laws.proofs.SetListLemmas.{among-filter, filter-among, ascending-filter, length-parts, length-subset}
use Rattle.mesh_laws.proofs.SetListLemmas.{length-less}
use Rattle.mesh_laws.proofs.DiamondLemmas.{diamond_symmetric, diamond_closed, leaf_outside, without_diamond-closed}
use Rattle.mesh_laws.proofs.ChangeLemmas.{forced_subset, union_closed}
use Rattle.mesh_laws.proofs.ChosenLemmas.{holds_chosen, inside_no_merge, merge_spares_chosen, split_is_chosen}
use Rattle.mesh_laws.proofs.ChosenLemmas.{split_adds}

module _ (n budget : ℕ) (priority : ℕ → ℕ) where
  -- what a step keeps

  -- a split step goes from a closed set to a closed set
  pub split_set : (before after : List ℕ) → IsGridSet n before →
      IsSplitStep n budget priority before after → IsGridSet n after
  split_set before after set step =
      record {
        n_low = set.n_low;
        n_high = set.n_high;
        ascending = step.forced.ascending;
        closed = step.forced.least.closed;
      }

  -- and so does a merge step
  pub merge_set : (before after : List ℕ) → IsGridSet n before →
      IsMergeStep n budget priority before after → IsGridSet n after
  merge_set before after set step = record {
    n_low = set.n_low;
    n_high = set.n_high;
    ascending = step.merged.ascending;
    closed = without_diamond-closed n before step.diamond after set.closed step.last.lead.mergeable step.merged;
  }

  -- a split keeps all members
  pub split_keeps : (before after : List ℕ) → IsSplitStep n budget priority before after →
      IsSubset (among before) (among after)
  split_keeps before after step a h = step.forced.least.holds a (with-old (among before) step.leaf a h)

  -- and makes its leaf one
  pub split_member : (before after : List ℕ) → (step : IsSplitStep n budget priority before after) →
      IsTrue (among after step.leaf)
  split_member before after step = step.forced.least.holds step.leaf (with-new (among before) step.leaf)

  -- which it was not
  pub split_leaf_outside : (before after : List ℕ) → IsGridSet n before →
      (step : IsSplitStep n budget priority before after) → IsTrue (among before step.leaf) → ⊥
  split_leaf_outside before after set step =
      (leaf_outside n (among before) step.leaf set.closed step.first.leaf).outside

  -- a merge adds nothing
  pub merge_keeps : (before after : List ℕ) → IsMergeStep n budget priority before after →
      IsSubset (among after) (among before)
  merge_keeps before after step a h = ((step.merged.members a).0 h).0

  -- a split step leaves no fewer members
  pub split_longer : (before after : List ℕ) → IsGridSet n before → IsSplitStep n budget priority before after →
      length before ≤ length after
  split_longer before after set step =
      length-subset before after set.ascending step.forced.ascending (split_keeps before after step)

  -- a merge step leaves fewer members
  pub merge_shorter : (before after : List ℕ) → IsGridSet n before → IsMergeStep n budget priority before after →
      length after < length before
  merge_shorter before after set step =
      length-less after before step.diamond step.merged.ascending set.ascending
      (merge_keeps before after step) step.last.lead.mergeable.member
      (λ h. ((step.merged.members step.diamond).0 h).1 (inl refl))

  -- what a run keeps

  -- it goes through closed sets
  pub run_set : (start last : List ℕ) (added removed : ℕ) → IsGridSet n start →
      StepRun n budget priority start last added removed → IsGridSet n last
  run_set start last added removed set begin = set
  run_set start _ added removed set (split before after a r run step) =
      split_set before after (run_set start before a r set run) step
  run_set start _ added removed set (merge before after a r run step) =
      merge_set before after (run_set start before a r set run) step

  -- added less removed is the change of size
  pub run_size : (start last : List ℕ) (added removed : ℕ) → IsGridSet n start →
      StepRun n budget priority start last added removed →
      length start + added ≡ length last + removed
  run_size start last added removed set begin = refl
  run_size start _ added removed set (split before after a r run step) =
      omega (
        arith,
        split_longer before after (run_set start before a r set run) step,
        run_size start before a r set run,
      )
  run_size start _ added removed set (merge before after a r run step) =
      omega (
        arith,
        merge_shorter before after (run_set start before a r set run) step,
        run_size start before a r set run,
      )

module _ (n budget : ℕ) (priority : ℕ → ℕ) (ranking : List ℕ) (chosen : ℕ) (best : ℕ → Bool)
    (ranked : IsRanking n priority ranking) (falling : IsFalling n priority)
    (closure : IsRankClosure n budget ranking chosen best) where
  -- no needless change

  -- a run from within the rank closure stays there and merges nothing
  pub run_inside : (start last : List ℕ) (added removed : ℕ) → IsGridSet n start → IsSubset (among start) best →
      StepRun n budget priority start last added removed →
      IsSubset (among last) best × (removed ≡ 0)
  run_inside start last added removed set sub begin = (sub, refl)
  run_inside start _ added removed set sub (split before after a r run step) =
      let rest = run_inside start before a r set sub run in
      let now = run_set n budget priority start before a r set run in (
        (λ b h. ⊎_elim (λ was. rest.0 b was) (λ in_best. in_best)
            (split_adds n budget priority ranking chosen best ranked falling closure before after now.closed step b h)),
        rest.1,
      )
  run_inside start _ added removed set sub (merge before after a r run step) =
      let rest = run_inside start before a r set sub run in
      let now = run_set n budget priority start before a r set run in
      absurd (inside_no_merge n budget priority ranking chosen best ranked falling closure before after
      now.ascending now.closed rest.0 step)

  -- a merge keeps the chosen triangles
  pub merge_keeps_chosen : (before after : List ℕ) → IsGridSet n before → IsMergeStep n budget priority before after →
      (c : ℕ) → IsTrue (among (take chosen ranking) c) → IsTrue (among before c) → IsTrue (among after c)
  merge_keeps_chosen before after set step c is_chosen member = (step.merged.members c).1 (
    member,
    λ i. merge_spares_chosen n budget priority ranking chosen best ranked falling closure before after
        set.ascending set.closed step
        record { triangle = c; in_diamond = i; is_chosen = is_chosen },
  )

  -- a run from around the chosen triangles keeps them and splits nothing
  pub run_outside : (start last : List ℕ) (added removed : ℕ) → IsGridSet n start →
      IsSubset (among (take chosen ranking)) (among start) →
      StepRun n budget priority start last added removed →
      IsSubset (among (take chosen ranking)) (among last) × (added ≡ 0)
  run_outside start last added removed set all begin = (all, refl)
  run_outside start _ added removed set all (split before after a r run step) =
      let rest = run_outside start before a r set all run in
      let now = run_set n budget priority start before a r set run in
      absurd (split_leaf_outside n budget priority before after now step
      (rest.0 step.leaf
      (split_is_chosen n budget priority ranking chosen best ranked falling closure before after now.closed step)))
  run_outside start _ added removed set all (merge before after a r run step) =
      let rest = run_outside start before a r set all run in
      let now = run_set n budget priority start before a r set run in
      ((λ c h. merge_keeps_chosen before after now step c h (rest.0 c h)), rest.1)

  -- the merge bound

  -- a is forced by a chosen member
  record IsSafe (members : List ℕ) (a : ℕ) : Type 0 where
    triangle : ℕ
    is_chosen : IsTrue (among (take chosen ranking) triangle)
    member : IsTrue (among members triangle)
    forces : (other : ℕ → Bool) → IsClosed n other → IsTrue (other triangle) → IsTrue (other a)

  -- what can still be merged: after so many merges at most as many are left as there were at first
  record Leftover (most : ℕ) (members : List ℕ) (removed : ℕ) : Type 0 where
    left : List ℕ
    ascending : IsAscending left
    covers : (a : ℕ) → IsTrue (among members a) → IsTrue (among left a) ⊎ IsSafe members a
    count : removed + length left ≤ most

  -- what a merge takes away was left over
  merge_leftover : (most : ℕ) (before after : List ℕ) (removed : ℕ) → IsGridSet n before →
      IsMergeStep n budget priority before after →
      Leftover most before removed → Leftover most after (removed + (length before - length after))
  merge_leftover most before after removed set step l =
      let shut = merge_set n budget priority before after set step in
      let safe : (a : ℕ) → IsSafe before a → IsSafe after a = λ a s. record {
        triangle = s.triangle;
        is_chosen = s.is_chosen;
        member = merge_keeps_chosen before after set step s.triangle s.is_chosen s.member;
        forces = s.forces;
      } in
      let gone : List ℕ = filter (λ a. not (among after a)) before in
      let gone_rises : IsAscending gone = ascending-filter (λ a. not (among after a)) before set.ascending in
      let gone_out : (a : ℕ) → IsTrue (among gone a) → IsTrue (among after a) → ⊥ = λ a h k.
      both_ways (among after a) (not-true (among after a) (among-filter (λ b. not (among after b)) a before h).1) k in
      let gone_left : IsSubset (among gone) (among l.left) = λ a h. ⊎_elim
      (λ there. there)
      (λ (s : IsSafe before a). let t = safe a s in absurd (gone_out a h (s.forces (among after) shut.closed t.member)))
      (l.covers a (among-filter (λ b. not (among after b)) a before h).0) in
      let first =
      length-parts after before shut.ascending set.ascending (merge_keeps n budget priority before after step) in
      let second = length-parts gone l.left gone_rises l.ascending gone_left in
      let count = l.count in
      record {
        left = filter (λ a. not (among gone a)) l.left;
        ascending = ascending-filter (λ a. not (among gone a)) l.left l.ascending;
        covers = λ a h. ⊎_elim
            (λ there. inl (filter-among (λ b. not (among gone b)) a l.left there
            (not_from_false (among gone a) (false_from_ne_true (among gone a) (λ k. gone_out a k h)))))
            (λ s. inr (safe a s))
            (l.covers a (merge_keeps n budget priority before after step a h));
        count = omega arith;
      }

  -- what a split adds is forced by a chosen member
  split_leftover : (most : ℕ) (before after : List ℕ) (removed : ℕ) → IsGridSet n before →
      IsSplitStep n budget priority before after →
      Leftover most before removed → Leftover most after removed
  split_leftover most before after removed set step l = record {
    left = l.left;
    ascending = l.ascending;
    count = l.count;
    covers = λ a h. ⊎_elim
        (λ was. ⊎_elim
        (λ there. inl there)
        (λ (s : IsSafe before a). inr record {
          triangle = s.triangle;
          is_chosen = s.is_chosen;
          member = split_keeps n budget priority before after step s.triangle s.member;
          forces = s.forces;
        })
        (l.covers a was))
        (λ new. inr record {
          triangle = step.leaf;
          is_chosen =
              split_is_chosen n budget priority ranking chosen best ranked falling closure before after set.closed step;
          member = split_member n budget priority before after step;
          forces = λ other shut is. ⊎_elim
              (λ was. absurd (both_ways (among before a) new was))
              (λ there. there)
              (or_cases (among before a) (other a)
              (forced_subset n before step.leaf (among after) (λ z. among before z || other z) step.forced.least
              (union_closed n (among before) other set.closed shut)
              (λ b i. or_left (among before b) (other b) i)
              (or_right (among before step.leaf) (other step.leaf) is)
              a h));
        })
        (cases_Bool (among before a));
  }

  run_leftover : (most : ℕ) (start last : List ℕ) (added removed : ℕ) → IsGridSet n start → Leftover most start 0 →
      StepRun n budget priority start last added removed →
      Leftover most last removed
  run_leftover most start last added removed set l begin = l
  run_leftover most start _ added removed set l (split before after a r run step) =
      split_leftover most before after r (run_set n budget priority start before a r set run) step
      (run_leftover most start before a r set l run)
  run_leftover most start _ added removed set l (merge before after a r run step) =
      merge_leftover most before after r (run_set n budget priority start before a r set run) step
      (run_leftover most start before a r set l run)

  -- no more is merged than the members whose diamond holds no chosen triangle
  pub run_bound : (start last loose : List ℕ) (added removed : ℕ) → IsGridSet n start →
      AreLoose n ranking chosen start loose →
      StepRun n budget priority start last added removed → removed ≤ length loose
  run_bound start last loose added removed set o run =
      let l = run_leftover (length loose) start last added removed set record {
        left = loose;
        ascending = o.ascending;
        count = omega arith;
        covers = λ a h.
            let address : IsAddress n a = IsAddress-splittable n a (set.closed.splittable a h) in ⊎_elim
            (λ (held : HoldsChosen n ranking chosen a). inr record {
              triangle = held.triangle;
              is_chosen = held.is_chosen;
              member = diamond_closed n (among start) a held.triangle set.closed h held.in_diamond;
              forces = λ other shut is. diamond_closed n other held.triangle a shut is
                  (diamond_symmetric n a held.triangle address held.in_diamond);
            })
            (λ none. inl ((o.rest a).1 (h, none)))
            (holds_chosen n ranking chosen a address);
      } run in
      let count = l.count in omega arith

  -- and no more than there was
  pub run_removed : (start last : List ℕ) (added removed : ℕ) → IsGridSet n start →
      StepRun n budget priority start last added removed → removed ≤ length start
  run_removed start last added removed set run =
      let l = run_leftover (length start) start last added removed set record {
        left = start;
        ascending = set.ascending;
        count = omega arith;
        covers = λ a h. inl h;
      } run in
      let count = l.count in omega arith
