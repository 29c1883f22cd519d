-- The loop: that it ends, and what it leaves.
use Rattle.std.proofs.Common.{◌≡◌, ℕ, ◌+◌, ◌-◌, ◌*◌, ◌^◌, ◌<◌, ◌≤◌, inl, inr, false, IsTrue, List, length, sym, ◌∙◌}
use Rattle.std.proofs.Common.{subst, arith, ⊎_elim, Some}
use Rattle.mesh_defs.specs.ClosedSet.{among}
use Rattle.deferred_loop.specs.Seen.{PoolSet, SeenMesh, IsForgotten, IsCountedBy}
use Rattle.mesh_defs.proofs.ListLemmas.{among-in}
use Rattle.mesh_laws.proofs.SizeLemmas.{length-members}
use Rattle.mesh_laws.specs.Steps.{IsSplitStep, IsMergeStep, IsFinished, IsFrameRun}
use Rattle.mesh_laws.specs.Deferred.{IsEntry, leaf, member, DeferredFrame, IsDeferredFrame, IsOpen, due_entry}
use Rattle.mesh_laws.specs.Deferred.{open_leaf, open_member}
use Rattle.mesh_laws.proofs.MeasureLemmas.{steps_left, split_steps_left, merge_steps_left, run_small}
use Rattle.mesh_laws.proofs.SetListLemmas.{length-distinct}
use Rattle.deferred_loop.proofs.ChoiceLemmas.{leaves_small}
use Rattle.deferred_loop.proofs.TellLemmas.{entries_of, in_entries, length-entries}
use Rattle.mesh_laws.specs.Stamps.{Readings, is_due, stamp_now}
use Rattle.deferred_loop.specs.Kept.{IsSettled, IsCharged, IsStamped}

module _ (w : DeferredFrame) (is : IsDeferredFrame w) where
  -- a split leaves less to do
  pub split_less : (before mid after : SeenMesh) → IsSettled w before → mid.set ≡ before.set →
      IsSplitStep w.n w.budget w.priority mid.set.members after.set.members →
      steps_left w.n w.budget w.priority after.set.members < steps_left w.n w.budget w.priority before.set.members
  split_less before mid after settled same step =
      split_steps_left w.n w.budget w.priority is.falling is.low before.set.members after.set.members settled.valid
      (subst (λ (z : PoolSet). IsSplitStep w.n w.budget w.priority z.members after.set.members) same step)

  -- and so does a merge
  pub merge_less : (before mid after : SeenMesh) → IsSettled w before → mid.set ≡ before.set →
      IsMergeStep w.n w.budget w.priority mid.set.members after.set.members →
      steps_left w.n w.budget w.priority after.set.members < steps_left w.n w.budget w.priority before.set.members
  merge_less before mid after settled same step =
      merge_steps_left w.n w.budget w.priority is.falling is.low before.set.members after.set.members settled.valid
      (subst (λ (z : PoolSet). IsMergeStep w.n w.budget w.priority z.members after.set.members) same step)

  -- the counts have room
  pub charged_small : (s : SeenMesh) (evaluations added removed count : ℕ) →
      IsCharged w evaluations s added removed count → (added ≤ 2 ^ 31) × (removed ≤ 2 ^ 30)
  charged_small s evaluations added removed count c =
      run_small w.n w.budget w.priority is.falling is.low w.start s.set.members added removed is.set c.run

  -- an open entry is an entry of the start
  open_entry : (a : ℕ) → IsOpen w a → IsEntry w.n (among w.start) a
  open_entry a (due_entry entry due) = entry
  open_entry a (open_leaf h undue straddles) = leaf h
  open_entry a (open_member h undue straddles) = member h

  -- and so is the count of evaluations
  pub count_small : (s : SeenMesh) (evaluations added removed count : ℕ) →
      IsCharged w evaluations s added removed count → evaluations < 2 ^ 61 → count < 2 ^ 64 - 1
  count_small s evaluations added removed count c room =
      let few = charged_small s evaluations added removed count c in
      let added_few = few.0 in let removed_few = few.1 in
      let asked = length-distinct c.asked (entries_of w.n w.start) c.distinct
      (λ a i. among-in a (entries_of w.n w.start) (in_entries w.n w.start a (open_entry a (c.each a i)))) in
      let size = length-entries w.n w.start in
      omega (arith, c.total, leaves_small w.n w.start is.set, length-members w.n w.start is.set)

  -- the evaluations
  pub end_most : (s : SeenMesh) (evaluations added removed count : ℕ) → IsCharged w evaluations s added removed count →
      (all_open : List ℕ) → ((a : ℕ) → IsOpen w a → IsTrue (among all_open a)) →
      count ≤ evaluations + 2 * length all_open + 6 * (added + removed)
  end_most s evaluations added removed count c all_open all =
      omega (arith, c.total, length-distinct c.asked all_open c.distinct (λ a i. all a (c.each a i)))

-- the counters of the pool have room for one step more
pub counters_small : (start now : PoolSet) (added removed : ℕ) → IsCountedBy start now added removed →
    (start.splits < 2 ^ 61) × (start.merges < 2 ^ 61) → added ≤ 2 ^ 31 → removed ≤ 2 ^ 30 → now.n ≤ 14 →
    (now.splits + (4 * now.n + 4) < 2 ^ 62) × (now.merges < 2 ^ 62)
counters_small start now added removed c small few less deep =
    let splits = c.splits_rose in
    let merges = c.merges_rose in
    let low = small.0 in
    let high = small.1 in
    (omega arith, omega arith)

-- forgetting leaves the stamps
pub forgotten_stamped : (r : Readings) (odometer : ℕ) (start : SeenMesh) (first : ℕ) (before after : SeenMesh)
    (count : ℕ) → IsForgotten before after →
    IsStamped r odometer start first before count → IsStamped r odometer start first after count
forgotten_stamped r odometer start first before after count gone s = record {
  read = s.read;
  counted = s.counted;
  each = λ a entry. ⊎_elim
      (λ (kept : (before.stamps a ≡ start.stamps a) × (is_due odometer (start.stamps a) ≡ false)).
      inl (gone.stamp a ∙ kept.0, kept.1))
      (λ (taken : (before.stamps a ≡ Some (stamp_now r odometer a)) × IsTrue (among s.read a)).
      inr (gone.stamp a ∙ taken.0, taken.1))
      (s.each a (subst (λ (z : PoolSet). IsEntry z.n (among z.members) a) gone.set entry));
}
