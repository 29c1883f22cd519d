-- The frame that a mesh and a gauge begin, and what its end says of every ranking.
use Rattle.std.proofs.Common.{◌≡◌, ℕ, ◌+◌, ◌-◌, ◌*◌, ◌^◌, ◌<◌, ◌≤◌, inl, inr, Bool, false, IsTrue, List, length, refl}
use Rattle.std.proofs.Common.{sym, ◌∙◌, ap, subst, arith, ⊎_elim, Some}
use Rattle.std.proofs.lemmas.Bool.{le-ltb}
use Rattle.mesh_defs.specs.ClosedSet.{among}
use Rattle.mesh_defs.specs.Ranking.{IsRankClosure}
use Rattle.mesh_laws.proofs.RankingLemmas.{ranking_of, IsRanking-of}
use Rattle.mesh_defs.specs.GridSet.{IsGridSet}
use Rattle.mesh_defs.specs.Falling.{IsFalling}
use Rattle.mesh_laws.proofs.RankLemmas.{IsRankClosure-unique}
use Rattle.mesh_laws.proofs.FrameLemmas.{IsRanking-unique}
use Rattle.mesh_laws.specs.Steps.{IsFrameRun}
use Rattle.mesh_laws.specs.Deferred.{LeafStraddles, DeferredFrame, IsDeferredFrame, IsOpen, due_entry, open_leaf}
use Rattle.mesh_laws.specs.Deferred.{open_member}
use Rattle.mesh_laws.proofs.ExistenceLemmas.{rank_closure_of}
use Rattle.mesh_laws.proofs.SetListLemmas.{length-distinct}
use Rattle.mesh_laws.proofs.StampLemmas.{stamped_frame}
use Rattle.mesh_laws.proofs.FrameRunLemmas.{frame_size, frame_no_merge, frame_no_split, frame_bound}
use Rattle.deferred_loop.specs.Choice.{Priorities, IsSparing}
use Rattle.mesh_laws.specs.Stamps.{Readings, is_due, stamp_now, StampsHold, ReadingsHold}
use Rattle.deferred_loop.specs.Seen.{SeenMesh}
use Rattle.deferred_loop.specs.Kept.{frame_priorities, IsFrameOf, IsStamped}
use Rattle.deferred_loop.specs.Promise.{frame_of, IsAtMost, IsAtLeast, AreStampsGood}

-- how many are chosen and their closure, for a budget that counts as at least 2
pub aim_of : ℕ → ℕ → (ℕ → ℕ) → ℕ × (ℕ → Bool)
aim_of n budget priority =
    let r =
    rank_closure_of n (2 + (budget - 2)) priority (ranking_of n priority) (IsRanking-of n priority) (omega arith) in
    (r.0, r.1)

aim_is : (n budget : ℕ) (priority : ℕ → ℕ) → 2 ≤ budget →
    IsRankClosure n budget (ranking_of n priority) (aim_of n budget priority).0 (aim_of n budget priority).1
unfolding aim_of
aim_is n budget priority low =
    let r =
    rank_closure_of n (2 + (budget - 2)) priority (ranking_of n priority) (IsRanking-of n priority) (omega arith) in
    subst (λ z. IsRankClosure n z (ranking_of n priority) r.0 r.1)
    (let e : 2 + (budget - 2) ≡ budget = omega arith in e) r.2

-- the frame that begins
abbrev pub frame_now : Priorities → Readings → ℕ → SeenMesh → ℕ → DeferredFrame
frame_now priorities r odometer s budget =
    frame_of priorities r odometer s budget (ranking_of s.set.n priorities.of) (aim_of s.set.n budget priorities.of).0
    (aim_of s.set.n budget priorities.of).1

module _ (priorities : Priorities) (r : Readings) (odometer : ℕ) (s : SeenMesh) (budget : ℕ)
    (grid : priorities.n ≡ s.set.n) where
  -- it is what the gauge tells
  pub picked_priorities : priorities ≡ frame_priorities (frame_now priorities r odometer s budget)
  picked_priorities = ap (λ z. record { n = z; of = priorities.of }) grid

  -- it is that of the mesh
  pub picked_of : IsFrameOf (frame_now priorities r odometer s budget) r odometer s
  picked_of = record {
    grid = refl;
    start = refl;
    stamps = record { due = λ a. refl; upper = λ a. refl; lower = λ a. refl };
  }

  module _ (low : 2 ≤ budget) (falls : IsFalling priorities.n priorities.of)
      (valid : IsGridSet s.set.n s.set.members) where
    pub falling_here : IsFalling s.set.n priorities.of
    falling_here = subst (λ z. IsFalling z priorities.of) grid falls

    -- each priority lies between its bounds
    pub picked_frame : StampsHold priorities.of odometer s.stamps → ReadingsHold s.set.n priorities.of odometer r →
        IsDeferredFrame (frame_now priorities r odometer s budget)
    picked_frame hold now = stamped_frame (frame_now priorities r odometer s budget) r odometer s.stamps
        (IsRanking-of s.set.n priorities.of) falling_here
        (aim_is s.set.n budget priorities.of low) low valid (picked_of).stamps hold now

    -- the needed change is no more than it must be
    pub end_sparing : (last : List ℕ) (added removed : ℕ) →
        IsFrameRun s.set.n budget priorities.of s.set.members last added removed →
        IsSparing s.set.n budget priorities.of s.set.members last added removed
    end_sparing last added removed frame = record {
      size = frame_size s.set.n budget priorities.of s.set.members last added removed valid frame;
      no_merge = frame_no_merge s.set.n budget priorities.of s.set.members last added removed valid frame falling_here;
      no_split = frame_no_split s.set.n budget priorities.of s.set.members last added removed valid frame falling_here;
      bound = λ ranking chosen loose ranked closure o. frame_bound s.set.n budget priorities.of s.set.members last added
          removed valid frame ranking chosen loose ranked falling_here closure o;
    }

    -- what is open goes by the ranking, of which there is one
    open_same : (ranking other : List ℕ) (chosen more : ℕ) (best has : ℕ → Bool) (a : ℕ) →
        ranking ≡ other → chosen ≡ more →
        IsOpen (frame_of priorities r odometer s budget ranking chosen best) a →
        IsOpen (frame_of priorities r odometer s budget other more has) a
    open_same ranking other chosen more best has a one two (due_entry entry due) = due_entry entry due
    open_same ranking other chosen more best has a one two (open_leaf leaf undue straddles) = open_leaf leaf undue
        (subst (λ z. LeafStraddles priorities.of other z (frame_of priorities r odometer s budget ranking chosen
        best).upper a) two
        (subst (λ z. LeafStraddles priorities.of z chosen
        (frame_of priorities r odometer s budget ranking chosen best).upper a) one straddles))
    open_same ranking other chosen more best has a one two (open_member can undue straddles) =
        open_member can undue straddles

    -- the evaluations, for each ranking
    pub end_at_most : (steps count more : ℕ) →
        ((all_open : List ℕ) → ((a : ℕ) → IsOpen (frame_now priorities r odometer s budget) a
        → IsTrue (among all_open a)) →
        more ≤ count + 2 * length all_open + 6 * steps) →
        IsAtMost priorities r odometer s budget steps count more
    end_at_most steps count more most ranking chosen best all_open ranked closure all =
        let same : ranking_of s.set.n priorities.of ≡ ranking = IsRanking-unique s.set.n priorities.of
        (ranking_of s.set.n priorities.of) ranking (IsRanking-of s.set.n priorities.of) ranked in
        let here = subst (λ z. IsRankClosure s.set.n budget z chosen best) (sym same) closure in
        let few =
        IsRankClosure-unique s.set.n budget (ranking_of s.set.n priorities.of)
        (aim_of s.set.n budget priorities.of).0 chosen
        (aim_of s.set.n budget priorities.of).1 best (aim_is s.set.n budget priorities.of low) here in
        most all_open (λ a o. all a (open_same (ranking_of s.set.n priorities.of) ranking
        (aim_of s.set.n budget priorities.of).0 chosen (aim_of s.set.n budget priorities.of).1 best a same few.0 o))

-- each stamp that changed was counted
pub end_at_least : (r : Readings) (odometer : ℕ) (before after : SeenMesh) (count more : ℕ) → more < 2 ^ 64 - 1 →
    IsStamped r odometer before count after more → IsAtLeast before after count more
end_at_least r odometer before after count more small s changed distinct each =
    omega (
      arith,
      s.counted small,
      length-distinct changed s.read distinct (λ a i. ⊎_elim
          (λ (kept : (after.stamps a ≡ before.stamps a) × (is_due odometer (before.stamps a) ≡ false)).
          absurd ((each a i).1 kept.0))
          (λ (taken : (after.stamps a ≡ Some (stamp_now r odometer a)) × IsTrue (among s.read a)). taken.1)
          (s.each a (each a i).0)),
    )

-- no stamp is due
pub end_stamps : (r : Readings) (odometer : ℕ) (before after : SeenMesh) (count more : ℕ) →
    IsStamped r odometer before count after more → AreStampsGood r odometer before after
end_stamps r odometer before after count more s a entry = ⊎_elim
    (λ (kept : (after.stamps a ≡ before.stamps a) × (is_due odometer (before.stamps a) ≡ false)).
    (ap (is_due odometer) kept.0 ∙ kept.1, inl kept.0))
    (λ (taken : (after.stamps a ≡ Some (stamp_now r odometer a)) × IsTrue (among s.read a)). (
      ap (is_due odometer) taken.0 ∙ le-ltb (odometer + r.slack a) odometer (omega arith),
      inr taken.0,
    ))
    (s.each a entry)
