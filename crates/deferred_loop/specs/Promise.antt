-- What one frame promises of evaluations and stamps.
-- Words: frame_of, IsAtMost, IsAtLeast, AreStampsGood.
use Rattle.std.specs.Prelude.{◌≡◌, ◌≢◌, ℕ, ◌+◌, ◌*◌, ◌≤◌, ◌⊎◌, Bool, false, nat_eq, IsTrue, List, length, Some}
use Rattle.std.specs.List.{IsDistinct}
use Rattle.mesh_defs.specs.ClosedSet.{among}
use Rattle.mesh_defs.specs.Ranking.{IsRanking, IsRankClosure}
use Rattle.mesh_laws.specs.Deferred.{IsEntry, DeferredFrame, IsOpen}
use Rattle.mesh_laws.specs.Stamps.{Readings, is_due, stamp_now, counted_stamp}
use Rattle.deferred_loop.specs.Choice.{Priorities}
use Rattle.deferred_loop.specs.Seen.{SeenMesh}

-- the frame that begins at a mesh: what is due counts with a stamp that is taken now
abbrev pub frame_of : Priorities → Readings → ℕ → SeenMesh → ℕ → List ℕ → ℕ → (ℕ → Bool) → DeferredFrame
frame_of priorities readings odometer s budget ranking chosen best = record {
  n = s.set.n;
  budget = budget;
  priority = priorities.of;
  ranking = ranking;
  chosen = chosen;
  best = best;
  start = s.set.members;
  due = λ a. is_due odometer (s.stamps a);
  upper = λ a. (counted_stamp readings odometer s.stamps a).upper;
  lower = λ a. (counted_stamp readings odometer s.stamps a).lower;
}

-- The evaluations rise by at most two for each entry of the old set that is due or straddles, each once, and six for
-- each triangle that is split or merged.
abbrev pub IsAtMost : Priorities → Readings → ℕ → SeenMesh → ℕ → ℕ → ℕ → ℕ → Type 0
IsAtMost priorities readings odometer s budget steps count more =
    (ranking : List ℕ) (chosen : ℕ) (best : ℕ → Bool) (all_open : List ℕ) →
    IsRanking s.set.n priorities.of ranking → IsRankClosure s.set.n budget ranking chosen best →
    ((a : ℕ) → IsOpen (frame_of priorities readings odometer s budget ranking chosen best) a
    → IsTrue (among all_open a)) →
    more ≤ count + 2 * length all_open + 6 * steps

-- and by at least one for each entry of the new set whose stamp is not the one from before
abbrev pub IsAtLeast : SeenMesh → SeenMesh → ℕ → ℕ → Type 0
IsAtLeast before after count more =
    (changed : List ℕ) → IsDistinct nat_eq changed →
    ((a : ℕ) → IsTrue (among changed a) →
    IsEntry after.set.n (among after.set.members) a × (after.stamps a ≢ before.stamps a)) →
    count + length changed ≤ more

-- each entry has a stamp that is not due, and it is the one from before or was taken now
abbrev pub AreStampsGood : Readings → ℕ → SeenMesh → SeenMesh → Type 0
AreStampsGood readings odometer before after =
    (a : ℕ) → IsEntry after.set.n (among after.set.members) a →
    (is_due odometer (after.stamps a) ≡ false)
    × ((after.stamps a ≡ before.stamps a) ⊎ (after.stamps a ≡ Some (stamp_now readings odometer a)))
