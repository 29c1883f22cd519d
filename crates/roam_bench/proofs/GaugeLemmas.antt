-- Priorities without planes, and how they fall with the distance.
use Rattle.std.proofs.Common.{◌≡◌, ℕ, ◌+◌, ◌-◌, ◌/◌, ◌≤◌, ◌⊎◌, ◌||◌, false, nat_lt, List, [], Option, None, Some, refl}
use Rattle.std.proofs.Common.{sym, subst, arith, ⊎_elim}
use Rattle.std.proofs.lemmas.Bool.{lt-ltb, cases_lt, both_ways}
use Rattle.mesh_defs.specs.BoundingBox.{CameraAt}
use Rattle.mesh_defs.specs.Thickness.{thickness_of}
use Rattle.mesh_defs.specs.View.{mark_of}
use Rattle.mesh_defs.specs.Priority.{ratio_of, priority_of}
use Rattle.mesh_defs.specs.State.{move_length}
use Rattle.mesh_laws.specs.Deferred.{IsEntry}
use Rattle.mesh_laws.specs.Stamps.{Stamp, IsInStamp, is_due, stamp_now, StampsHold}
use Rattle.deferred_loop.specs.Seen.{SeenMesh}
use Rattle.deferred_loop.specs.Promise.{AreStampsGood}
use Rattle.mesh_defs.specs.ClosedSet.{among}
use Rattle.view_priority.specs.Camera.{view_from}
use Rattle.roam_bench.specs.Seen.{priorities_from, far_from, readings_from}
use Rattle.mesh_defs.proofs.DistanceLemmas.{ratio_of-farther, move_length-back}
use Rattle.mesh_defs.proofs.ThresholdLemmas.{above-none}

-- without planes all is seen
priority_of-seen : (n : ℕ) (heights : List ℕ) (camera : CameraAt) (a : ℕ) →
    priority_of n heights (view_from camera 30 []) a ≡ ratio_of (thickness_of n heights a) (far_from n heights camera a)
unfolding priority_of mark_of
priority_of-seen n heights camera a =
    above-none (ratio_of (thickness_of n heights a) (far_from n heights camera a))

-- what is at most an eighth farther or nearer lies between the bounds
pub between-near : (n : ℕ) (heights : List ℕ) (from to : CameraAt) (odometer a : ℕ) →
    far_from n heights to a ≤ far_from n heights from a + far_from n heights from a / 8 →
    far_from n heights from a ≤ far_from n heights to a + far_from n heights from a / 8 →
    IsInStamp (stamp_now (readings_from n heights from) odometer a) (priority_of n heights (view_from to 30 []) a)
between-near n heights from to odometer a far near =
    let seen = priority_of-seen n heights to a in
    let e = thickness_of n heights a in
    let d = far_from n heights from a in
    let low = ratio_of-farther e (d + d / 8) (far_from n heights to a) far in
    let high = ratio_of-farther e (far_from n heights to a) (d - d / 8) (omega arith) in
    record { below = rw seen low; above = rw seen high }

-- a stamp that is not due holds for a way from its odometer
not_due-within : (later odometer slack : ℕ) → (false || nat_lt (odometer + slack) later) ≡ false →
    later ≤ odometer + slack
not_due-within later odometer slack e =
    ⊎_elim (λ past. absurd (both_ways (nat_lt (odometer + slack) later) e (lt-ltb (odometer + slack) later past)))
    (λ within. within) (cases_lt (odometer + slack) later)

-- the stamp of an entry that had none was taken now
taken-now : (stamp now : Stamp) (r old : Option Stamp) → old ≡ None → r ≡ Some stamp →
    (r ≡ old) ⊎ (r ≡ Some now) → stamp ≡ now
taken-now stamp now r old none is good = grind arith

-- After a first frame the stamps bound the priorities from another camera, while the way there is no longer than the
-- odometer's.
pub stamps-after : (n : ℕ) (heights : List ℕ) (from to : CameraAt) (odometer later : ℕ) (before after : SeenMesh) →
    ((a : ℕ) → far_from n heights to a ≤ far_from n heights from a + move_length from to) →
    ((a : ℕ) → far_from n heights from a ≤ far_from n heights to a + move_length to from) →
    odometer + move_length from to ≤ later → ((a : ℕ) → before.stamps a ≡ None) →
    AreStampsGood (readings_from n heights from) odometer before after →
    ((a : ℕ) (stamp : Stamp) → after.stamps a ≡ Some stamp → IsEntry after.set.n (among after.set.members) a) →
    StampsHold (priorities_from n heights to).of later after.stamps
stamps-after n heights from to odometer later before after far near way none good only a stamp is undue =
    let now : Stamp = stamp_now (readings_from n heights from) odometer a in
    let same : stamp ≡ now =
    taken-now stamp now (after.stamps a) (before.stamps a) (none a) is (good a (only a stamp is)).1 in
    let due : is_due later (Some now) ≡ false = subst (λ (z : Stamp). is_due later (Some z) ≡ false) same
    (subst (λ (z : Option Stamp). is_due later z ≡ false) is undue) in
    let within = not_due-within later odometer (far_from n heights from a / 8) due in
    let there = far a in
    let back = near a in
    let both = move_length-back from to in
    subst (λ (z : Stamp). IsInStamp z ((priorities_from n heights to).of a)) (sym same)
    (between-near n heights from to odometer a (omega (arith, way, within, there))
    (omega (arith, way, within, back, both)))
