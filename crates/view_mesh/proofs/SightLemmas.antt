-- How stamps go on to bracket the priorities: over other priorities, a move of the camera, and a frame.
use Rattle.std.proofs.Common.{◌≡◌, inl, inr, ℕ, zero, suc, ◌+◌, ◌*◌, ◌^◌, ◌<◌, ◌≤◌, ◌⊎◌, Bool, true, false, cond}
use Rattle.std.proofs.Common.{nat_lt, Option, None, Some, option_map, refl, sym, ◌∙◌, ap, subst, arith}
use Rattle.std.specs.List.{range_with_len}
use Rattle.std.proofs.lemmas.Bool.{both_ways, and_parts, or_parts, ltb-true, ltb-false}
use Rattle.std.proofs.lemmas.Option.{none-some, same_Some}
use Rattle.std.proofs.lemmas.List.Elements.{All-contains}
use Rattle.std.proofs.lemmas.Nat.{pow-add}
use Rattle.mesh_defs.specs.Triangle.{IsAddress}
use Rattle.mesh_defs.specs.ClosedSet.{leaves_of, among}
use Rattle.mesh_defs.specs.BoundingBox.{CameraAt}
use Rattle.mesh_defs.specs.State.{move_length}
use Rattle.mesh_defs.proofs.ListLemmas.{IsIn, IsIn-among}
use Rattle.mesh_laws.proofs.DescentLemmas.{IsAddress-leaves_of}
use Rattle.mesh_laws.proofs.SetListLemmas.{among-filter}
use Rattle.mesh_laws.specs.Slots.{split_set}
use Rattle.triangle_pool.specs.Slots.{PoolState}
use Rattle.mesh_laws.specs.Deferred.{IsEntry, leaf, member}
use Rattle.mesh_laws.specs.Stamps.{Stamp, IsInStamp, is_due, stamp_now, ReadingsHold, StampsHold}
use Rattle.deferred_loop.specs.Promise.{AreStampsGood}
use Rattle.roam_mesh.specs.Mesh.{MeshState, stamp_of, pool_members, seen_of, with_expired, OnlyEntriesStamped}
use Rattle.view_mesh.specs.Sight.{Sight, priority_now, IsSamePriority, IsBracketed, AreBracketed, IsSound}
use Rattle.view_mesh.specs.Expiry.{IsExpired}

-- ---- entries

range-high : (low count a : ℕ) → IsIn a (range_with_len low count) → a < low + count
range-high low zero a h = absurd h
range-high low (suc count) a (inl e) = omega arith
range-high low (suc count) a (inr h) = let r = range-high (low + 1) count a h in omega arith

entry-address : (pool : PoolState) (a : ℕ) → IsEntry pool.n (among (pool_members pool)) a → IsAddress pool.n a
entry-address pool a (leaf h) =
    All-contains (IsAddress pool.n) (leaves_of pool.n (among (pool_members pool))) a
    (IsAddress-leaves_of pool.n (among (pool_members pool))) h
entry-address pool a (member h) =
    let all = range_with_len 0 (4 * 2 ^ (2 * pool.n)) in
    let listed = among-filter (split_set pool.pairs) a all h.member in
    let below = range-high 0 (4 * 2 ^ (2 * pool.n)) a (IsIn-among a all listed.0) in
    record {
      low = let more : 1 < a = ltb-true 1 a (and_parts (nat_lt 1 a) (among pool.pairs a) listed.1).0 in omega arith;
      high = omega (arith, pow-add 2 (2 * pool.n) 2);
    }

-- what has a stamp is an address of the grid
pub stamped-address : (mesh : MeshState) (a : ℕ) (stamp : Stamp) → OnlyEntriesStamped mesh →
    stamp_of mesh a ≡ Some stamp → IsAddress mesh.pool.n a
stamped-address mesh a stamp only there = entry-address mesh.pool a (only a stamp there)

-- ---- other priorities

-- what was expired is
expired-some : (was : Option Stamp) (stamp : Stamp) → option_map with_expired was ≡ Some stamp → stamp.expired ≡ true
expired-some None stamp there = absurd (none-some stamp there)
expired-some (Some old) stamp there = sym (ap (λ (s : Stamp). s.expired) (same_Some (with_expired old) stamp there))

-- what is not expired was there before
alive-before : (test : Bool) (was now : Option Stamp) (stamp : Stamp) →
    now ≡ cond test (option_map with_expired was) was → now ≡ Some stamp →
    stamp.expired ≡ false → (test ≡ false) × (was ≡ Some stamp)
alive-before true was now stamp e there alive =
    absurd (both_ways stamp.expired alive (expired-some was stamp (sym e ∙ there)))
alive-before false was now stamp e there alive = (refl, sym e ∙ there)

-- After an expiry of the stamps of a test, where the other addresses keep their priorities.
pub bracketed-edited : (s other : Sight) (odometer : ℕ) (before after : MeshState) (expired : ℕ → Bool) →
    other.camera ≡ s.camera → before.pool.n ≡ s.n → OnlyEntriesStamped before →
    IsExpired before after expired →
    ((a : ℕ) → IsAddress s.n a → expired a ≡ false → IsSamePriority s other a) →
    AreBracketed s odometer before → AreBracketed other odometer after
bracketed-edited s other odometer before after expired camera n only is same kept a stamp there alive to within =
    let was = alive-before (expired a) (stamp_of before a) (stamp_of after a) stamp (is.stamps a) there alive in
    let address = subst (λ k. IsAddress k a) n (stamped-address before a stamp only was.1) in
    let here = subst (λ c. odometer + move_length c to ≤ stamp.odometer + stamp.slack) camera within in
    subst (λ p. IsInStamp stamp p) (sym (same a address was.0 to)) (kept a stamp was.1 alive to here)

-- ---- a move of the camera

-- The odometer goes on by the length of a move. No way over a third place is shorter.
pub bracketed-moved : ((from between to : CameraAt) →
    move_length from to ≤ move_length from between + move_length between to) →
    (s moved : Sight) (odometer : ℕ) (mesh : MeshState) → ((a : ℕ) → IsSamePriority s moved a) →
    AreBracketed s odometer mesh → AreBracketed moved (odometer + move_length s.camera moved.camera) mesh
bracketed-moved longer s moved odometer mesh same kept a stamp there alive to within =
    subst (λ p. IsInStamp stamp p) (sym (same a to))
    (kept a stamp there alive to (omega (arith, longer s.camera moved.camera to, within)))

-- ---- a frame

-- a stamp that is not due is not expired, and reaches to the odometer
undue-parts : (odometer : ℕ) (stamp : Stamp) → is_due odometer (Some stamp) ≡ false →
    (stamp.expired ≡ false) × (odometer ≤ stamp.odometer + stamp.slack)
undue-parts odometer stamp undue =
    let parts = or_parts stamp.expired (nat_lt (stamp.odometer + stamp.slack) odometer) undue in
    (parts.0, ltb-false (stamp.odometer + stamp.slack) odometer parts.1)

-- The camera is where it is.
module _ (still : (camera : CameraAt) → move_length camera camera ≡ 0) where
  -- so a stamp that is not due has the priority between its bounds
  pub stamps-hold : (s : Sight) (odometer : ℕ) (mesh : MeshState) →
      AreBracketed s odometer mesh → StampsHold (priority_now s) odometer (stamp_of mesh)
  stamps-hold s odometer mesh kept a stamp there undue =
      let parts = undue-parts odometer stamp (subst (λ (r : Option Stamp). is_due odometer r ≡ false) there undue) in
      kept a stamp there parts.0 s.camera (omega (arith, still s.camera, parts.1))

  -- and so has one that is taken now
  pub readings-hold : (s : Sight) (odometer : ℕ) → IsSound s → ReadingsHold s.n (priority_now s) odometer s.readings
  readings-hold s odometer sound a address =
      let here : move_length s.camera s.camera ≤ s.readings.slack a = omega (arith, still s.camera) in
      record { below = sound.low a address s.camera here; above = sound.high a address s.camera here }

-- a stamp that is taken now brackets the priority
now-bracketed : (s : Sight) (odometer a : ℕ) → IsSound s → IsAddress s.n a →
    IsBracketed s odometer a (stamp_now s.readings odometer a)
now-bracketed s odometer a sound address to within =
    let near : move_length s.camera to ≤ s.readings.slack a = omega (arith, within) in
    record { below = sound.low a address to near; above = sound.high a address to near }

-- Each stamp after a frame is the one from before or was taken in it.
pub bracketed-frame : (s : Sight) (odometer : ℕ) (before after : MeshState) → IsSound s → after.pool.n ≡ s.n →
    AreBracketed s odometer before → AreStampsGood s.readings odometer (seen_of before) (seen_of after) →
    OnlyEntriesStamped after → AreBracketed s odometer after
bracketed-frame s odometer before after sound n kept good only a stamp there alive =
    by_origin (good a (only a stamp there)).1
  where
    by_origin : ((stamp_of after a ≡ stamp_of before a)
        ⊎ (stamp_of after a ≡ Some (stamp_now s.readings odometer a))) → IsBracketed s odometer a stamp
    by_origin (inl same) = kept a stamp (sym same ∙ there) alive
    by_origin (inr now) =
        subst (λ (z : Stamp). IsBracketed s odometer a z)
        (same_Some (stamp_now s.readings odometer a) stamp (sym now ∙ there))
        (now-bracketed s odometer a sound (subst (λ k. IsAddress k a) n (stamped-address after a stamp only there)))
