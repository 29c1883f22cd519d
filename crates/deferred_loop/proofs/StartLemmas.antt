-- The frame's beginning.
use Rattle.std.proofs.Common.{◌≡◌, ℕ, ◌+◌, ◌-◌, ◌^◌, ◌<◌, ◌≤◌, inl, inr, true, false, IsTrue, length, Contains, sym}
use Rattle.std.proofs.Common.{◌∙◌, ap, subst, arith, ⊎_elim, Option, Some, refl, None}
use Rattle.std.proofs.lemmas.Bool.{cases_Bool, both_ways, cond-true, cond-false}
use Rattle.mesh_defs.specs.Triangle.{IsAddress}
use Rattle.mesh_defs.specs.ClosedSet.{leaves_of, among}
use Rattle.deferred_loop.specs.Seen.{PoolSet, SeenMesh, IsBegun, lower_of, upper_of}
use Rattle.mesh_defs.specs.GridSet.{IsGridSet}
use Rattle.mesh_laws.specs.Diamond.{CanMerge}
use Rattle.mesh_laws.specs.Steps.{StepRun, begin}
use Rattle.mesh_laws.specs.Deferred.{IsEntry, leaf, member, DeferredFrame, IsDeferredFrame, due_entry}
use Rattle.mesh_laws.specs.Stamps.{Stamp, Readings, is_due, stamp_now, counted_stamp}
use Rattle.deferred_loop.specs.Kept.{IsFrameOf, HasTrueKeys, IsCharged, IsCaughtUp, IsStamped}
use Rattle.deferred_loop.proofs.KeyLemmas.{can_merge_with}
use Rattle.mesh_laws.proofs.KeyLemmas.{IsAddress-entry}

-- an entry that is due counts with a stamp that is taken now
counted_due : (r : Readings) (odometer : ℕ) (stamps : ℕ → Option Stamp) (a : ℕ) → is_due odometer (stamps a) ≡ true →
    counted_stamp r odometer stamps a ≡ stamp_now r odometer a
counted_due r odometer stamps a due = rw (due) refl

-- and else with its own
counted_undue : (r : Readings) (odometer : ℕ) (stamps : ℕ → Option Stamp) (a : ℕ) → is_due odometer (stamps a) ≡ false →
    ((counted_stamp r odometer stamps a).upper ≡ upper_of (stamps a))
    × ((counted_stamp r odometer stamps a).lower ≡ lower_of (stamps a))
counted_undue r odometer stamps a undue = by_case (stamps a) refl
  where
    by_case : (stamp : Option Stamp) → stamps a ≡ stamp →
        ((counted_stamp r odometer stamps a).upper ≡ upper_of (stamps a))
        × ((counted_stamp r odometer stamps a).lower ≡ lower_of (stamps a))
    by_case None none = absurd (both_ways (is_due odometer (stamps a)) undue (ap (is_due odometer) none))
    by_case (Some stamp) some = rw (undue, some) (refl, refl)

module _ (w : DeferredFrame) (is : IsDeferredFrame w) (r : Readings) (odometer : ℕ) (s mid : SeenMesh)
    (of : IsFrameOf w r odometer s) (begun : IsBegun s mid odometer) where
  grid : mid.set.n ≡ w.n
  grid = ap (λ (z : PoolSet). z.n) begun.set ∙ of.grid

  -- the set is that of the frame
  valid : IsGridSet w.n mid.set.members
  valid = subst (λ z. IsGridSet w.n z) (of.start ∙ sym (ap (λ (z : PoolSet). z.members) begun.set)) is.set

  -- what is not due keeps its bounds
  pub begun_sound : HasTrueKeys w mid
  begun_sound = record {
    grid = grid;
    valid = valid;
    keys = λ a entry out.
        let undue = begun.rest a (subst (λ z. IsEntry z (among mid.set.members) a) (sym grid) entry) out in
        record {
          exact = λ told. absurd (both_ways (mid.known a) (begun.known a) told);
          upper =
              λ new. subst (λ z. w.priority a ≤ z) (of.stamps.upper a ∙ (counted_undue r odometer s.stamps a undue).0
              ∙ sym (ap upper_of (begun.stamp a))) (is.above a (IsAddress-entry w.n mid.set.members a valid entry));
          lower =
              λ new. subst (λ z. z ≤ w.priority a) (of.stamps.lower a ∙ (counted_undue r odometer s.stamps a undue).1
              ∙ sym (ap lower_of (begun.stamp a))) (is.below a (IsAddress-entry w.n mid.set.members a valid entry));
        };
  }

  -- what is due is an address
  pub begun_address : (a : ℕ) → IsTrue (among mid.fresh a) → IsAddress w.n a
  begun_address a i = IsAddress-entry w.n mid.set.members a valid
      (subst (λ z. IsEntry z (among mid.set.members) a) grid (begun.each a i).0)

  module _ (after : SeenMesh) (caught : IsCaughtUp w r odometer mid after) (count more : ℕ)
      (most : more ≤ count + length mid.fresh) (least : more < 2 ^ 64 - 1 → count + length mid.fresh ≤ more) where
    -- the members at the start
    members_here : w.start ≡ mid.set.members
    members_here = of.start ∙ sym (ap (λ (z : PoolSet). z.members) begun.set)

    -- an entry of the start, as the mesh has it
    entry_here : (a : ℕ) → IsEntry w.n (among w.start) a → IsEntry mid.set.n (among mid.set.members) a
    entry_here a entry = subst (λ z. IsEntry z (among mid.set.members) a) (sym grid)
        (subst (λ z. IsEntry w.n (among z) a) members_here entry)

    -- what is not fresh is not due
    undue : (a : ℕ) → IsEntry w.n (among w.start) a → among mid.fresh a ≡ false → w.due a ≡ false
    undue a entry out = of.stamps.due a ∙ begun.rest a (entry_here a entry) out

    -- the bounds of an entry are those of the frame
    upper_here : (a : ℕ) → IsEntry w.n (among w.start) a → among mid.fresh a ≡ false →
        (upper_of (after.stamps a)) ≡ w.upper a
    upper_here a entry out =
        ap upper_of (caught.stamp a ∙ cond-false (among mid.fresh a) (Some (stamp_now r odometer a)) (mid.stamps a) out
        ∙ begun.stamp a)
        ∙ sym (of.stamps.upper a ∙ (counted_undue r odometer s.stamps a (begun.rest a (entry_here a entry) out)).0)

    lower_here : (a : ℕ) → IsEntry w.n (among w.start) a → (lower_of (after.stamps a)) ≡ w.lower a
    lower_here a entry = ⊎_elim
        (λ (new : among mid.fresh a ≡ true).
        ap lower_of (caught.stamp a ∙ cond-true (among mid.fresh a) (Some (stamp_now r odometer a)) (mid.stamps a) new)
        ∙ sym (of.stamps.lower a ∙ ap (λ (z : Stamp). z.lower)
        (counted_due r odometer s.stamps a (begun.each a new).1)))
        (λ (out : among mid.fresh a ≡ false).
        ap lower_of (caught.stamp a ∙ cond-false (among mid.fresh a) (Some (stamp_now r odometer a)) (mid.stamps a) out
        ∙ begun.stamp a)
        ∙ sym (of.stamps.lower a ∙ (counted_undue r odometer s.stamps a (begun.rest a (entry_here a entry) out)).1))
        (cases_Bool (among mid.fresh a))

    -- what is due is charged, twice at most
    pub start_charged : IsCharged w count after 0 0 more
    start_charged = record {
      run = subst (λ z. StepRun w.n w.budget w.priority w.start z 0 0) path begin;
      asked = mid.fresh;
      distinct = begun.distinct;
      each = λ a i. due_entry
          (subst (λ z. IsEntry w.n (among z) a) (sym members_here)
          (subst (λ z. IsEntry z (among mid.set.members) a) grid (begun.each a i).0))
          (of.stamps.due a ∙ (begun.each a i).1);
      reserve = mid.fresh;
      leaf = λ a h new. ⊎_elim
          (λ (own : among mid.fresh a ≡ true). inl own)
          (λ (out : among mid.fresh a ≡ false).
          let there : Contains (leaves_of w.n (among w.start)) a =
          subst (λ z. Contains (leaves_of w.n (among z)) a) (sym path) h in
          inr record {
            leaf = there;
            undue = undue a (leaf there) out;
            unasked = λ i. both_ways (among mid.fresh a) out i;
            upper = upper_here a (leaf there) out;
          })
          (cases_Bool (among mid.fresh a));
      member = λ a h new. ⊎_elim
          (λ (own : among mid.fresh a ≡ true). inl own)
          (λ (out : among mid.fresh a ≡ false).
          let there : CanMerge w.n (among w.start) a = subst (λ z. CanMerge w.n (among z) a) (sym path) h in
          inr record {
            can = there;
            undue = undue a (member there) out;
            unasked = λ i. both_ways (among mid.fresh a) out i;
            lower = λ b i. lower_here b (member (can_merge_with w.n (among w.start) a b is.set.closed there i));
          })
          (cases_Bool (among mid.fresh a));
      total = omega (arith, most);
    }
      where
        path : w.start ≡ after.set.members
        path = members_here ∙ sym (ap (λ (z : PoolSet). z.members) caught.set)

    -- and has a new stamp
    pub start_stamped : IsStamped r odometer s count after more
    start_stamped = record {
      read = mid.fresh;
      counted = λ small. let now = least small in omega arith;
      each = λ a entry.
          let here : IsEntry mid.set.n (among mid.set.members) a =
          subst (λ (z : PoolSet). IsEntry z.n (among z.members) a) caught.set entry in
          ⊎_elim
          (λ (new : among mid.fresh a ≡ true). inr
          (caught.stamp a ∙ cond-true (among mid.fresh a) (Some (stamp_now r odometer a)) (mid.stamps a) new, new))
          (λ (old : among mid.fresh a ≡ false). inl (
            caught.stamp a ∙ cond-false (among mid.fresh a) (Some (stamp_now r odometer a)) (mid.stamps a) old
                ∙ begun.stamp a,
            begun.rest a here old,
          ))
          (cases_Bool (among mid.fresh a));
    }
