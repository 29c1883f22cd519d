-- What a step does to what is known, to what is charged and to the stamps.
use Rattle.std.proofs.Common.{◌≡◌, ℕ, ◌+◌, ◌-◌, ◌^◌, ◌<◌, ◌≤◌, ◌⊎◌, inl, inr, true, false, IsTrue, List, ◌++◌, length}
use Rattle.std.proofs.Common.{Contains, refl, sym, ◌∙◌, ap, subst, arith, ⊎_elim, Option, Some}
use Rattle.std.proofs.lemmas.List.{length-append}
use Rattle.std.proofs.lemmas.Bool.{cases_Bool, cond-true, cond-false, false_from_ne_true}
use Rattle.mesh_defs.specs.Triangle.{IsAddress, IsSplittable}
use Rattle.mesh_defs.specs.ClosedSet.{IsClosed, leaves_of, among}
use Rattle.mesh_defs.proofs.ListLemmas.{IsIn-among, among-in, IsIn-append-left, IsIn-append-right}
use Rattle.deferred_loop.specs.Seen.{PoolSet, SeenMesh, IsSame, IsRenewed, IsNewEntry, lower_of, upper_of, IsMergeOf}
use Rattle.deferred_loop.specs.Seen.{IsSplitOf}
use Rattle.mesh_defs.specs.GridSet.{IsGridSet, IsForced}
use Rattle.mesh_laws.specs.Diamond.{IsInDiamond, CanMerge, IsWithoutDiamond}
use Rattle.mesh_laws.specs.Steps.{leaf_count, IsSplitStep, IsMergeStep, StepRun, split, merge}
use Rattle.mesh_laws.specs.Deferred.{IsEntry, leaf, member, DeferredFrame, IsDeferredFrame}
use Rattle.mesh_laws.proofs.ChangeLemmas.{one_forced}
use Rattle.mesh_laws.proofs.FirstLeafLemmas.{first_leaf_splittable}
use Rattle.mesh_laws.proofs.DiamondLemmas.{without_diamond-closed}
use Rattle.deferred_loop.specs.Choice.{IsNextSplit, IsNextMerge}
use Rattle.mesh_laws.specs.Stamps.{Stamp, Readings, is_due, stamp_now}
use Rattle.deferred_loop.specs.Kept.{IsTrueKey, HasTrueKeys, IsSettled, IsOldLeaf, IsOldMember, IsCharged, IsAskedOnly}
use Rattle.deferred_loop.specs.Kept.{IsCaughtUp, IsStamped}
use Rattle.deferred_loop.proofs.KeyLemmas.{can_merge_with}
use Rattle.mesh_laws.proofs.KeyLemmas.{IsAddress-entry}
use Rattle.deferred_loop.proofs.FreshLemmas.{NewRoles, split_roles, merge_roles, few_fresh}

among_left : (a : ℕ) (xs ys : List ℕ) → IsTrue (among xs a) → IsTrue (among (xs ++ ys) a)
among_left a xs ys h = among-in a (xs ++ ys) (IsIn-append-left a xs ys (IsIn-among a xs h))

among_right : (a : ℕ) (xs ys : List ℕ) → IsTrue (among ys a) → IsTrue (among (xs ++ ys) a)
among_right a xs ys h = among-in a (xs ++ ys) (IsIn-append-right a xs ys (IsIn-among a ys h))

-- with the key that it had
same_key : (w : DeferredFrame) (before mid : SeenMesh) (a : ℕ) → IsSame before mid a →
    IsTrueKey w before a → IsTrueKey w mid a
same_key w before mid a same key = record {
  exact = λ told. same.exact ∙ key.exact (sym same.known ∙ told);
  upper = λ new. subst (λ (z : Option Stamp). w.priority a ≤ upper_of z) (sym same.stamp)
      (key.upper (sym same.known ∙ new));
  lower = λ new. subst (λ (z : Option Stamp). lower_of z ≤ w.priority a) (sym same.stamp)
      (key.lower (sym same.known ∙ new));
}

-- so the keys are sound, but for what is fresh
renewed_sound : (w : DeferredFrame) (before mid : SeenMesh) → IsSettled w before → mid.set.n ≡ before.set.n →
    IsRenewed before mid → IsGridSet w.n mid.set.members → HasTrueKeys w mid
renewed_sound w before mid s same r valid = record {
  grid = same ∙ s.grid;
  valid = valid;
  keys = λ a entry out.
      let old = r.kept a (subst (λ z. IsEntry z (among mid.set.members) a) (sym (same ∙ s.grid)) entry) out in
      same_key w before mid a old.1
      (s.keys a (subst (λ z. IsEntry z (among before.set.members) a) (same ∙ s.grid) old.0));
}

-- so they are after a split
pub split_sound : (w : DeferredFrame) (before mid : SeenMesh) (t : ℕ) → IsSettled w before →
    IsSplitOf before mid t → HasTrueKeys w mid
split_sound w before mid t s step = renewed_sound w before mid s step.n step.renewed
    record {
      n_low = s.valid.n_low;
      n_high = s.valid.n_high;
      ascending = step.forced.ascending;
      closed = (subst (λ z. IsForced z before.set.members t mid.set.members) s.grid step.forced).least.closed;
    }

-- and after a merge
pub merge_sound : (w : DeferredFrame) (before mid : SeenMesh) (d : ℕ) → IsSettled w before →
    CanMerge w.n (among before.set.members) d → IsMergeOf before mid d → HasTrueKeys w mid
merge_sound w before mid d s can step = renewed_sound w before mid s step.n step.renewed record {
  n_low = s.valid.n_low;
  n_high = s.valid.n_high;
  ascending = step.merged.ascending;
  closed = without_diamond-closed w.n before.set.members d mid.set.members s.valid.closed can
      (subst (λ z. IsWithoutDiamond z before.set.members d mid.set.members) s.grid step.merged);
}

-- what is fresh is an address
pub fresh_address : (w : DeferredFrame) (before mid : SeenMesh) (a : ℕ) → HasTrueKeys w mid → IsRenewed before mid →
    IsTrue (among mid.fresh a) → IsAddress w.n a
fresh_address w before mid a sound r i =
    IsAddress-entry w.n mid.set.members a sound.valid
    (subst (λ z. IsEntry z (among mid.set.members) a) sound.grid (r.each a i).0)

module _ (w : DeferredFrame) (before mid after : SeenMesh) (settled : IsSettled w before)
    (same : mid.set.n ≡ before.set.n) (renewed : IsRenewed before mid)
    (r : Readings) (odometer : ℕ) (caught : IsCaughtUp w r odometer mid after) where
  -- new entries at the frame's grid
  new_here : (a : ℕ) → IsTrue (among mid.fresh a) → IsNewEntry w.n (among before.set.members) (among mid.set.members) a
  new_here a i = subst (λ z. IsNewEntry z (among before.set.members) (among mid.set.members) a)
      (same ∙ settled.grid) (renewed.each a i)

  -- the stamp of what is not fresh
  stamp_kept : (a : ℕ) → among mid.fresh a ≡ false → IsSame before mid a → after.stamps a ≡ before.stamps a
  stamp_kept a out kept =
      caught.stamp a ∙ cond-false (among mid.fresh a) (Some (stamp_now r odometer a)) (mid.stamps a) out ∙ kept.stamp

  -- what was an entry is not fresh
  not_fresh : (a : ℕ) → IsEntry w.n (among before.set.members) a → among mid.fresh a ≡ false
  not_fresh a was = false_from_ne_true (among mid.fresh a) (λ fresh. (new_here a fresh).1 was)

  -- so it is as it was, if it is one still
  stays : (a : ℕ) → IsEntry w.n (among before.set.members) a →
      IsEntry w.n (among mid.set.members) a → IsSame before mid a
  stays a was now = (renewed.kept a (subst (λ z. IsEntry z (among mid.set.members) a) (sym (same ∙ settled.grid)) now)
      (not_fresh a was)).1

  module _ (steps : ℕ) (roles : NewRoles w.n before.set.members mid.set.members steps) where
    -- a leaf that is not known has its role anew, or it was one before
    leaf_left : (asked reserve : List ℕ) → ((a : ℕ) → Contains (leaves_of w.n (among before.set.members)) a →
        before.known a ≡ false → IsTrue (among reserve a) ⊎ IsOldLeaf w before asked a) →
        (a : ℕ) → Contains (leaves_of w.n (among mid.set.members)) a → after.known a ≡ false →
        IsTrue (among (roles.list ++ reserve) a) ⊎ IsOldLeaf w after asked a
    leaf_left asked reserve left a h new = ⊎_elim
        (λ (was : Contains (leaves_of w.n (among before.set.members)) a).
        let kept = stays a (leaf was) (leaf h) in
        ⊎_elim
        (λ there. inl (among_right a roles.list reserve there))
        (λ (old : IsOldLeaf w before asked a). inr record {
          leaf = old.leaf;
          undue = old.undue;
          unasked = old.unasked;
          upper = ap upper_of (stamp_kept a (not_fresh a (leaf was)) kept) ∙ old.upper;
        })
        (left a was (sym kept.known ∙ sym (caught.known a) ∙ new)))
        (λ there. inl (among_left a roles.list reserve there))
        (roles.leaf a h)

    -- a diamond that could be merged before and can be still keeps its stamps
    whole_kept : (a b : ℕ) → IsClosed w.n (among before.set.members) → IsClosed w.n (among mid.set.members) →
        CanMerge w.n (among before.set.members) a → CanMerge w.n (among mid.set.members) a →
        IsInDiamond w.n a b → after.stamps b ≡ before.stamps b
    whole_kept a b closed shut was can i =
        let was_b = member (can_merge_with w.n (among before.set.members) a b closed was i) in
        let can_b = member (can_merge_with w.n (among mid.set.members) a b shut can i) in
        stamp_kept b (not_fresh b was_b) (stays b was_b can_b)

    -- the same for a triangle that can be merged
    member_left : IsClosed w.n (among before.set.members) → IsClosed w.n (among mid.set.members) →
        (asked reserve : List ℕ) →
        ((a : ℕ) → CanMerge w.n (among before.set.members) a → before.known a ≡ false →
        IsTrue (among reserve a) ⊎ IsOldMember w before asked a) →
        (a : ℕ) → CanMerge w.n (among mid.set.members) a → after.known a ≡ false →
        IsTrue (among (roles.list ++ reserve) a) ⊎ IsOldMember w after asked a
    member_left closed shut asked reserve left a h new = ⊎_elim
        (λ (was : CanMerge w.n (among before.set.members) a).
        let kept = stays a (member was) (member h) in
        ⊎_elim
        (λ there. inl (among_right a roles.list reserve there))
        (λ (old : IsOldMember w before asked a). inr record {
          can = old.can;
          undue = old.undue;
          unasked = old.unasked;
          lower = λ b i. ap lower_of (whole_kept a b closed shut was h i) ∙ old.lower b i;
        })
        (left a was (sym kept.known ∙ sym (caught.known a) ∙ new)))
        (λ there. inl (among_left a roles.list reserve there))
        (roles.member a h)

    -- a step is charged: a reading for each fresh entry, and one call of rank ahead for each role that was given out
    step_charged : (evaluations added removed sum rest count more : ℕ) → IsClosed w.n (among before.set.members) →
        IsClosed w.n (among mid.set.members) →
        StepRun w.n w.budget w.priority w.start mid.set.members sum rest → sum + rest ≡ added + removed + steps →
        more ≤ count + length mid.fresh →
        IsCharged w evaluations before added removed count → IsCharged w evaluations after sum rest more
    step_charged evaluations added removed sum rest count more closed shut run grown counted c = record {
      run = subst (λ (z : PoolSet). StepRun w.n w.budget w.priority w.start z.members sum rest) (sym caught.set) run;
      asked = c.asked;
      distinct = c.distinct;
      each = c.each;
      reserve = roles.list ++ c.reserve;
      leaf = λ a h new. leaf_left c.asked c.reserve c.leaf a
          (subst (λ (z : PoolSet). Contains (leaves_of w.n (among z.members)) a) caught.set h) new;
      member = λ a h new. member_left closed shut c.asked c.reserve c.member a
          (subst (λ (z : PoolSet). CanMerge w.n (among z.members) a) caught.set h) new;
      total = omega (
        arith,
        c.total,
        length-append roles.list c.reserve,
        roles.size,
        few_fresh w.n before.set.members mid.set.members steps mid.fresh roles renewed.distinct new_here,
        counted,
        grown,
      );
    }

  -- a split
  pub split_charged : (t evaluations added removed total count more : ℕ) → IsGridSet w.n before.set.members →
      IsForced w.n before.set.members t mid.set.members →
      IsSplitStep w.n w.budget w.priority before.set.members mid.set.members → more ≤ count + length mid.fresh →
      total ≡ added + (length mid.set.members - length before.set.members) →
      IsCharged w evaluations before added removed count → IsCharged w evaluations after total removed more
  split_charged t evaluations added removed total count more set forced step counted summed c =
      step_charged (length mid.set.members - length before.set.members)
      (split_roles w.n before.set.members set t mid.set.members forced)
      evaluations added removed total removed count more set.closed forced.least.closed
      (subst (λ z. StepRun w.n w.budget w.priority w.start mid.set.members z removed) (sym summed)
      (split before.set.members mid.set.members added removed c.run step))
      (omega (arith, summed)) counted c

  -- a merge
  pub merge_charged : (d evaluations added removed total count more : ℕ) → IsGridSet w.n before.set.members →
      CanMerge w.n (among before.set.members) d →
      IsWithoutDiamond w.n before.set.members d mid.set.members →
      IsMergeStep w.n w.budget w.priority before.set.members mid.set.members → more ≤ count + length mid.fresh →
      total ≡ removed + (length before.set.members - length mid.set.members) →
      IsCharged w evaluations before added removed count → IsCharged w evaluations after added total more
  merge_charged d evaluations added removed total count more set can merged step counted summed c =
      step_charged (length before.set.members - length mid.set.members)
      (merge_roles w.n before.set.members set d mid.set.members can merged)
      evaluations added removed added total count more set.closed
      (without_diamond-closed w.n before.set.members d mid.set.members set.closed can merged)
      (subst (λ z. StepRun w.n w.budget w.priority w.start mid.set.members added z) (sym summed)
      (merge before.set.members mid.set.members added removed c.run step))
      (omega (arith, summed)) counted c

  -- each stamp is that of the start or was taken now
  pub step_stamped : (start : SeenMesh) (first count more : ℕ) → (more < 2 ^ 64 - 1 → count + length mid.fresh ≤ more) →
      IsStamped r odometer start first before count → IsStamped r odometer start first after more
  step_stamped start first count more counted s = record {
    read = mid.fresh ++ s.read;
    counted = λ small.
        let now = counted small in
        let was = s.counted (omega arith) in
        omega (arith, length-append mid.fresh s.read);
    each = λ a entry.
        let here : IsEntry mid.set.n (among mid.set.members) a =
        subst (λ (z : PoolSet). IsEntry z.n (among z.members) a) caught.set entry in
        ⊎_elim
        (λ (new : among mid.fresh a ≡ true). inr (
          caught.stamp a ∙ cond-true (among mid.fresh a) (Some (stamp_now r odometer a)) (mid.stamps a) new,
          among_left a mid.fresh s.read new,
        ))
        (λ (old : among mid.fresh a ≡ false).
        let was = renewed.kept a here old in
        let stamp : after.stamps a ≡ before.stamps a = caught.stamp a
        ∙ cond-false (among mid.fresh a) (Some (stamp_now r odometer a)) (mid.stamps a) old ∙ was.1.stamp in
        ⊎_elim
        (λ (kept : (before.stamps a ≡ start.stamps a) × (is_due odometer (start.stamps a) ≡ false)).
        inl (stamp ∙ kept.0, kept.1))
        (λ (taken : (before.stamps a ≡ Some (stamp_now r odometer a)) × IsTrue (among s.read a)).
        inr (stamp ∙ taken.0, among_right a mid.fresh s.read taken.1))
        (s.each a (subst (λ z. IsEntry z (among before.set.members) a) same was.0)))
        (cases_Bool (among mid.fresh a));
  }

-- asking leaves the stamps
pub asked_stamped : (w : DeferredFrame) (r : Readings) (odometer : ℕ) (start : SeenMesh) (first : ℕ)
    (before after : SeenMesh) (count more : ℕ) → IsAskedOnly w before after count more →
    IsStamped r odometer start first before count → IsStamped r odometer start first after more
asked_stamped w r odometer start first before after count more asked s = record {
  read = s.read;
  counted = λ small. let more_now = asked.counted in let was = s.counted (omega arith) in omega arith;
  each = λ a entry. ⊎_elim
      (λ (kept : (before.stamps a ≡ start.stamps a) × (is_due odometer (start.stamps a) ≡ false)).
      inl (asked.stamp a ∙ kept.0, kept.1))
      (λ (taken : (before.stamps a ≡ Some (stamp_now r odometer a)) × IsTrue (among s.read a)).
      inr (asked.stamp a ∙ taken.0, taken.1))
      (s.each a (subst (λ (z : PoolSet). IsEntry z.n (among z.members) a) asked.set entry));
}

-- the steps
pub split_step : (w : DeferredFrame) (before : List ℕ) (t : ℕ) (after : List ℕ) →
    IsNextSplit w.n w.budget w.priority before t → IsForced w.n before t after →
    IsSplitStep w.n w.budget w.priority before after
split_step w before t after next forced =
    let same = one_forced w.n before t t next.after after refl next.forced forced in
    record {
      leaf = t;
      within = next.within;
      first = next.first;
      forced = forced;
      fits = subst (λ z. leaf_count w.n z ≤ w.budget) same next.fits;
    }

pub merge_step : (w : DeferredFrame) (before : List ℕ) (d : ℕ) (after : List ℕ) →
    IsNextMerge w.n w.budget w.priority before d → IsWithoutDiamond w.n before d after →
    IsMergeStep w.n w.budget w.priority before after
merge_step w before d after next without = record { diamond = d; last = next.last; must = next.must; merged = without }

-- what is split next is splittable
pub splittable : (w : DeferredFrame) (is : IsDeferredFrame w) (s : SeenMesh) → IsSettled w s → (t : ℕ) →
    IsNextSplit w.n w.budget w.priority s.set.members t → IsSplittable s.set.n t
splittable w is s settled t next = subst (λ z. IsSplittable z t) (sym settled.grid)
    (first_leaf_splittable w.n w.priority is.falling (among s.set.members) t settled.valid.closed next.first)

-- what is merged next can be merged
pub can_here : (w : DeferredFrame) (s : SeenMesh) → IsSettled w s → (d : ℕ) →
    IsNextMerge w.n w.budget w.priority s.set.members d → CanMerge s.set.n (among s.set.members) d
can_here w s settled d next =
    subst (λ z. CanMerge z (among s.set.members) d) (sym settled.grid) next.last.lead.mergeable
