-- Entering what is fresh.
use Rattle.std.proofs.Common.{◌≡◌, ℕ, ◌+◌, ◌-◌, ◌^◌, ◌<◌, ◌≤◌, true, false, cond, eqb, eq-eqb, IsTrue, List, [], ◌∷◌}
use Rattle.std.proofs.Common.{length, refl, sym, ◌∙◌, ap, subst, arith, ⊎_elim, Option, Some}
use Rattle.mesh_defs.specs.GridSet.{IsGridSet}
use Rattle.std.proofs.lemmas.Bool.{cases_Bool, both_ways, cond-true, cond-false, or_left, or_right, or_from, eqb-true}
use Rattle.mesh_defs.specs.ClosedSet.{among}
use Rattle.deferred_loop.specs.Seen.{PoolSet, SeenMesh, IsEntered, upper_of, lower_of}
use Rattle.mesh_laws.specs.Deferred.{DeferredFrame, IsEntry}
use Rattle.mesh_laws.specs.Stamps.{Stamp, Readings, stamp_now, ReadingsHold}
use Rattle.mesh_laws.proofs.KeyLemmas.{IsAddress-entry}
use Rattle.deferred_loop.specs.Kept.{HasTrueKeys, IsCaughtUp}
use Rattle.deferred_loop.specs.declared.gauge.Reading.{Reading}

-- the stamp of a reading
abbrev stamp_of : Reading → ℕ → Stamp
stamp_of reading odometer = record {
  odometer = odometer;
  slack = reading.slack;
  upper = reading.hi.p;
  lower = reading.lo.p;
  expired = false;
}

-- Half way: what was entered of the fresh entries of before, and what is still fresh.
pub record IsEntering (w : DeferredFrame) (r : Readings) (odometer : ℕ) (before now : SeenMesh)
    (count more : ℕ) : Type 0 where
  pub set : now.set ≡ before.set
  pub sound : HasTrueKeys w now
  pub rest : (a : ℕ) → IsTrue (among now.fresh a) → IsTrue (among before.fresh a)
  pub known : (a : ℕ) → now.known a ≡ before.known a
  pub stamp : (a : ℕ) → among now.fresh a ≡ false →
      now.stamps a ≡ cond (among before.fresh a) (Some (stamp_now r odometer a)) (before.stamps a)
  pub most : more + length now.fresh ≤ count + length before.fresh
  pub least : more < 2 ^ 64 - 1 → count + length before.fresh ≤ more + length now.fresh

module _ (w : DeferredFrame) (r : Readings) (odometer : ℕ) (now after : SeenMesh) (t : ℕ) (reading : Reading)
    (entered : IsEntered now after t reading odometer)
    (slack : reading.slack ≡ r.slack t) (upper : reading.hi.p ≡ r.upper t) (lower : reading.lo.p ≡ r.lower t) where
  -- what is still fresh was
  there : (a : ℕ) → IsTrue (among after.fresh a) → IsTrue (among now.fresh a)
  there a i = ap (λ (l : List ℕ). among l a) entered.fresh ∙ or_right (eqb t a) (among after.fresh a) i

  -- the entered one was fresh
  own_there : (a : ℕ) → eqb t a ≡ true → IsTrue (among now.fresh a)
  own_there a own = ap (λ (l : List ℕ). among l a) entered.fresh ∙ or_left (eqb t a) (among after.fresh a) own

  -- what is neither fresh nor entered was not fresh
  apart : (a : ℕ) → eqb t a ≡ false → among after.fresh a ≡ false → among now.fresh a ≡ false
  apart a other out = ap (λ (l : List ℕ). among l a) entered.fresh ∙ or_from (eqb t a) (among after.fresh a) other out

  -- the stamp of the entered one, and of the others
  own_stamp : (a : ℕ) → eqb t a ≡ true → after.stamps a ≡ Some (stamp_now r odometer a)
  own_stamp a own = entered.stamp a ∙ cond-true (eqb t a) (Some (stamp_of reading odometer)) (now.stamps a) own
      ∙ ap Some (taken (eqb-true t a own))
    where
      taken : t ≡ a → stamp_of reading odometer ≡ stamp_now r odometer a
      taken same = cc

  other_stamp : (a : ℕ) → eqb t a ≡ false → after.stamps a ≡ now.stamps a
  other_stamp a other = entered.stamp a ∙ cond-false (eqb t a) (Some (stamp_of reading odometer)) (now.stamps a) other

  -- the keys after it is entered
  entered_sound : ReadingsHold w.n w.priority odometer r →
      ((a : ℕ) → IsTrue (among now.fresh a) → now.known a ≡ false) → HasTrueKeys w now → HasTrueKeys w after
  entered_sound hold unknown s = record {
    grid = ap (λ (z : PoolSet). z.n) entered.set ∙ s.grid;
    valid = subst (λ (z : PoolSet). IsGridSet w.n z.members) (sym entered.set) s.valid;
    keys = λ a entry out. ⊎_elim
        (λ (own : eqb t a ≡ true).
        let address = IsAddress-entry w.n now.set.members a s.valid
        (subst (λ (z : PoolSet). IsEntry w.n (among z.members) a) entered.set entry) in
        record {
          exact = λ told. absurd (both_ways (after.known a) (entered.known a ∙ unknown a (own_there a own)) told);
          upper = λ new. subst (λ (z : Option Stamp). w.priority a ≤ upper_of z)
              (sym (own_stamp a own)) (hold a address).above;
          lower = λ new. subst (λ (z : Option Stamp). lower_of z ≤ w.priority a)
              (sym (own_stamp a own)) (hold a address).below;
        })
        (λ (other : eqb t a ≡ false).
        let key =
        s.keys a (subst (λ (z : PoolSet). IsEntry w.n (among z.members) a) entered.set entry) (apart a other out) in
        record {
          exact = λ told. entered.exact a ∙ key.exact (sym (entered.known a) ∙ told);
          upper = λ new. subst (λ (z : Option Stamp). w.priority a ≤ upper_of z) (sym (other_stamp a other))
              (key.upper (sym (entered.known a) ∙ new));
          lower = λ new. subst (λ (z : Option Stamp). lower_of z ≤ w.priority a) (sym (other_stamp a other))
              (key.lower (sym (entered.known a) ∙ new));
        })
        (cases_Bool (eqb t a));
  }

  -- one that is entered
  pub entering_next : (before : SeenMesh) (count more last : ℕ) → ReadingsHold w.n w.priority odometer r →
      ((a : ℕ) → IsTrue (among before.fresh a) → before.known a ≡ false) →
      IsEntering w r odometer before now count more → more ≤ last → last ≤ more + 1 →
      (last < 2 ^ 64 - 1 → last ≡ more + 1) →
      IsEntering w r odometer before after count last
  entering_next before count more last hold unknown e rises most counted = record {
    set = entered.set ∙ e.set;
    sound = entered_sound hold (λ a i. e.known a ∙ unknown a (e.rest a i)) e.sound;
    rest = λ a i. e.rest a (there a i);
    known = λ a. entered.known a ∙ e.known a;
    stamp = λ a out. ⊎_elim
        (λ (own : eqb t a ≡ true). own_stamp a own ∙ sym (cond-true (among before.fresh a)
        (Some (stamp_now r odometer a)) (before.stamps a) (e.rest a (own_there a own))))
        (λ (other : eqb t a ≡ false). other_stamp a other ∙ e.stamp a (apart a other out))
        (cases_Bool (eqb t a));
    most =
        let one : length now.fresh ≡ length (t ∷ after.fresh) = ap (λ (l : List ℕ). length l) entered.fresh in
        let so_far = e.most in
        omega arith;
    least = λ small.
        let one : length now.fresh ≡ length (t ∷ after.fresh) = ap (λ (l : List ℕ). length l) entered.fresh in
        let so_far = e.least (omega arith) in let own = counted small in omega arith;
  }

-- the one that is entered next is fresh
pub next_listed : (s : SeenMesh) (t : ℕ) → (rest : List ℕ) × (s.fresh ≡ t ∷ rest) → IsTrue (among s.fresh t)
next_listed s t next = ap (λ (l : List ℕ). among l t) next.1 ∙ or_left (eqb t t) (among next.0 t) (eq-eqb t t refl)
