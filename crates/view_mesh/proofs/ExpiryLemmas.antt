-- Stamps that are expired: one after another, again, and all of them.
use Rattle.std.proofs.Common.{◌≡◌, ℕ, ◌||◌, Bool, true, false, cond, Option, None, Some, option_map, refl, sym, ◌∙◌, ap}
use Rattle.std.proofs.Common.{subst}
use Rattle.mesh_defs.specs.ClosedSet.{among}
use Rattle.triangle_pool.specs.Slots.{PoolState}
use Rattle.mesh_laws.specs.Deferred.{IsEntry}
use Rattle.mesh_laws.specs.Stamps.{Stamp}
use Rattle.roam_mesh.specs.Mesh.{MeshState, stamp_of, pool_members, with_expired, OnlyEntriesStamped}
use Rattle.view_mesh.specs.Expiry.{IsExpired, AreAllExpired}

-- one after another

-- a stamp that is expired twice
expired_twice : (o : Option Stamp) → option_map with_expired (option_map with_expired o) ≡ option_map with_expired o
expired_twice None = refl
expired_twice (Some stamp) = refl

two_choices : (b c : Bool) (x y z : Option Stamp) → y ≡ cond b (option_map with_expired x) x →
    z ≡ cond c (option_map with_expired y) y →
    z ≡ cond (b || c) (option_map with_expired x) x
two_choices true true x y z first second = second ∙ ap (option_map with_expired) first ∙ expired_twice x
two_choices true false x y z first second = second ∙ first
two_choices false true x y z first second = second ∙ ap (option_map with_expired) first
two_choices false false x y z first second = second ∙ first

-- some stamps are expired, and then others
pub IsExpired-both : (x y z : MeshState) (some others : ℕ → Bool) → IsExpired x y some → IsExpired y z others →
    IsExpired x z (λ a. some a || others a)
IsExpired-both x y z some others first second = record {
  pool = second.pool ∙ first.pool;
  stamps = λ a. two_choices (some a) (others a) (stamp_of x a) (stamp_of y a) (stamp_of z a)
      (first.stamps a) (second.stamps a);
}

-- a triangle without a stamp

no_stamp : (b : Bool) → cond b (option_map with_expired None) None ≡ None
no_stamp true = refl
no_stamp false = refl

same_choice : (b c : Bool) (o r : Option Stamp) → ((stamp : Stamp) → o ≡ Some stamp → b ≡ c) →
    r ≡ cond b (option_map with_expired o) o →
    r ≡ cond c (option_map with_expired o) o
same_choice b c None r same is = is ∙ no_stamp b ∙ sym (no_stamp c)
same_choice b c (Some stamp) r same is =
    is ∙ ap (λ z. cond z (Some (with_expired stamp)) (Some stamp)) (same stamp refl)

-- which triangles are named matters for those that have a stamp
pub IsExpired-stamped : (x y : MeshState) (some others : ℕ → Bool) →
    ((a : ℕ) (stamp : Stamp) → stamp_of x a ≡ Some stamp → some a ≡ others a) →
    IsExpired x y some → IsExpired x y others
IsExpired-stamped x y some others same is = record {
  pool = is.pool;
  stamps = λ a. same_choice (some a) (others a) (stamp_of x a) (stamp_of y a) (same a) (is.stamps a);
}

-- so for entries alone
pub IsExpired-same : (x y : MeshState) (some others : ℕ → Bool) → OnlyEntriesStamped x →
    ((a : ℕ) → IsEntry x.pool.n (among (pool_members x.pool)) a → some a ≡ others a) →
    IsExpired x y some → IsExpired x y others
IsExpired-same x y some others only same is =
    IsExpired-stamped x y some others (λ a stamp there. same a (only a stamp there)) is

had_stamp : (b : Bool) (o : Option Stamp) (stamp : Stamp) → cond b (option_map with_expired o) o ≡ Some stamp →
    (s : Stamp) × (o ≡ Some s)
had_stamp true None stamp is = absurd (cc)
had_stamp false None stamp is = absurd (cc)
had_stamp b (Some s) stamp is = (s, refl)

-- what is expired was a stamp of an entry
pub OnlyEntriesStamped-expired : (x y : MeshState) (some : ℕ → Bool) → IsExpired x y some →
    OnlyEntriesStamped x → OnlyEntriesStamped y
OnlyEntriesStamped-expired x y some is only = λ a stamp there.
    let had = had_stamp (some a) (stamp_of x a) stamp (sym (is.stamps a) ∙ there) in
    subst (λ (z : PoolState). IsEntry z.n (among (pool_members z)) a) (sym is.pool) (only a had.0 had.1)

-- all of them

-- whether a stamp is expired, where there is one
abbrev is_expired : Option Stamp → Bool
is_expired None = true
is_expired (Some stamp) = stamp.expired

expired_now : (o : Option Stamp) → is_expired (option_map with_expired o) ≡ true
expired_now None = refl
expired_now (Some stamp) = refl

expired_still : (b : Bool) (o : Option Stamp) → ((stamp : Stamp) → o ≡ Some stamp → stamp.expired ≡ true) →
    is_expired (cond b (option_map with_expired o) o) ≡ true
expired_still true o all = expired_now o
expired_still false None all = refl
expired_still false (Some stamp) all = all stamp refl

-- after all stamps are expired, none is good
pub AreAllExpired-each : (x y : MeshState) → IsExpired x y (λ a. true) → AreAllExpired y
AreAllExpired-each x y is = λ a stamp there. ap is_expired (sym there ∙ is.stamps a) ∙ expired_now (stamp_of x a)

-- where no stamp is good, none gets good by expiring more
pub AreAllExpired-kept : (x y : MeshState) (some : ℕ → Bool) → IsExpired x y some → AreAllExpired x → AreAllExpired y
AreAllExpired-kept x y some is all =
    λ a stamp there. ap is_expired (sym there ∙ is.stamps a) ∙ expired_still (some a) (stamp_of x a) (all a)
