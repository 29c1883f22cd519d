-- From stamps to the bounds of a frame.
use Rattle.std.proofs.Common.{◌≡◌, ℕ, ◌≤◌, Bool, true, false, Option, None, Some, refl, arith}
use Rattle.mesh_defs.specs.Triangle.{IsAddress}
use Rattle.mesh_defs.specs.Ranking.{IsRanking, IsRankClosure}
use Rattle.mesh_defs.specs.GridSet.{IsGridSet}
use Rattle.mesh_defs.specs.Falling.{IsFalling}
use Rattle.mesh_laws.specs.Deferred.{DeferredFrame, IsDeferredFrame}
use Rattle.mesh_laws.specs.Stamps.{Stamp, Readings, is_due, counted_stamp, HasStamps, IsInStamp, StampsHold}
use Rattle.mesh_laws.specs.Stamps.{ReadingsHold}

-- the stamp by which an entry counts has the priority between its ranks
pub counted_between : (n : ℕ) (priority : ℕ → ℕ) (readings : Readings) (odometer : ℕ) (stamps : ℕ → Option Stamp) →
    StampsHold priority odometer stamps → ReadingsHold n priority odometer readings → (a : ℕ) → IsAddress n a →
    IsInStamp (counted_stamp readings odometer stamps a) (priority a)
counted_between n priority readings odometer stamps hold now a address =
    by_case (is_due odometer (stamps a)) (stamps a) refl refl
  where
    by_case : (due : Bool) (stamp : Option Stamp) → is_due odometer (stamps a) ≡ due → stamps a ≡ stamp →
        IsInStamp (counted_stamp readings odometer stamps a) (priority a)
    by_case true stamp is_so has = rw (is_so) (now a address)
    by_case false None is_so has = rw (is_so, has) (now a address)
    by_case false (Some stamp) is_so has = rw (is_so, has) (hold a stamp has is_so)

-- so the bounds are those of a frame over bounds
pub stamped_frame : (w : DeferredFrame) (readings : Readings) (odometer : ℕ) (stamps : ℕ → Option Stamp) →
    IsRanking w.n w.priority w.ranking → IsFalling w.n w.priority →
    IsRankClosure w.n w.budget w.ranking w.chosen w.best → 2 ≤ w.budget →
    IsGridSet w.n w.start → HasStamps w readings odometer stamps →
    StampsHold w.priority odometer stamps → ReadingsHold w.n w.priority odometer readings → IsDeferredFrame w
stamped_frame w readings odometer stamps ranked falling closure low set has hold now = record {
  ranked = ranked;
  falling = falling;
  closure = closure;
  low = low;
  set = set;
  above = λ a address.
      omega (arith, has.upper a, (counted_between w.n w.priority readings odometer stamps hold now a address).above);
  below = λ a address.
      omega (arith, has.lower a, (counted_between w.n w.priority readings odometer stamps hold now a address).below);
}
