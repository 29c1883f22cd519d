-- Stamps: the bounds that an entry keeps from the frame in which it was read, and how long they hold.
-- Source: Duchaineau et al., "ROAMing Terrain", IEEE Visualization 1997, the part on deferred priority lists. That time
-- is the way that the camera went, and that an edit expires stamps, is this project's own.
-- Words: Stamp, Readings, is_due, stamp_now, counted_stamp, HasStamps, IsInStamp, StampsHold, ReadingsHold.
use Rattle.std.specs.Prelude.{◌≡◌, ℕ, ◌+◌, ◌≤◌, Bool, true, false, ◌||◌, nat_lt, Option, None, Some}
use Rattle.mesh_defs.specs.Triangle.{IsAddress}
use Rattle.mesh_laws.specs.Deferred.{DeferredFrame}

-- What an entry keeps: the odometer at which it was read, the way for which it holds from there, its upper and lower
-- rank, each by the priority that the entry has in it, and whether an edit has expired it.
pub record Stamp : Type 0 where
  pub odometer : ℕ
  pub slack : ℕ
  pub upper : ℕ
  pub lower : ℕ
  pub expired : Bool

-- what a stamp of each triangle would hold if it were taken now
pub record Readings : Type 0 where
  pub slack : ℕ → ℕ
  pub upper : ℕ → ℕ
  pub lower : ℕ → ℕ

-- an entry is due where it has no stamp, its stamp is expired, or the odometer is past the way for which it holds
abbrev pub is_due : ℕ → Option Stamp → Bool
is_due odometer None = true
is_due odometer (Some stamp) = stamp.expired || nat_lt (stamp.odometer + stamp.slack) odometer

-- the stamp of a that is taken at this odometer
abbrev pub stamp_now : Readings → ℕ → ℕ → Stamp
stamp_now readings odometer a =
    record {
      odometer = odometer;
      slack = readings.slack a;
      upper = readings.upper a;
      lower = readings.lower a;
      expired = false;
    }

-- the stamp by which a counts: its own, or if it is due the one that would be taken now
abbrev pub counted_stamp : Readings → ℕ → (ℕ → Option Stamp) → ℕ → Stamp
counted_stamp readings odometer stamps a = current (is_due odometer (stamps a)) (stamps a)
  where
    current : Bool → Option Stamp → Stamp
    current false (Some stamp) = stamp
    current due stamp = stamp_now readings odometer a

-- w is the frame that begins at this odometer with these stamps
pub record HasStamps (w : DeferredFrame) (readings : Readings) (odometer : ℕ) (stamps : ℕ → Option Stamp) : Type 0 where
  pub due : (a : ℕ) → w.due a ≡ is_due odometer (stamps a)
  pub upper : (a : ℕ) → w.upper a ≡ (counted_stamp readings odometer stamps a).upper
  pub lower : (a : ℕ) → w.lower a ≡ (counted_stamp readings odometer stamps a).lower

-- a priority lies between the ranks of a stamp
pub record IsInStamp (stamp : Stamp) (priority : ℕ) : Type 0 where
  pub below : stamp.lower ≤ priority
  pub above : priority ≤ stamp.upper

-- each stamp that is not due has the priority between its ranks
abbrev pub StampsHold : (ℕ → ℕ) → ℕ → (ℕ → Option Stamp) → Type 0
StampsHold priority odometer stamps =
    (a : ℕ) (stamp : Stamp) → stamps a ≡ Some stamp → is_due odometer (stamps a) ≡ false → IsInStamp stamp (priority a)

-- and so does each stamp that is taken now, of an address of this grid
abbrev pub ReadingsHold : ℕ → (ℕ → ℕ) → ℕ → Readings → Type 0
ReadingsHold n priority odometer readings =
    (a : ℕ) → IsAddress n a → IsInStamp (stamp_now readings odometer a) (priority a)
