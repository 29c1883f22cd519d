-- Counts of calls and of faults, that a call fails only where its object counted a fault, and whether a call came after
-- a fault.
-- A count is a number of 64 bits that stands still at its greatest value. This project's own words.
use Rattle.std.specs.Prelude.{◌≡◌, ℕ, ◌+◌, ◌-◌, ◌^◌, ◌≤◌, min, nat_lt, Bool, false, ◌||◌, Result, OnOk, OnErr}

-- the count after one more
abbrev pub next_count : ℕ → ℕ
next_count count = min (count + 1) (2 ^ 64 - 1)

-- between two moments the count rose, or it stands at its greatest value
abbrev pub Rose : ℕ → ℕ → Type 0
Rose before now = next_count before ≤ now

-- what a call does to the count of faults: it never falls, and only an error raises it
pub record HasCause {T E : Type 0} (before now : ℕ) (answer : Result T E) : Type 0 where
  pub later : before ≤ now
  pub ok : OnOk answer (now ≡ before)
  pub failed : OnErr answer (Rose before now)

-- a call has failed: the count of faults is above 0, and stays so
abbrev pub has_failed : ℕ → Bool
has_failed faults = nat_lt 0 faults

-- whether a call came after one that had failed, once one more has been made
abbrev pub late_after : Bool → ℕ → Bool
late_after late faults = late || has_failed faults

-- no call comes after one that failed, unless one did so before, or had failed by then
abbrev pub IsInTime : Bool → ℕ → Bool → Type 0
IsInTime late faults now = late ≡ false → faults ≡ 0 → now ≡ false
