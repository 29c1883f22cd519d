-- Which slots' deadlines have expired.
use Rattle.std.specs.Prelude.{◌≡◌, ℕ, List, slice_index_or, Contains}
use Rattle.bintree_addr.specs.declared.slot.Slot.{Slot}
use Rattle.lazy_priority.specs.declared.deadlines.Deadline.{Deadline}
use Rattle.lazy_priority.specs.declared.deadlines.Deadline.TheVariants.{Absent, Expired}

-- no slot's deadline has expired
abbrev pub NoneExpired : List Deadline → Type 0
NoneExpired deadlines = (slot : Slot) → ¬ (slice_index_or deadlines slot.0 Absent ≡ Expired)

-- the number of each slot whose deadline has expired is in the list
abbrev pub AreListed : List Deadline → List ℕ → Type 0
AreListed deadlines list = (i : ℕ) → slice_index_or deadlines i Absent ≡ Expired → Contains list i
