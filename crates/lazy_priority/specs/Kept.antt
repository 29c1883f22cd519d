-- Deadlines whose keys are kept after they are dropped or have expired.
-- Words: from_key, kept, HasKey, IsSoundLazy.
use Rattle.std.specs.Prelude.{◌≡◌, ℕ, ⊤, List, Option, Some, None, IsSome, length, slice_index_or}
use Rattle.std.specs.Simd.Lanes.{zip2}
use Rattle.bintree_addr.specs.declared.slot.Slot.{Slot}
use Rattle.slot_heap.specs.Keys.{key_of}
use Rattle.lazy_priority.specs.declared.deadlines.Deadline.{Deadline}
use Rattle.lazy_priority.specs.declared.deadlines.Deadline.TheVariants.{Absent, Stands, Expired}

-- the odometer from which a slot with that key is due
abbrev pub from_key : Deadline → Option ℕ → Option ℕ
from_key Absent key = None
from_key Stands key = key
from_key Expired key = Some 0

-- that of each slot
abbrev pub kept : List (Option ℕ) → List Deadline → List (Option ℕ)
kept keys deadlines = zip2 from_key deadlines keys

-- where the deadline stands, there is a key
abbrev pub HasKey : Deadline → Option ℕ → Type 0
HasKey Absent key = ⊤
HasKey Stands key = IsSome key
HasKey Expired key = ⊤

-- there is one for each slot, and a key where it stands
abbrev pub IsSoundLazy : List (Option ℕ) → List Deadline → Type 0
IsSoundLazy keys deadlines =
    (length deadlines ≡ length keys)
    × ((slot : Slot) → HasKey (slice_index_or deadlines slot.0 Absent) (key_of keys slot))
