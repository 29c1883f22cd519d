-- What is seen of the vector of a heap's entries.
use Rattle.std.specs.Prelude.{ℕ, List, [], ◌∷◌}
use Rattle.bintree_addr.specs.declared.slot.Slot.{Slot}
use Rattle.slot_heap.specs.declared.entry.Entry.{Entry}

-- the entries, and how many there is room for
pub record EntriesState (K : Type 0) : Type 0 where
  pub items : List (Entry K)
  pub capacity : ℕ

module _ {K : Type 0} where
  -- each key with the slot at the same place
  unfoldable pub entries_of : List K → List Slot → List (Entry K)
  entries_of [] slots = []
  entries_of (key ∷ keys) [] = []
  entries_of (key ∷ keys) (slot ∷ slots) = record { key = key; slot = slot } ∷ entries_of keys slots
