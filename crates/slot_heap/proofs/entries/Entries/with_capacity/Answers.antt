use Rattle.std.proofs.Common.{ap}
use Rattle.slot_heap.specs.EntriesState.{entries_of}
use Rattle.slot_heap.proofs.entries.Entries.with_capacity.Goals as goal

pub returns-clause-items : goal.returns-clause-items
unfolding entries_of
returns-clause-items g c =
    ap (λ keys. entries_of keys c.in_ok-with_capacity-2.field-0.items) c.in_ok-with_capacity.ensures.items
