use Rattle.std.proofs.Common.{arith}
use Rattle.slot_heap.proofs.EntriesLemmas.{length-items}
use Rattle.slot_heap.proofs.entries.Entries.len.Goals as goal

pub returns : goal.returns
returns g c = omega (arith, length-items c.self.inside.keys.items c.self.inside.slots.items c.self.invariant.0 c.self.view_is, c.self.inside.keys.ok.0)
