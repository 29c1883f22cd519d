use Rattle.std.proofs.Common.{arith}
use Rattle.slot_heap.proofs.EntriesLemmas.{length-items, items-set}
use Rattle.slot_heap.proofs.entries.Entries.write.Goals as goal

pub index_mut-requires : goal.index_mut-requires
index_mut-requires g c = omega (arith, length-items c.self.inside.keys.items c.self.inside.slots.items c.self.invariant.0 c.self.view_is, c.self.inside.keys.ok.0)

pub index_mut-requires-2 : goal.index_mut-requires-2
index_mut-requires-2 g c = omega (
  arith,
  length-items c.self.inside.keys.items c.self.inside.slots.items c.self.invariant.0 c.self.view_is,
  c.self.invariant.0,
  c.self.inside.slots.ok.0,
)

pub returns-clause-items : goal.returns-clause-items
returns-clause-items g c = items-set c.self.inside.keys.items c.self.inside.slots.items c.self.invariant.0 c.self.view_is c.args.at c.args.entry
