use Rattle.std.proofs.Common.{arith}
use Rattle.slot_heap.proofs.EntriesLemmas.{length-items, items-read}
use Rattle.slot_heap.proofs.entries.Entries.read.Goals as goal

pub index-requires : goal.index-requires
index-requires g c = omega (arith, length-items c.self.inside.keys.items c.self.inside.slots.items c.self.invariant.0 c.self.view_is, c.self.inside.keys.ok.0)

pub index-requires-2 : goal.index-requires-2
index-requires-2 g c = omega (
  arith,
  length-items c.self.inside.keys.items c.self.inside.slots.items c.self.invariant.0 c.self.view_is,
  c.self.invariant.0,
  c.self.inside.slots.ok.0,
)

pub returns : goal.returns
returns g c = items-read c.self.inside.keys.items c.self.inside.slots.items c.self.invariant.0 c.self.view_is c.args.at _ c.index.ensures c.index-2.ensures
