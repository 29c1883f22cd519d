use Rattle.std.proofs.Common.{ap, arith}
use Rattle.slot_heap.specs.EntriesState.{EntriesState}
use Rattle.slot_heap.proofs.EntriesLemmas.{length-items, items-push}
use Rattle.slot_heap.proofs.entries.Entries.push_reserved.Goals as goal

pub push_reserved-requires : goal.push_reserved-requires
push_reserved-requires g c = omega (
  arith,
  length-items c.self.inside.keys.items c.self.inside.slots.items c.self.invariant.0 c.self.view_is,
  ap (λ (p : EntriesState _). p.capacity) c.self.view_is,
  c.self.inside.keys.ok.0,
)

pub returns-clause-items : goal.returns-clause-items
returns-clause-items g c = items-push c.self.inside.keys.items c.self.inside.slots.items c.self.invariant.0 c.self.view_is c.args.entry c.push_reserved.new.self.items
    c.push_reserved-2.new.self.items c.push_reserved.ensures.items c.push_reserved-2.ensures.items
