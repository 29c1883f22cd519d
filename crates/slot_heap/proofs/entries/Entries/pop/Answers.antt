use Rattle.std.proofs.Common.{◌++◌, ap, ◌∙◌, arith}
use Rattle.slot_heap.proofs.EntriesLemmas.{length-items, items-pop}
use Rattle.slot_heap.proofs.entries.Entries.pop.Goals as goal
use Rattle.std.specs.Option.{option_to_list}

pub unwrap-key-requires : goal.unwrap-key-requires
unwrap-key-requires g c = c.pop.ensures.variant.1
    (omega (arith, length-items c.self.inside.keys.items c.self.inside.slots.items c.self.invariant.0 c.self.view_is, c.self.inside.keys.ok.0))

pub returns-clause-items : goal.returns-clause-items
returns-clause-items g c =
    let keys = c.pop.new.self.items in
    let slots = c.pop-2.new.self.items in
    items-pop c.self.inside.keys.items c.self.inside.slots.items c.self.invariant.0 c.self.view_is _ keys slots
    (c.pop.ensures.items ∙ ap (λ o. keys ++ option_to_list o) c.unwrap-key.ensures)
    (c.pop-2.ensures.items ∙ ap (λ o. slots ++ option_to_list o) c.unwrap-slot.ensures)
