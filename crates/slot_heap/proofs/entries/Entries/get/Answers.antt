use Rattle.std.proofs.Common.{length, refl, sym, ◌∙◌, arith}
use Rattle.std.proofs.lemmas.Option.{slice_get_past, slice_get_read}
use Rattle.slot_heap.proofs.EntriesLemmas.{length-items, items-read}
use Rattle.slot_heap.proofs.entries.Entries.get.Goals as goal

pub returns-in_err-key : goal.returns-in_err-key
returns-in_err-key g c =
    let lookup = rw c.as_slice.ensures.value at c.in_err-key.ensures.lookup in
    c.from_residual.ensures ∙ sym (slice_get_past c.args.self.now.items c.args.at
    (omega (arith, lookup.3, length-items c.self.inside.keys.items c.self.inside.slots.items c.self.invariant.0 c.self.view_is)))

pub returns : goal.returns
returns g c =
    let lookup = rw c.as_slice.ensures.value at c.in_ok-key.ensures.lookup in
    let xs = c.args.self.now.items in
    sym (slice_get_read xs (length xs) c.args.at _ refl
    (omega (arith, lookup.3.0, length-items c.self.inside.keys.items c.self.inside.slots.items c.self.invariant.0 c.self.view_is))
    (items-read c.self.inside.keys.items c.self.inside.slots.items c.self.invariant.0 c.self.view_is c.args.at _ lookup.1 c.index.ensures))
