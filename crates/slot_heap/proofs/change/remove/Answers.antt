use Rattle.std.proofs.Common.{◌<◌, length, get_or, None, ap, ◌∙◌, arith}
use Rattle.std.proofs.lemmas.List.{get_or-set_same, length-set}
use Rattle.slot_heap.specs.Entries.{keys_of}
use Rattle.slot_heap.proofs.KeyLemmas.{length-keys_of}
use Rattle.slot_heap.proofs.HeapLemmas.{IsFound-present, IsSound-unnoted, keys_of-unnoted}
use Rattle.slot_heap.proofs.change.remove.Goals as goal

pub index_mut-requires : goal.index_mut-requires
index_mut-requires g c =
    let entry = IsFound-present g.met.K.Ord.total c.requires.sound c.args.slot.0 c.requires.present in
    let keys = keys_of c.args.entries.now.items c.args.places.now.items in
    let slots = ap length c.take_out-key.ensures.keys ∙ length-set keys c.args.slot.0 None
    ∙ length-keys_of c.args.entries.now.items c.args.places.now.items in
    omega (
      arith,
      slots,
      entry.2.in_places,
      length-keys_of c.take_out-key.new.entries.items c.take_out-key.new.places.items,
      c.take_out-key.new.places.ok.0,
    )

pub returns-clause-sound : goal.returns-clause-sound
returns-clause-sound g c =
    let entry = IsFound-present g.met.K.Ord.total c.requires.sound c.args.slot.0 c.requires.present in
    let keys = keys_of c.args.entries.now.items c.args.places.now.items in
    let within : c.args.slot.0 < length keys =
    omega (arith, entry.2.in_places, length-keys_of c.args.entries.now.items c.args.places.now.items) in
    let vacant = ap (λ z. get_or z c.args.slot.0 None) c.take_out-key.ensures.keys
    ∙ get_or-set_same keys c.args.slot.0 None None within in
    IsSound-unnoted g.met.K.Ord.total c.take_out-key.ensures.sound c.args.slot.0 4294967295 vacant

pub returns-clause-keys : goal.returns-clause-keys
returns-clause-keys g c =
    let entry = IsFound-present g.met.K.Ord.total c.requires.sound c.args.slot.0 c.requires.present in
    let keys = keys_of c.args.entries.now.items c.args.places.now.items in
    let within : c.args.slot.0 < length keys =
    omega (arith, entry.2.in_places, length-keys_of c.args.entries.now.items c.args.places.now.items) in
    let vacant = ap (λ z. get_or z c.args.slot.0 None) c.take_out-key.ensures.keys
    ∙ get_or-set_same keys c.args.slot.0 None None within in
    keys_of-unnoted g.met.K.Ord.total c.take_out-key.ensures.sound c.args.slot.0 4294967295 vacant
    ∙ c.take_out-key.ensures.keys
