use Rattle.std.proofs.Common.{◌<◌, length, set, Some, ap, arith}
use Rattle.std.proofs.lemmas.List.{get_or_read}
use Rattle.slot_heap.specs.Entries.{keys_of}
use Rattle.slot_heap.proofs.KeyLemmas.{entries_few}
use Rattle.slot_heap.proofs.HeapLemmas.{IsFound-present, IsHeld, IsHeld-replace, IsSound-placed, keys_of-placed}
use Rattle.slot_heap.proofs.change.replace.Given.{Over}
use Rattle.slot_heap.proofs.change.replace.Goals as goal
use Rattle.slot_heap.proofs.change.replace.Goals.{After-index}

pub index-requires : goal.index-requires
index-requires g c =
    let entry = IsFound-present g.met.K.Ord.total c.requires.sound c.args.entry.slot.0 c.requires.present in
    omega (arith, entry.2.in_places, c.args.places.now.ok.0)

-- the entry is held in the place of the one of its slot
held : (g : Over) (c : After-index g) → (c.index.result.now < length c.args.entries.now.items)
    × IsHeld g.met.K.Ord.total c.args.entries.now.items c.args.places.now.items c.index.result.now c.args.entry
    (set (keys_of c.args.entries.now.items c.args.places.now.items) c.args.entry.slot.0 (Some c.args.entry.key))
held g c =
    let entry = IsFound-present g.met.K.Ord.total c.requires.sound c.args.entry.slot.0 c.requires.present in
    let is_at = get_or_read c.args.places.now.items c.args.entry.slot.0 c.index.result.now
    entry.2.in_places c.index.ensures 0 in (
      omega (arith, entry.2.inside, is_at),
      IsHeld-replace g.met.K.Ord.total c.requires.sound c.args.entry entry.0 entry.1 entry.2 c.index.result.now is_at,
    )

pub place-requires : goal.place-requires
place-requires g c =
    let held = held g (goal.at.place-requires g c).After-index in record {
      in_heap = held.0;
      few = omega (
        arith,
        entries_few c.args.entries.now.items c.args.places.now.items,
        c.requires.sound.count,
        c.requires.sound.few,
      );
      linked = rw c.deref_mut.ensures.value held.1.linked;
      order = held.1.order;
    }

pub returns : goal.returns
returns g c =
    let held = (held g (goal.at.returns g c).After-index).1 in
    let same = rw c.deref_mut.ensures.value at c.place.ensures.same in
    let places = ap length c.deref_mut.ensures.value in
    let entries = c.place.new.entries in record {
      sound = IsSound-placed g.met.K.Ord.total held c.args.places.now entries.items c.place.new.places (omega arith) same
          entries.capacity c.place.ensures.linked c.place.ensures.order c.place.ensures.count
          (omega (arith, c.requires.sound.room, c.place.ensures.room)) (omega (arith, c.requires.sound.few));
      keys =
          keys_of-placed g.met.K.Ord.total held c.args.places.now entries.items c.place.new.places (omega arith) same;
    }
