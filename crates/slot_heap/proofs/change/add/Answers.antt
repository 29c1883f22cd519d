use Rattle.std.proofs.Common.{length, set, Some, ap, arith}
use Rattle.std.proofs.lemmas.List.{length_push}
use Rattle.slot_heap.specs.Entries.{keys_of}
use Rattle.slot_heap.proofs.HeapLemmas.{add_room, IsHeld, IsHeld-add, IsSound-placed, keys_of-placed}
use Rattle.slot_heap.proofs.change.add.Given.{Over}
use Rattle.slot_heap.proofs.change.add.Goals as goal
use Rattle.slot_heap.proofs.change.add.Goals.{After-push_reserved}

pub push_reserved-requires : goal.push_reserved-requires
push_reserved-requires g c =
    let room = add_room g.met.K.Ord.total c.requires.sound c.args.entry c.requires.in_range c.requires.vacant in room.1

pub place-requires-clause-few : goal.place-requires-clause-few
place-requires-clause-few g c =
    let room = add_room g.met.K.Ord.total c.requires.sound c.args.entry c.requires.in_range c.requires.vacant in
    omega (
      arith,
      room.0,
      c.requires.sound.few,
      ap length c.push_reserved.ensures.items,
      length_push c.args.entries.now.items c.args.entry,
    )

-- the entry is held past the last one
held : (g : Over) (c : After-push_reserved g) →
    IsHeld g.met.K.Ord.total c.push_reserved.new.self.items c.args.places.now.items c.len-at.result c.args.entry
    (set (keys_of c.args.entries.now.items c.args.places.now.items) c.args.entry.slot.0 (Some c.args.entry.key))
held g c =
    IsHeld-add g.met.K.Ord.total c.requires.sound c.args.entry c.requires.in_range c.requires.vacant
    c.push_reserved.new.self.items c.len-at.result c.push_reserved.ensures.items c.len-at.ensures

pub place-requires-clause-linked : goal.place-requires-clause-linked
place-requires-clause-linked g c =
    rw c.deref_mut.ensures.value (held g (goal.at.place-requires-clause-linked g c).After-push_reserved).linked

pub place-requires-clause-order : goal.place-requires-clause-order
place-requires-clause-order g c = (held g (goal.at.place-requires-clause-order g c).After-push_reserved).order

pub returns : goal.returns
returns g c =
    let held = held g (goal.at.returns g c).After-push_reserved in
    let same = rw c.deref_mut.ensures.value at c.place.ensures.same in
    let places = ap length c.deref_mut.ensures.value in
    let entries = c.place.new.entries in record {
      sound = IsSound-placed g.met.K.Ord.total held c.args.places.now entries.items c.place.new.places (omega arith) same
          entries.capacity c.place.ensures.linked c.place.ensures.order c.place.ensures.count
          (omega (arith, c.requires.sound.room, c.push_reserved.ensures.capacity, c.place.ensures.room))
          (omega (arith, c.requires.sound.few));
      keys =
          keys_of-placed g.met.K.Ord.total held c.args.places.now entries.items c.place.new.places (omega arith) same;
    }
