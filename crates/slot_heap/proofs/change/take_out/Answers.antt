use Rattle.std.proofs.Common.{◌≡◌, ◌+◌, ◌<◌, ◌≤◌, ◌∷◌, [], length, get_or, set, take, None, Some, refl, sym, ap, ◌∙◌, arith}
use Rattle.std.proofs.Math.Seq.{take-append_seam}
use Rattle.std.proofs.lemmas.List.{get_or_read, get_or_push, length_push}
use Rattle.slot_heap.specs.declared.entry.Entry.{Entry}
use Rattle.slot_heap.specs.Entries.{keys_of}
use Rattle.slot_heap.specs.Keys.{key_of}
use Rattle.slot_heap.proofs.KeyLemmas.{entries_few}
use Rattle.slot_heap.proofs.HeapLemmas.{IsFound-present, IsHeld, IsHeld-remove, IsSound-last, keys_of-last}
use Rattle.slot_heap.proofs.HeapLemmas.{IsSound-placed, keys_of-placed}
use Rattle.slot_heap.proofs.change.take_out.Given.{Over}
use Rattle.slot_heap.proofs.change.take_out.Goals as goal
use Rattle.slot_heap.proofs.change.take_out.Goals.{After-read-key, After-deref_mut}

pub index-requires : goal.index-requires
index-requires g c =
    let entry = IsFound-present g.met.K.Ord.total c.requires.sound c.args.slot.0 c.requires.present in
    omega (arith, entry.2.in_places, c.args.places.now.ok.0)

pub read-key-requires : goal.read-key-requires
read-key-requires g c =
    let entry = IsFound-present g.met.K.Ord.total c.requires.sound c.args.slot.0 c.requires.present in
    let is_at =
    get_or_read c.args.places.now.items c.args.slot.0 c.index.result.now entry.2.in_places c.index.ensures 0 in
    omega (arith, entry.2.inside, is_at)

-- the last entry is held in the place of the one that goes
held : (g : Over) (c : After-deref_mut g) →
    IsHeld g.met.K.Ord.total c.pop-last.new.self.items c.args.places.now.items c.index.result.now c.pop-last.result
    (set (keys_of c.args.entries.now.items c.args.places.now.items) c.args.slot.0 None)
held g c =
    let entry = IsFound-present g.met.K.Ord.total c.requires.sound c.args.slot.0 c.requires.present in
    let is_at =
    get_or_read c.args.places.now.items c.args.slot.0 c.index.result.now entry.2.in_places c.index.ensures 0 in
    let rest = c.pop-last.new.self.items in
    let m = length rest in
    let x = c.pop-last.result in
    let all = c.pop-last.ensures.items in
    let long : m + 1 ≡ length c.args.entries.now.items = sym (length_push rest x) ∙ ap length (sym all) in
    let first = sym (ap (take m) all ∙ take-append_seam rest (x ∷ [])) in
    let is_x : (d : Entry _) → get_or c.args.entries.now.items m d ≡ x =
    λ d. ap (λ zs. get_or zs m d) all ∙ get_or_push rest x d m refl in
    let low : c.index.result.now < m = omega (arith, c.if-at-len.true, c.len.ensures) in
    IsHeld-remove g.met.K.Ord.total c.requires.sound c.args.slot.0 entry.0 entry.1 entry.2 c.index.result.now m is_at
    long rest first x is_x low

pub place-requires-clause-few : goal.place-requires-clause-few
place-requires-clause-few g c =
    omega (
      arith,
      entries_few c.args.entries.now.items c.args.places.now.items,
      c.requires.sound.count,
      c.requires.sound.few,
      ap length c.pop-last.ensures.items,
      length_push c.pop-last.new.self.items c.pop-last.result,
    )

pub place-requires-clause-linked : goal.place-requires-clause-linked
place-requires-clause-linked g c =
    rw c.deref_mut.ensures.value (held g (goal.at.place-requires-clause-linked g c).After-deref_mut).linked

pub place-requires-clause-order : goal.place-requires-clause-order
place-requires-clause-order g c = (held g (goal.at.place-requires-clause-order g c).After-deref_mut).order

-- the key that goes is that of the entry at the place
key : (g : Over) (c : After-read-key g) →
    key_of (keys_of c.args.entries.now.items c.args.places.now.items) c.args.slot ≡ Some c.read-key.result.key
key g c =
    let entry = IsFound-present g.met.K.Ord.total c.requires.sound c.args.slot.0 c.requires.present in
    let is_at =
    get_or_read c.args.places.now.items c.args.slot.0 c.index.result.now entry.2.in_places c.index.ensures 0 in
    let at_place = ap (λ i. get_or c.args.entries.now.items i c.read-key.result) is_at in
    entry.1 ∙ ap Some (sym (entry.2.has c.read-key.result) ∙ ap (λ z. z.key) (sym at_place ∙ sym c.read-key.ensures))

pub returns-then-at-len : goal.returns-then-at-len
returns-then-at-len g c =
    let held = held g (goal.at.returns-then-at-len g c).After-deref_mut in
    let same = rw c.deref_mut.ensures.value at c.place.ensures.same in
    let places = ap length c.deref_mut.ensures.value in
    let entries = c.place.new.entries in record {
      sound = IsSound-placed g.met.K.Ord.total held c.args.places.now entries.items c.place.new.places (omega arith) same
          entries.capacity c.place.ensures.linked c.place.ensures.order c.place.ensures.count
          (omega (arith, c.requires.sound.room, c.pop-last.ensures.capacity, c.place.ensures.room))
          (omega (arith, c.requires.sound.few));
      key = key g (goal.at.returns-then-at-len g c).After-read-key;
      keys =
          keys_of-placed g.met.K.Ord.total held c.args.places.now entries.items c.place.new.places (omega arith) same;
    }

pub returns-else-at-len : goal.returns-else-at-len
returns-else-at-len g c =
    let entry = IsFound-present g.met.K.Ord.total c.requires.sound c.args.slot.0 c.requires.present in
    let is_at =
    get_or_read c.args.places.now.items c.args.slot.0 c.index.result.now entry.2.in_places c.index.ensures 0 in
    let rest = c.pop-last.new.self.items in
    let m = length rest in
    let all = c.pop-last.ensures.items in
    let long : m + 1 ≡ length c.args.entries.now.items =
    sym (length_push rest c.pop-last.result) ∙ ap length (sym all) in
    let first = sym (ap (take m) all ∙ take-append_seam rest (c.pop-last.result ∷ [])) in
    let high : m ≤ c.index.result.now = omega (arith, c.if-at-len.false, c.len.ensures) in record {
      sound = IsSound-last g.met.K.Ord.total c.requires.sound c.args.slot.0 entry.0 entry.1 entry.2 c.index.result.now m
          is_at long rest first c.pop-last.new.self.capacity c.pop-last.ensures.capacity high;
      key = key g (goal.at.returns-else-at-len g c).After-read-key;
      keys = keys_of-last g.met.K.Ord.total c.requires.sound c.args.slot.0 entry.0 entry.1 entry.2 c.index.result.now m
          is_at long rest first high;
    }
