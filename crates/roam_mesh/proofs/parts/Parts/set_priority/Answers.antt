use Rattle.std.proofs.lemmas.Grind.{common_steps}
use Rattle.std.proofs.Common.{◌≡◌, ℕ, ◌+◌, ◌*◌, ◌<◌, ◌≤◌, true, false, length, map, take, slice_index_or, slice_set}
use Rattle.std.proofs.Common.{arith, refl, sym, ◌∙◌, ap, subst, length-set}
use Rattle.std.proofs.lemmas.List.{get_or_read}
use Rattle.std.specs.Vec.{with_item}
use Rattle.bintree_addr.specs.declared.slot.Slot.{Slot}
use Rattle.roam_mesh.specs.Parts.{PartsState, parts_of, IsWhole, blank, entry_at}
use Rattle.roam_mesh.specs.Change.{with_priority, rated, rekeyed}
use Rattle.roam_mesh.specs.contracts.parts.Parts.{the_view}
use Rattle.roam_mesh.specs.declared.parts.Parts.TheInside.{Inside}
use Rattle.roam_mesh.specs.declared.entry.Entry.{Entry}
use Rattle.roam_mesh.proofs.SlotListLemmas.{distinct_room, numbers_count}
use Rattle.roam_mesh.proofs.PlaceLemmas.{live_below}
use Rattle.roam_mesh.proofs.RoleLemmas.{entry_live}
use Rattle.roam_mesh.proofs.ToldLemmas.{changed, asked_with, with_priority_whole, with_priority-array}
use Rattle.roam_mesh.proofs.ToldLemmas.{with_priority-again}
use Rattle.roam_mesh.proofs.parts.Parts.set_priority.Goals as goal
use Rattle.roam_mesh.proofs.parts.Parts.set_priority.Goals.{then-not-index, else-not-index}

-- the parts with another entry at a slot
abbrev with_entry : Inside → ℕ → Entry → PartsState
with_entry m s e =
    parts_of m.pool (slice_set m.entries.items s e) m.split_queue m.merge_queue m.deadlines m.asked.items m.asked_count
    m.fresh.items m.fresh_count

-- and with a slot that was told
abbrev with_told : Inside → ℕ → ℕ → PartsState
with_told m s p = changed (the_view m) s (with_priority (entry_at (the_view m) s) p) (asked_with (the_view m) s)

-- the slot is listed
first_state : (m i : Inside) (s : Slot) (p : ℕ) (e new : Entry) → m.asked_count < length m.asked.items →
    s.0 < length m.entries.items → (slice_index_or m.entries.items s.0 blank).listed ≡ false →
    i ≡ record m { asked = with_item m.asked m.asked_count s; asked_count = m.asked_count + 1 } →
    e ≡ slice_index_or i.entries.items s.0 e → new ≡ with_priority e p → with_entry i s.0 new ≡ with_told m s.0 p
first_state m i s p e new room below unlisted is read value =
    let old : e ≡ slice_index_or m.entries.items s.0 blank = get_or_read m.entries.items s.0 e below
    (subst (λ (z : Inside). e ≡ slice_index_or z.entries.items s.0 e) is read) blank in
    ap (λ (z : Inside). with_entry z s.0 new) is
    ∙ ap (λ (z : Entry). parts_of m.pool (slice_set m.entries.items s.0 z) m.split_queue m.merge_queue m.deadlines
    (slice_set m.asked.items m.asked_count s) (m.asked_count + 1) m.fresh.items m.fresh_count) value
    ∙ with_priority-array m.pool m.entries.items m.split_queue m.merge_queue m.deadlines m.asked.items m.asked_count
    m.fresh.items m.fresh_count s e p room old (ap (λ (z : Entry). z.listed) old ∙ unlisted)

-- it was listed before
again_state : (m i : Inside) (s : Slot) (p : ℕ) (e new : Entry) → s.0 < length m.entries.items →
    (slice_index_or m.entries.items s.0 blank).listed ≡ true →
    i ≡ m → e ≡ slice_index_or i.entries.items s.0 e → new ≡ with_priority e p
    → with_entry i s.0 new ≡ with_told m s.0 p
again_state m i s p e new below listed is read value =
    let old : e ≡ slice_index_or m.entries.items s.0 blank = get_or_read m.entries.items s.0 e below
    (subst (λ (z : Inside). e ≡ slice_index_or z.entries.items s.0 e) is read) blank in
    ap (λ (z : Inside). with_entry z s.0 new) is
    ∙ ap (λ (z : Entry). parts_of m.pool (slice_set m.entries.items s.0 z) m.split_queue m.merge_queue m.deadlines
    m.asked.items m.asked_count m.fresh.items m.fresh_count) value
    ∙ with_priority-again m.pool m.entries.items m.split_queue m.merge_queue m.deadlines m.asked.items m.asked_count
    m.fresh.items m.fresh_count s e p old (ap (λ (z : Entry). z.listed) old ∙ listed)

-- the sizes of the two arrays
abbrev AreSizes : Inside → Type 0
AreSizes m =
    ((length m.asked.items ≡ 2 * length m.pool.pairs) × (m.asked_count ≤ length m.asked.items))
    × ((length m.fresh.items ≡ 2 * length m.pool.pairs) × (m.fresh_count ≤ length m.fresh.items))

pub index_mut-requires : goal.index_mut-requires
index_mut-requires c =
    let m = c.self.inside in
    let whole = c.self.invariant.0 in
    let few = numbers_count m.asked.items m.asked_count c.self.invariant.1.1 in
    let pairs = ap (λ (p : PartsState). length p.pool.pairs) c.self.view_is in
    let size = whole.entries in
    let slot = live_below c.args.self.now.pool.pairs c.args.s.0
    (entry_live c.args.self.now.pool.pairs c.args.s.0 c.requires.entry) in
    let below : c.args.s.0 < length m.entries.items = omega arith in
    let new : (slice_index_or m.entries.items c.args.s.0 blank).listed ≡ false =
    sym (ap (λ (e : Entry). e.listed) (get_or_read m.entries.items _ _ below c.index.ensures blank))
    ∙ c.if-not-index.true in
    let room = distinct_room m.entries.items (λ e. e.listed)
    (map (λ t. t.0) (take m.asked_count m.asked.items)) c.args.s.0 whole.asked refl below new in
    omega (arith, m.asked.ok.0, c.self.invariant.1.0)

pub invariant_of-self : goal.invariant_of-self
invariant_of-self c =
    let m = c.self.inside in
    let whole = c.self.invariant.0 in
    let pairs = ap (λ (p : PartsState). length p.pool.pairs) c.self.view_is in
    let size = whole.entries in
    let slot = live_below c.args.self.now.pool.pairs c.args.s.0
    (entry_live c.args.self.now.pool.pairs c.args.s.0 c.requires.entry) in
    let below : c.args.s.0 < length c.self.inside.entries.items = omega arith in
    let read : c.index.result.now ≡ slice_index_or c.self.inside.entries.items c.args.s.0 blank =
    get_or_read c.self.inside.entries.items _ _ below c.index.ensures blank in
    let after : IsWhole (with_told c.self.inside c.args.s.0 c.args.p) =
    with_priority_whole (the_view c.self.inside) c.args.s.0 c.args.p c.self.invariant.0 below in
    elim c.if-not-index.branch [
      | then-not-index w ↦
          let new : (slice_index_or c.self.inside.entries.items c.args.s.0 blank).listed ≡ false =
          sym (ap (λ (e : Entry). e.listed) read) ∙ w.if-not-index.true in
          let few = numbers_count c.self.inside.asked.items c.self.inside.asked_count c.self.invariant.1.1 in
          let room = distinct_room c.self.inside.entries.items (λ e. e.listed) (map (λ t. t.0)
          (take c.self.inside.asked_count c.self.inside.asked.items)) c.args.s.0 whole.asked refl below new in
          let free : c.self.inside.asked_count < length c.self.inside.asked.items =
          omega (arith, c.self.invariant.1.0) in
          let state = first_state c.self.inside c.if-not-index.self-inside c.args.s c.args.p c.index_mut-2.result.now
          c.set_priority.new.self free below new w.self-inside-is c.index_mut-2.ensures.value c.set_priority.ensures in
          let long = length-set c.self.inside.asked.items c.self.inside.asked_count c.args.s in
          let sizes : AreSizes c.if-not-index.self-inside =
          subst AreSizes (sym w.self-inside-is) ((long ∙ c.self.invariant.1.0, omega arith), c.self.invariant.2) in
          (subst IsWhole (sym state) after, sizes.0, sizes.1)
      | else-not-index w ↦
          let old : (slice_index_or c.self.inside.entries.items c.args.s.0 blank).listed ≡ true =
          sym (ap (λ (e : Entry). e.listed) read) ∙ w.if-not-index.false in
          let state = again_state c.self.inside c.if-not-index.self-inside c.args.s c.args.p c.index_mut-2.result.now
          c.set_priority.new.self below old w.self-inside-is c.index_mut-2.ensures.value c.set_priority.ensures in
          let sizes : AreSizes c.if-not-index.self-inside =
          subst AreSizes (sym w.self-inside-is) (c.self.invariant.1, c.self.invariant.2) in
          (subst IsWhole (sym state) after, sizes.0, sizes.1)
    ]

pub returns-clause-told : goal.returns-clause-told
returns-clause-told c =
    let m = c.self.inside in
    let whole = c.self.invariant.0 in
    let pairs = ap (λ (p : PartsState). length p.pool.pairs) c.self.view_is in
    let size = whole.entries in
    let slot = live_below c.args.self.now.pool.pairs c.args.s.0
    (entry_live c.args.self.now.pool.pairs c.args.s.0 c.requires.entry) in
    let below : c.args.s.0 < length c.self.inside.entries.items = omega arith in
    let read : c.index.result.now ≡ slice_index_or c.self.inside.entries.items c.args.s.0 blank =
    get_or_read c.self.inside.entries.items _ _ below c.index.ensures blank in
    let state : with_entry c.if-not-index.self-inside c.args.s.0 c.set_priority.new.self
    ≡ with_told c.self.inside c.args.s.0 c.args.p = elim c.if-not-index.branch [
      | then-not-index w ↦
          let new : (slice_index_or c.self.inside.entries.items c.args.s.0 blank).listed ≡ false =
          sym (ap (λ (e : Entry). e.listed) read) ∙ w.if-not-index.true in
          let few = numbers_count c.self.inside.asked.items c.self.inside.asked_count c.self.invariant.1.1 in
          let room = distinct_room c.self.inside.entries.items (λ e. e.listed) (map (λ t. t.0)
          (take c.self.inside.asked_count c.self.inside.asked.items)) c.args.s.0 whole.asked refl below new in
          let free : c.self.inside.asked_count < length c.self.inside.asked.items =
          omega (arith, c.self.invariant.1.0) in
          first_state c.self.inside c.if-not-index.self-inside c.args.s c.args.p c.index_mut-2.result.now
          c.set_priority.new.self free below new w.self-inside-is c.index_mut-2.ensures.value c.set_priority.ensures
      | else-not-index w ↦
          let old : (slice_index_or c.self.inside.entries.items c.args.s.0 blank).listed ≡ true =
          sym (ap (λ (e : Entry). e.listed) read) ∙ w.if-not-index.false in
          again_state c.self.inside c.if-not-index.self-inside c.args.s c.args.p c.index_mut-2.result.now
          c.set_priority.new.self below old w.self-inside-is c.index_mut-2.ensures.value c.set_priority.ensures
    ] in
    c.rekey.ensures ∙ ap (λ (z : PartsState). rekeyed z c.args.s.0) state
    ∙ ap (λ (z : PartsState). rated z c.args.s.0 c.args.p) c.self.view_is

pub index-requires : goal.index-requires
index-requires c = grind (arith, common_steps)

pub index_mut-requires-2 : goal.index_mut-requires-2
index_mut-requires-2 c = grind (arith, common_steps)
