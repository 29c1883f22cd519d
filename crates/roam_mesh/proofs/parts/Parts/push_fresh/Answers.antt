use Rattle.std.proofs.Common.{◌≡◌, ◌<◌, ◌∷◌, [], false, arith, length, length-set, map, take, slice_index_or, refl, sym}
use Rattle.std.proofs.Common.{ap, subst, ◌∙◌}
use Rattle.std.proofs.lemmas.List.{get_or_read}
use Rattle.std.proofs.lemmas.List.Elements.{All-cons, All-nil}
use Rattle.roam_mesh.specs.Parts.{PartsState, blank, IsWhole}
use Rattle.roam_mesh.specs.Change.{pushed}
use Rattle.roam_mesh.specs.contracts.parts.Parts.{the_view}
use Rattle.roam_mesh.specs.declared.entry.Entry.{Entry}
use Rattle.roam_mesh.proofs.FreshLemmas.{pushed_has, pushed-array}
use Rattle.roam_mesh.proofs.SlotListLemmas.{distinct_room, numbers_count}
use Rattle.roam_mesh.proofs.parts.Parts.push_fresh.Goals as goal
use Rattle.roam_mesh.proofs.parts.Parts.push_fresh.Goals.{Else-index}

-- where the slot is not listed
module _ (c : Else-index) where
  below : c.args.s.0 < length c.self.inside.entries.items
  below =
      let slot = c.requires.slot in
      let pairs = ap (λ (p : PartsState). length p.pool.pairs) c.self.view_is in
      let size = c.self.invariant.0.entries in
      omega arith

  new : (slice_index_or c.self.inside.entries.items c.args.s.0 blank).fresh ≡ false
  new = sym (ap (λ (e : Entry). e.fresh) (get_or_read c.self.inside.entries.items _ _ below c.index.ensures blank))
      ∙ c.if-index.false

  -- there is room for it in the list
  room : c.self.inside.fresh_count < length c.self.inside.fresh.items
  room =
      let few = numbers_count c.self.inside.fresh.items c.self.inside.fresh_count c.self.invariant.2.1 in
      let size = c.self.invariant.0.entries in
      let free = distinct_room c.self.inside.entries.items (λ e. e.fresh)
      (map (λ t. t.0) (take c.self.inside.fresh_count c.self.inside.fresh.items)) c.args.s.0
      c.self.invariant.0.fresh refl below new in
      omega (arith, c.self.invariant.2.0)

pub index_mut-requires-2 : goal.index_mut-requires-2
index_mut-requires-2 c =
    let free = room (goal.at.index_mut-requires-2 c).Else-index in
    omega (arith, c.self.inside.fresh.ok.0)

pub invariant_of-self : goal.invariant_of-self
invariant_of-self c =
    let m = c.self.inside in
    let unlisted = (goal.at.invariant_of-self c).Else-index in
    let same = get_or_read m.entries.items _ _ (below unlisted) c.index_mut.ensures.value blank in
    let array = pushed-array m.pool m.entries.items m.split_queue m.merge_queue m.deadlines m.asked.items m.asked_count
    m.fresh.items m.fresh_count c.args.s c.index_mut.result.now
    (room unlisted) same (ap (λ (e : Entry). e.fresh) same ∙ new unlisted) in
    let all = All-cons (λ s. s < length m.entries.items) c.args.s.0 [] (below unlisted)
    (All-nil (λ s. s < length m.entries.items)) in
    let free = room unlisted in
    let long = length-set m.fresh.items m.fresh_count c.args.s in (
      subst IsWhole (sym array) (pushed_has (the_view m) (c.args.s.0 ∷ []) c.self.invariant.0 all).whole,
      c.self.invariant.1,
      (long ∙ c.self.invariant.2.0, omega arith),
    )

pub returns : goal.returns
returns c =
    let m = c.self.inside in
    let unlisted = (goal.at.returns c).Else-index in
    let same = get_or_read m.entries.items _ _ (below unlisted) c.index_mut.ensures.value blank in
    pushed-array m.pool m.entries.items m.split_queue m.merge_queue m.deadlines m.asked.items m.asked_count
    m.fresh.items m.fresh_count c.args.s c.index_mut.result.now
    (room unlisted) same (ap (λ (e : Entry). e.fresh) same ∙ new unlisted)
    ∙ ap (λ p. pushed p c.args.s.0) c.self.view_is
