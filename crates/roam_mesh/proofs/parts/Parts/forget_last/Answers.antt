use Rattle.std.proofs.Common.{◌≡◌, ℕ, ◌+◌, ◌-◌, ◌<◌, ◌≤◌, ◌++◌, ◌∷◌, [], true, false, List, length, map, take}
use Rattle.std.proofs.Common.{slice_index_or, slice_set, arith, refl, sym, ◌∙◌, ap, subst, ⊎_elim}
use Rattle.std.proofs.lemmas.Bool.{both_ways, cond-true, cond-false}
use Rattle.std.proofs.lemmas.List.{get_or_read}
use Rattle.bintree_addr.specs.declared.slot.Slot.{Slot}
use Rattle.roam_mesh.specs.Parts.{PartsState, parts_of, IsWhole, IsPlaced, blank, entry_at, is_entry_at, is_leaf_at}
use Rattle.roam_mesh.specs.Parts.{is_ready_at}
use Rattle.roam_mesh.specs.Change.{without_priority, forgotten, rekeyed}
use Rattle.roam_mesh.specs.contracts.parts.Parts.{the_view}
use Rattle.roam_mesh.specs.declared.parts.Parts.TheInside.{Inside}
use Rattle.roam_mesh.specs.declared.entry.Entry.{Entry}
use Rattle.roam_mesh.proofs.SlotListLemmas.{numbers_last}
use Rattle.roam_mesh.proofs.RoleLemmas.{entry_cases}
use Rattle.roam_mesh.proofs.PlacedLemmas.{diamond_present}
use Rattle.roam_mesh.proofs.ToldLemmas.{changed, last_below, without_priority_whole}
use Rattle.roam_mesh.proofs.parts.Parts.forget_last.Goals as goal
use Rattle.roam_mesh.proofs.parts.Parts.forget_last.Goals.{After-index-s}

-- the slots that were asked before the last one
abbrev rest_of : Inside → List ℕ
rest_of m = map (λ t. t.0) (take (m.asked_count - 1) m.asked.items)

-- they and that one are all
asked_is : (m : Inside) (s : Slot) → 1 ≤ m.asked_count → m.asked_count ≤ length m.asked.items →
    s ≡ slice_index_or m.asked.items (m.asked_count - 1) s → (the_view m).asked ≡ rest_of m ++ (s.0 ∷ [])
asked_is m s some fits is =
    let count : m.asked_count ≡ m.asked_count - 1 + 1 = omega arith in
    ap (λ n. map (λ (t : Slot). t.0) (take n m.asked.items)) count
    ∙ numbers_last m.asked.items (m.asked_count - 1) s (omega arith) is

-- the parts without that one
state : (m : Inside) (s : Slot) (e new : Entry) → e ≡ slice_index_or m.entries.items s.0 blank
    → new ≡ without_priority e →
    parts_of m.pool (slice_set m.entries.items s.0 new) m.split_queue m.merge_queue m.deadlines m.asked.items
    (m.asked_count - 1) m.fresh.items m.fresh_count
    ≡ changed (the_view m) s.0 (without_priority (entry_at (the_view m) s.0)) (rest_of m)
state m s e new is value =
    ap (λ (z : Entry). parts_of m.pool (slice_set m.entries.items s.0 z) m.split_queue m.merge_queue m.deadlines
    m.asked.items (m.asked_count - 1) m.fresh.items m.fresh_count) (value ∙ ap without_priority is)

-- the last one is read
module _ (c : After-index-s) where
  asked : (the_view c.self.inside).asked ≡ rest_of c.self.inside ++ (c.index-s.result.now.0 ∷ [])
  asked = asked_is c.self.inside c.index-s.result.now (omega arith) c.self.invariant.1.1 c.index-s.ensures

  below : c.index-s.result.now.0 < length c.self.inside.entries.items
  below = last_below (the_view c.self.inside) (rest_of c.self.inside) c.index-s.result.now.0 c.self.invariant.0 asked

pub index-requires : goal.index-requires
index-requires c =
    let within = below (goal.at.index-requires c).After-index-s in
    omega (arith, c.self.inside.entries.ok.0)

pub index_mut-requires : goal.index_mut-requires
index_mut-requires c =
    let within = below (goal.at.index_mut-requires c).After-index-s in
    omega (arith, c.self.inside.entries.ok.0)

pub invariant_of-self : goal.invariant_of-self
invariant_of-self c =
    let read = (goal.at.invariant_of-self c).After-index-s in
    let is = state c.self.inside c.index-s.result.now c.index_mut.result.now c.forget.new.self
    (get_or_read c.self.inside.entries.items _ _ (below read) c.index_mut.ensures.value blank) c.forget.ensures in
    let fits : c.self.inside.asked_count - 1 ≤ length c.self.inside.asked.items =
    omega (arith, c.self.invariant.1.1) in (
      subst IsWhole (sym is) (without_priority_whole (the_view c.self.inside)
          (rest_of c.self.inside) c.index-s.result.now.0 c.self.invariant.0 (asked read)),
      (c.self.invariant.1.0, fits),
      c.self.invariant.2,
    )

pub invariant_of-self-else-was_known : goal.invariant_of-self-else-was_known
invariant_of-self-else-was_known c =
    let read = (goal.at.invariant_of-self-else-was_known c).After-index-s in
    let is = state c.self.inside c.index-s.result.now c.index_mut.result.now c.forget.new.self
    (get_or_read c.self.inside.entries.items _ _ (below read) c.index_mut.ensures.value blank) c.forget.ensures in
    let fits : c.self.inside.asked_count - 1 ≤ length c.self.inside.asked.items =
    omega (arith, c.self.invariant.1.1) in (
      subst IsWhole (sym is) (without_priority_whole (the_view c.self.inside)
          (rest_of c.self.inside) c.index-s.result.now.0 c.self.invariant.0 (asked read)),
      (c.self.invariant.1.0, fits),
      c.self.invariant.2,
    )

pub rekey-requires-clause-entry : goal.rekey-requires-clause-entry
rekey-requires-clause-entry c =
    let placed : IsPlaced (the_view c.self.inside) (λ s. false) =
    subst (λ (z : PartsState). IsPlaced z (λ s. false)) (sym c.self.view_is) c.requires.placed in
    let read = (goal.at.rekey-requires-clause-entry c).After-index-s in
    placed.known c.index-s.result.now.0 (sym (ap (λ (z : Entry). z.known)
    (get_or_read c.self.inside.entries.items _ _ (below read) c.index.ensures blank)) ∙ c.if-was_known.true)

pub rekey-requires-clause-diamond : goal.rekey-requires-clause-diamond
rekey-requires-clause-diamond c leaf =
    let placed : IsPlaced (the_view c.self.inside) (λ s. false) =
    subst (λ (z : PartsState). IsPlaced z (λ s. false)) (sym c.self.view_is) c.requires.placed in
    let read = (goal.at.rekey-requires-clause-diamond c).After-index-s in
    let entry : is_entry_at c.self.inside.pool.pairs c.index-s.result.now.0 ≡ true =
    placed.known c.index-s.result.now.0 (sym (ap (λ (z : Entry). z.known)
    (get_or_read c.self.inside.entries.items _ _ (below read) c.index.ensures blank)) ∙ c.if-was_known.true) in
    let ready : is_ready_at c.self.inside.pool.pairs c.index-s.result.now.0 ≡ true = ⊎_elim
    (λ (yes : is_leaf_at c.self.inside.pool.pairs c.index-s.result.now.0 ≡ true).
    absurd (both_ways (is_leaf_at c.self.inside.pool.pairs c.index-s.result.now.0) leaf yes))
    (λ (diamond : (is_leaf_at c.self.inside.pool.pairs c.index-s.result.now.0 ≡ false)
    × (is_ready_at c.self.inside.pool.pairs c.index-s.result.now.0 ≡ true)). diamond.1)
    (entry_cases c.self.inside.pool.pairs c.index-s.result.now.0 entry) in
    diamond_present (the_view c.self.inside)
    (λ s. false) c.index-s.result.now.0 c.n-n.ensures.valid placed ready (λ r. refl)

pub returns-then-was_known-clause-some : goal.returns-then-was_known-clause-some
returns-then-was_known-clause-some c happened =
    let s : ℕ = c.index-s.result.now.0 in
    let rest : List ℕ = rest_of c.self.inside in
    let read = (goal.at.returns-then-was_known-clause-some c).After-index-s in
    let is = state c.self.inside c.index-s.result.now c.index_mut.result.now c.forget.new.self
    (get_or_read c.self.inside.entries.items _ _ (below read) c.index_mut.ensures.value blank) c.forget.ensures in
    let known : (entry_at (the_view c.self.inside) c.index-s.result.now.0).known ≡ true =
    sym (ap (λ (z : Entry). z.known)
    (get_or_read c.self.inside.entries.items _ _ (below read) c.index.ensures blank)) ∙ c.if-was_known.true in
    let now : PartsState = changed (the_view c.self.inside) s
    (without_priority (entry_at (the_view c.self.inside) s)) rest in (
      rest,
      s,
      sym (ap (λ (z : PartsState). z.asked) c.self.view_is) ∙ asked read,
      c.rekey.ensures ∙ ap (λ (z : PartsState). rekeyed z s) is
          ∙ sym (cond-true (entry_at (the_view c.self.inside) s).known (rekeyed now s) now known)
          ∙ ap (λ (z : PartsState). forgotten z rest s) c.self.view_is,
    )

pub returns-else-was_known-clause-some : goal.returns-else-was_known-clause-some
returns-else-was_known-clause-some c happened =
    let s : ℕ = c.index-s.result.now.0 in
    let rest : List ℕ = rest_of c.self.inside in
    let read = (goal.at.returns-else-was_known-clause-some c).After-index-s in
    let is = state c.self.inside c.index-s.result.now c.index_mut.result.now c.forget.new.self
    (get_or_read c.self.inside.entries.items _ _ (below read) c.index_mut.ensures.value blank) c.forget.ensures in
    let unknown : (entry_at (the_view c.self.inside) c.index-s.result.now.0).known ≡ false =
    sym (ap (λ (z : Entry). z.known)
    (get_or_read c.self.inside.entries.items _ _ (below read) c.index.ensures blank)) ∙ c.if-was_known.false in
    let now : PartsState = changed (the_view c.self.inside) s
    (without_priority (entry_at (the_view c.self.inside) s)) rest in (
      rest,
      s,
      sym (ap (λ (z : PartsState). z.asked) c.self.view_is) ∙ asked read,
      is ∙ sym (cond-false (entry_at (the_view c.self.inside) s).known (rekeyed now s) now unknown)
          ∙ ap (λ (z : PartsState). forgotten z rest s) c.self.view_is,
    )
