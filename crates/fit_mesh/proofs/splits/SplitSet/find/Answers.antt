-- The leaves of the set that was found, and their greatest error.
use Rattle.std.proofs.Common.{◌≡◌, ℕ, Bool, List, length, sym, ◌∙◌, ap, subst, ◌*◌, ◌≤◌, vec_capacity}
use Rattle.std.specs.Prelude.{All}
use Rattle.std.proofs.lemmas.List.Elements.{All-weaker}
use Rattle.mesh_defs.specs.Triangle.{level_of, IsAddress}
use Rattle.bintree_laws.proofs.LevelLemmas.{level-le}
use Rattle.std.proofs.lemmas.List.{with_items_is}
use Rattle.mesh_defs.specs.ClosedSet.{leaves_of}
use Rattle.mesh_laws.specs.Sweep.{is_flagged}
use Rattle.fit_mesh.specs.Splits.{SplitMesh, IsSplitSet}
use Rattle.fit_mesh.proofs.SplitLemmas.{kept-set, listed-leaves}
use Rattle.fit_mesh.proofs.splits.SplitSet.find.Goals as goal

pub invariant_of-self : goal.invariant_of-self
invariant_of-self c =
    let n : ℕ = c.self.inside.n in
    let grid : n ≡ c.args.grid.now.n = ap (λ (s : SplitMesh). s.n) c.self.view_is ∙ sym c.requires.grid in
    let flags = with_items_is c.self.inside.flags c.find-known.new.flags (c.find-known.auto.flags ∙ c.deref_mut.ensures.len) in
    subst (λ (l : List Bool). IsSplitSet n l c.list_set.new.list.items (vec_capacity c.find-known.new.log)
    (vec_capacity c.list_set.new.list)) (sym flags)
    (kept-set n c.args.grid.now.n c.self.inside.flags.items c.find-known.new.flags c.self.inside.leaves.items
    c.list_set.new.list.items _ _ _ _ c.self.invariant grid
    (c.find-known.ensures.flags ∙ ap (λ (l : List Bool). length l) c.deref_mut.ensures.value) c.find-known.ensures.found.fit.settled.closed
    (c.list_set.ensures.listed ∙ ap (λ (l : List Bool). leaves_of n (is_flagged l)) (c.deref.ensures.value ∙ flags))
    c.find-known.ensures.room c.list_set.ensures.capacity)

pub returns-clause-found : goal.returns-clause-found
returns-clause-found c =
    let n : ℕ = c.self.inside.n in
    let m : ℕ = c.args.grid.now.n in
    let has : ℕ → Bool = is_flagged c.find-known.new.flags in
    let grid : n ≡ m = ap (λ (s : SplitMesh). s.n) c.self.view_is ∙ sym c.requires.grid in
    let flags = with_items_is c.self.inside.flags c.find-known.new.flags (c.find-known.auto.flags ∙ c.deref_mut.ensures.len) in
    let listed : c.list_set.new.list.items ≡ leaves_of m has =
    c.list_set.ensures.listed ∙ ap (λ (l : List Bool). leaves_of n (is_flagged l)) (c.deref.ensures.value ∙ flags)
    ∙ ap (λ k. leaves_of k has) grid in
    (has, listed, c.find-known.ensures.found)

pub worst_within-requires-clause-levels : goal.worst_within-requires-clause-levels
worst_within-requires-clause-levels c =
    let n : ℕ = c.self.inside.n in
    let m : ℕ = c.args.grid.now.n in
    let has : ℕ → Bool = is_flagged c.find-known.new.flags in
    let grid : n ≡ m = ap (λ (s : SplitMesh). s.n) c.self.view_is ∙ sym c.requires.grid in
    let flags = with_items_is c.self.inside.flags c.find-known.new.flags (c.find-known.auto.flags ∙ c.deref_mut.ensures.len) in
    let listed : c.list_set.new.list.items ≡ leaves_of m has =
    c.list_set.ensures.listed ∙ ap (λ (l : List Bool). leaves_of n (is_flagged l)) (c.deref.ensures.value ∙ flags)
    ∙ ap (λ k. leaves_of k has) grid in
    let mesh = listed-leaves m has c.find-known.ensures.found.fit.settled.closed in
    subst (λ (l : List ℕ). All (λ a. level_of a ≤ 2 * m) l) (sym (c.deref-in-None.ensures.value ∙ listed))
    (All-weaker (IsAddress m) (λ a. level_of a ≤ 2 * m) (level-le m) (leaves_of m has) mesh.conforming.addresses)
