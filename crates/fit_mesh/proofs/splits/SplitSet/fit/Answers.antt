-- The leaves of the least settled set.
use Rattle.std.proofs.Common.{◌≡◌, ℕ, Bool, List, length, sym, ◌∙◌, ap, subst, vec_capacity}
use Rattle.std.proofs.lemmas.List.{with_items_is}
use Rattle.mesh_defs.specs.ClosedSet.{leaves_of}
use Rattle.mesh_laws.specs.Sweep.{is_flagged}
use Rattle.fit_mesh.specs.Limit.{tolerance_of, error_within}
use Rattle.fit_mesh.specs.Required.{is_required}
use Rattle.fit_laws.specs.Required.{IsLeastMeshWith}
use Rattle.fit_mesh.specs.Splits.{SplitMesh, IsSplitSet, IsMeshListed}
use Rattle.fit_mesh.proofs.SplitLemmas.{kept-set, listed-same, listed-leaves, mesh-of-set}
use Rattle.fit_mesh.proofs.splits.SplitSet.fit.Goals as goal

pub invariant_of-self : goal.invariant_of-self
invariant_of-self c =
    let n : ℕ = c.self.inside.n in
    let grid : n ≡ c.args.grid.now.n = ap (λ (s : SplitMesh). s.n) c.self.view_is ∙ sym c.requires.grid in
    let flags = with_items_is c.self.inside.flags c.settle_anew.new.flags (c.settle_anew.auto.flags ∙ c.deref_mut.ensures.len) in
    subst (λ (l : List Bool). IsSplitSet n l c.list_set.new.list.items (vec_capacity c.settle_anew.new.log)
    (vec_capacity c.list_set.new.list)) (sym flags)
    (kept-set n c.args.grid.now.n c.self.inside.flags.items c.settle_anew.new.flags c.self.inside.leaves.items
    c.list_set.new.list.items _ _ _ _ c.self.invariant grid
    (c.settle_anew.ensures.flags ∙ ap (λ (l : List Bool). length l) c.deref_mut.ensures.value) c.settle_anew.ensures.fit.settled.closed
    (c.list_set.ensures.listed ∙ ap (λ (l : List Bool). leaves_of n (is_flagged l)) (c.deref.ensures.value ∙ flags))
    c.settle_anew.ensures.capacity c.list_set.ensures.capacity)

pub returns-clause-least : goal.returns-clause-least
returns-clause-least c =
    let n : ℕ = c.self.inside.n in
    let m : ℕ = c.args.grid.now.n in
    let has : ℕ → Bool = is_flagged c.settle_anew.new.flags in
    let grid : n ≡ m = ap (λ (s : SplitMesh). s.n) c.self.view_is ∙ sym c.requires.grid in
    let flags = with_items_is c.self.inside.flags c.settle_anew.new.flags (c.settle_anew.auto.flags ∙ c.deref_mut.ensures.len) in
    let listed = listed-same n m c.deref.result.now c.settle_anew.new.flags c.list_set.new.list.items
    c.list_set.ensures.listed (c.deref.ensures.value ∙ flags) grid in
    let e : ℕ → ℕ = error_within m c.args.grid.now.heights c.args.limit in
    let required : ℕ → Bool = is_required m c.args.required in
    subst (λ (l : List ℕ). IsLeastMeshWith m (tolerance_of c.args.limit) e required l) (sym listed)
    (mesh-of-set m (tolerance_of c.args.limit) e required has c.settle_anew.ensures.fit)

pub returns-clause-listed : goal.returns-clause-listed
returns-clause-listed c =
    let n : ℕ = c.self.inside.n in
    let m : ℕ = c.args.grid.now.n in
    let has : ℕ → Bool = is_flagged c.settle_anew.new.flags in
    let grid : n ≡ m = ap (λ (s : SplitMesh). s.n) c.self.view_is ∙ sym c.requires.grid in
    let flags = with_items_is c.self.inside.flags c.settle_anew.new.flags (c.settle_anew.auto.flags ∙ c.deref_mut.ensures.len) in
    let listed = listed-same n m c.deref.result.now c.settle_anew.new.flags c.list_set.new.list.items
    c.list_set.ensures.listed (c.deref.ensures.value ∙ flags) grid in
    subst (λ (l : List ℕ). IsMeshListed m l) (sym listed) (listed-leaves m has c.settle_anew.ensures.fit.settled.closed)
