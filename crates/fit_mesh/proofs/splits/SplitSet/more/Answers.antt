-- The leaves of the set that went on.
use Rattle.std.proofs.Common.{◌≡◌, ℕ, Bool, List, length, sym, ◌∙◌, ap, subst, vec_capacity}
use Rattle.std.proofs.lemmas.List.{with_items_is}
use Rattle.mesh_defs.specs.ClosedSet.{IsClosed, leaves_of}
use Rattle.mesh_laws.specs.Sweep.{is_flagged}
use Rattle.fit_mesh.specs.Limit.{tolerance_of, error_within}
use Rattle.fit_mesh.specs.Required.{is_required, or_required}
use Rattle.fit_mesh.specs.Splits.{SplitMesh, IsSplitSet, IsMeshListed}
use Rattle.fit_mesh.proofs.SplitLemmas.{kept-set, listed-same, listed-leaves, more-grown, more-least}
use Rattle.fit_mesh.proofs.splits.SplitSet.more.Goals as goal

pub invariant_of-self : goal.invariant_of-self
invariant_of-self c =
    let n : ℕ = c.self.inside.n in
    let grid : n ≡ c.args.grid.now.n = ap (λ (s : SplitMesh). s.n) c.self.view_is ∙ sym c.requires.grid in
    let flags = with_items_is c.self.inside.flags c.settle_more.new.flags (c.settle_more.auto.flags ∙ c.deref_mut.ensures.len) in
    subst (λ (l : List Bool). IsSplitSet n l c.list_set.new.list.items (vec_capacity c.settle_more.new.log)
    (vec_capacity c.list_set.new.list)) (sym flags)
    (kept-set n c.args.grid.now.n c.self.inside.flags.items c.settle_more.new.flags c.self.inside.leaves.items
    c.list_set.new.list.items _ _ _ _ c.self.invariant grid
    (c.settle_more.ensures.flags ∙ ap (λ (l : List Bool). length l) c.deref_mut.ensures.value) c.settle_more.ensures.grown.closed
    (c.list_set.ensures.listed ∙ ap (λ (l : List Bool). leaves_of n (is_flagged l)) (c.deref.ensures.value ∙ flags))
    c.settle_more.ensures.capacity c.list_set.ensures.capacity)

pub returns-clause-least : goal.returns-clause-least
returns-clause-least c earlier =
    let n : ℕ = c.self.inside.n in
    let m : ℕ = c.args.grid.now.n in
    let has : ℕ → Bool = is_flagged c.settle_more.new.flags in
    let grid : n ≡ m = ap (λ (s : SplitMesh). s.n) c.self.view_is ∙ sym c.requires.grid in
    let flags = with_items_is c.self.inside.flags c.settle_more.new.flags (c.settle_more.auto.flags ∙ c.deref_mut.ensures.len) in
    let listed = listed-same n m c.deref.result.now c.settle_more.new.flags c.list_set.new.list.items
    c.list_set.ensures.listed (c.deref.ensures.value ∙ flags) grid in
    let old : ℕ → Bool = is_flagged c.deref_mut.result.now in
    let closed : IsClosed m old = subst (λ k. IsClosed k old) grid
    (subst (λ (l : List Bool). IsClosed n (is_flagged l)) (sym c.deref_mut.ensures.value) c.self.invariant.closed) in
    let was : c.args.self.now.leaves ≡ leaves_of m old = sym (ap (λ (s : SplitMesh). s.leaves) c.self.view_is)
    ∙ c.self.invariant.listed ∙ ap (λ (l : List Bool). leaves_of n (is_flagged l)) (sym c.deref_mut.ensures.value)
    ∙ ap (λ k. leaves_of k old) grid in
    let e : ℕ → ℕ = error_within m c.args.grid.now.heights c.args.limit in
    more-least m old has c.args.self.now.leaves c.list_set.new.list.items closed c.settle_more.ensures.grown.closed was listed
    (tolerance_of c.args.limit) e earlier (or_required m earlier c.args.required) (c.settle_more.ensures.fit earlier)

pub returns-clause-grown : goal.returns-clause-grown
returns-clause-grown c =
    let n : ℕ = c.self.inside.n in
    let m : ℕ = c.args.grid.now.n in
    let has : ℕ → Bool = is_flagged c.settle_more.new.flags in
    let grid : n ≡ m = ap (λ (s : SplitMesh). s.n) c.self.view_is ∙ sym c.requires.grid in
    let flags = with_items_is c.self.inside.flags c.settle_more.new.flags (c.settle_more.auto.flags ∙ c.deref_mut.ensures.len) in
    let listed = listed-same n m c.deref.result.now c.settle_more.new.flags c.list_set.new.list.items
    c.list_set.ensures.listed (c.deref.ensures.value ∙ flags) grid in
    let old : ℕ → Bool = is_flagged c.deref_mut.result.now in
    let closed : IsClosed m old = subst (λ k. IsClosed k old) grid
    (subst (λ (l : List Bool). IsClosed n (is_flagged l)) (sym c.deref_mut.ensures.value) c.self.invariant.closed) in
    let was : c.args.self.now.leaves ≡ leaves_of m old = sym (ap (λ (s : SplitMesh). s.leaves) c.self.view_is)
    ∙ c.self.invariant.listed ∙ ap (λ (l : List Bool). leaves_of n (is_flagged l)) (sym c.deref_mut.ensures.value)
    ∙ ap (λ k. leaves_of k old) grid in
    more-grown m old has c.args.self.now.leaves c.list_set.new.list.items closed c.settle_more.ensures.grown.closed was
    listed (tolerance_of c.args.limit) (error_within m c.args.grid.now.heights c.args.limit)
    (is_required m c.args.required) c.settle_more.ensures.grown

pub returns-clause-listed : goal.returns-clause-listed
returns-clause-listed c =
    let n : ℕ = c.self.inside.n in
    let m : ℕ = c.args.grid.now.n in
    let has : ℕ → Bool = is_flagged c.settle_more.new.flags in
    let grid : n ≡ m = ap (λ (s : SplitMesh). s.n) c.self.view_is ∙ sym c.requires.grid in
    let flags = with_items_is c.self.inside.flags c.settle_more.new.flags (c.settle_more.auto.flags ∙ c.deref_mut.ensures.len) in
    let listed = listed-same n m c.deref.result.now c.settle_more.new.flags c.list_set.new.list.items
    c.list_set.ensures.listed (c.deref.ensures.value ∙ flags) grid in
    subst (λ (l : List ℕ). IsMeshListed m l) (sym listed) (listed-leaves m has c.settle_more.ensures.grown.closed)
