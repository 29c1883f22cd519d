-- The numbers are those of the list of leaves, which is that of the pool.
use Rattle.std.proofs.Common.{◌≡◌, ◌∙◌, ℕ, List, sym, ap, subst}
use Rattle.mesh_defs.specs.ClosedSet.{leaves_of, among}
use Rattle.mesh_laws.specs.Slots.{IsPool, split_set}
use Rattle.roam_mesh.specs.Mesh.{pool_members}
use Rattle.obj_write.specs.Numbers.{numbers_of}
use Rattle.frame_loop.specs.Engine.{EngineState, mesh_seen}
use Rattle.frame_loop.proofs.PoolLemmas.{members_leaves_at}
use Rattle.frame_loop.proofs.engine.Engine.table.Goals as goal

pub returns : goal.returns
returns c =
    let e = c.self.inside in
    let n : ℕ = e.outlook.grid.n in
    let valid : IsPool e.mesh.pool.n e.mesh.pool.pairs =
    c.pool-pool.ensures.valid in
    let set : leaves_of n (split_set e.mesh.pool.pairs) ≡ leaves_of n (among (pool_members e.mesh.pool)) =
    ap (λ k. leaves_of k (split_set e.mesh.pool.pairs)) (sym c.self.invariant.0.n)
    ∙ members_leaves_at e.mesh.pool n valid c.self.invariant.0.n in
    subst (λ (z : EngineState). e.numbers ≡ numbers_of z.state.grid.n (mesh_seen z)) c.self.view_is
    (c.self.invariant.1.vertex_numbers ∙ ap (λ (l : List ℕ). numbers_of n l) (c.self.invariant.1.leaf_list ∙ set))
