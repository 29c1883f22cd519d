use Rattle.std.proofs.Common.{◌≡◌, ℕ, List, length, sym, ◌∙◌, ap, subst}
use Rattle.mesh_defs.specs.ClosedSet.{leaves_of, among}
use Rattle.mesh_defs.specs.MeshText.{vertices_of}
use Rattle.mesh_laws.specs.Slots.{IsPool, split_set}
use Rattle.roam_mesh.specs.Mesh.{pool_members}
use Rattle.frame_loop.specs.Engine.{EngineState, mesh_seen}
use Rattle.frame_loop.proofs.PoolLemmas.{members_leaves_at}
use Rattle.frame_loop.proofs.engine.Engine.vertices.Goals as goal

pub returns : goal.returns
returns c =
    let e = c.self.inside in
    let valid : IsPool e.mesh.pool.n e.mesh.pool.pairs = c.pool-pool.ensures.valid in
    let set : leaves_of e.outlook.grid.n (split_set e.mesh.pool.pairs)
    ≡ leaves_of e.outlook.grid.n (among (pool_members e.mesh.pool)) =
    ap (λ k. leaves_of k (split_set e.mesh.pool.pairs)) (sym c.self.invariant.0.n)
    ∙ members_leaves_at e.mesh.pool e.outlook.grid.n valid c.self.invariant.0.n in
    subst (λ (z : EngineState). e.vertices ≡ length (vertices_of z.state.grid.n (mesh_seen z))) c.self.view_is
    (c.self.invariant.5
    ∙ ap (λ (l : List ℕ). length (vertices_of e.outlook.grid.n l)) (c.self.invariant.1.leaf_list ∙ set))
