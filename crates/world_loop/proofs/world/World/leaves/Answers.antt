use Rattle.std.proofs.Common.{sym, ap, ◌∙◌}
use Rattle.mesh_defs.specs.ClosedSet.{leaves_of, among}
use Rattle.mesh_laws.specs.Slots.{split_set}
use Rattle.mesh_laws.proofs.SlotLemmas.{leaves-split_list}
use Rattle.roam_mesh.specs.Mesh.{pool_members}
use Rattle.world_loop.specs.World.{mesh_seen}
use Rattle.world_loop.proofs.world.World.leaves.Goals as goal

pub returns : goal.returns
returns c =
    let pool = c.self.inside.mesh.pool in
    let n = c.self.invariant.0.n in
    record {
      leaves = c.leaves.ensures ∙ c.self.invariant.1 ∙ ap (λ k. leaves_of k (split_set pool.pairs)) (sym n)
          ∙ sym (leaves-split_list pool.n pool.pairs c.pool-pool.ensures.valid)
          ∙ ap (λ k. leaves_of k (among (pool_members pool))) n ∙ ap mesh_seen c.self.view_is;
    }
