use Rattle.std.proofs.Common.{◌≡◌, ℕ, sym, ap, ◌∙◌, subst}
use Rattle.std.specs.Prelude.{length}
use Rattle.mesh_defs.specs.ClosedSet.{leaves_of, among}
use Rattle.mesh_laws.proofs.SlotLemmas.{leaves-split_list}
use Rattle.mesh_laws.specs.Slots.{split_set}
use Rattle.roam_mesh.specs.Mesh.{pool_members}
use Rattle.page_laws.specs.Pages.{IsPyramid}
use Rattle.page_store.specs.Store.{pages_of}
use Rattle.page_priority.specs.Scene.{TerrainState, loaded_in}
use Rattle.view_mesh.specs.Advance.{IsAdvanced}
use Rattle.world_loop.specs.World.{sight_of}
use Rattle.world_loop.proofs.FollowLemmas.{scene-followed}
use Rattle.world_loop.proofs.frame.advance_mesh.Goals as goal

pub advance-steps-requires-clause-followed : goal.advance-steps-requires-clause-followed
advance-steps-requires-clause-followed c = (
  sight_of c.args.pace (loaded_in c.new-gauge.result.scene),
  scene-followed c.world_laws.ensures.sound c.new-gauge.result.scene c.args.scene c.new-gauge.result.pace c.args.pace
      c.args.odometer c.args.mesh.now c.new-gauge.ensures.scene c.new-gauge.ensures.pace (subst (λ (s : TerrainState). IsPyramid (pages_of s.store)) c.scene.view_is
      c.large-valid.ensures.valid.table.pyramid) c.requires.n c.requires.kept,
)

pub returns-clause-done : goal.returns-clause-done
returns-clause-done c =
    let Done : TerrainState → ℕ → ℕ → Type 0 = λ s count more.
    IsAdvanced (sight_of c.args.pace (loaded_in s)) c.args.budget c.args.odometer c.args.mesh.now c.advance-steps.new.mesh
    c.advance-steps.result count more in
    let told = c.new-gauge.result.scene in
    subst (λ s. Done s 0 c.count.result) c.new-gauge.ensures.scene
    (subst (λ count. Done told count c.count.result) (c.new-gauge.ensures.meter ∙ c.new.ensures)
    (subst (λ more. Done told c.new-gauge.result.meter more) (sym (c.count.ensures ∙ c.into_meter.ensures))
    (c.advance-steps.ensures.done (sight_of c.args.pace (loaded_in told))
    (scene-followed c.world_laws.ensures.sound told c.args.scene c.new-gauge.result.pace c.args.pace c.args.odometer
    c.args.mesh.now c.new-gauge.ensures.scene c.new-gauge.ensures.pace (subst (λ (s : TerrainState). IsPyramid (pages_of s.store)) c.scene.view_is
    c.large-valid.ensures.valid.table.pyramid) c.requires.n c.requires.kept))))

pub returns-clause-triangles : goal.returns-clause-triangles
returns-clause-triangles c =
    let mesh = c.advance-steps.new.mesh in
    let n : mesh.pool.n ≡ c.args.scene.store.large = (returns-clause-done c).n ∙ c.requires.n in
    subst (λ pool. c.leaf_count.result ≡ length (leaves_of pool.n (split_set pool.pairs))) c.pool.ensures.pool
    c.leaf_count.ensures.leaves
    ∙ ap length (sym (leaves-split_list mesh.pool.n mesh.pool.pairs c.pool.ensures.valid)
    ∙ ap (λ k. leaves_of k (among (pool_members mesh.pool))) n)
