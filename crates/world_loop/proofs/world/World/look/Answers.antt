use Rattle.std.proofs.Common.{refl, subst}
use Rattle.view_priority.specs.Camera.{view_above}
use Rattle.page_priority.specs.Scene.{TerrainState, loaded_in}
use Rattle.view_mesh.specs.Expiry.{IsExpired}
use Rattle.world_loop.specs.World.{WorldState, loaded_of}
use Rattle.world_loop.specs.Turn.{is_turned}
use Rattle.world_loop.proofs.world.World.look.Goals as goal

-- the terrain as it is viewed before
abbrev before : goal.After-put → TerrainState
before c =
    let i = c.self.inside in
    record { store = i.store; view = view_above i.threshold i.camera i.spacing i.planes }

turned : (c : goal.After-put) → IsExpired c.self.inside.mesh c.expire_turned.new.mesh
    (is_turned (loaded_in (before c)) c.args.planes.now)
turned c = c.expire_turned.ensures

pub invariant_of-self : goal.invariant_of-self
invariant_of-self c =
    let i = c.self.inside in
    let planes = c.args.planes.now in
    rw c.put.ensures (c.change_laws.ensures.again _ _ _ _ i.store (view_above i.threshold i.camera i.spacing planes)
    c.expire_turned.new.mesh _ c.self.invariant c.pool-only.ensures.only refl refl refl (turned c) (λ a address out.
    c.change_laws.ensures.planes (loaded_in (before c)) planes a out))

pub returns-clause-mesh : goal.returns-clause-mesh
returns-clause-mesh c =
    subst (λ (w : WorldState). IsExpired w.mesh c.expire_turned.new.mesh (is_turned (loaded_of w) c.args.planes.now))
    c.self.view_is (turned c)
