use Rattle.std.proofs.Common.{◌≡◌, refl}
use Rattle.mesh_defs.specs.Triangle.{corners_of}
use Rattle.bintree_laws.specs.Areas.{overlaps}
use Rattle.wedgie_tree.specs.Edits.{area_between}
use Rattle.view_priority.specs.Camera.{view_above}
use Rattle.view_mesh.specs.Expiry.{IsExpired}
use Rattle.world_loop.proofs.EditLemmas.{met-area}
use Rattle.world_loop.proofs.world.World.raise.Goals as goal

-- the expiry is that of the triangles that meet the area
met : (c : goal.After-expire_area) → IsExpired c.self.inside.mesh c.expire_area.new.mesh
    (λ a. overlaps (corners_of c.self.inside.store.large a) (area_between c.args.x0 c.args.y0 c.args.x1 c.args.y1))
met c = met-area c.self.invariant.0.n c.new.ensures c.expire_area.ensures

pub invariant_of-self : goal.invariant_of-self
invariant_of-self c =
    let same : c.raise.new.self ≡ c.self.inside.store = c.if-not-raise.ensures.none refl in rw same c.self.invariant

pub invariant_of-self-2 : goal.invariant_of-self-2
invariant_of-self-2 c =
    let i = c.self.inside in
    let r = c.raise.ensures.raised in
    c.change_laws.ensures.again _ _ _ _ c.raise.new.self (view_above i.threshold i.camera i.spacing i.planes)
    c.expire_area.new.mesh _ c.self.invariant c.pool-only.ensures.only r.large refl refl (met c) (λ a address apart.
    c.change_laws.ensures.heights i.store c.raise.new.self (area_between c.args.x0 c.args.y0 c.args.x1 c.args.y1)
    (view_above i.threshold i.camera i.spacing i.planes) r.pages r.others a address.low apart)

pub returns-clause-mesh : goal.returns-clause-mesh
returns-clause-mesh c = λ _. rw (← c.self.view_is) (met c)
