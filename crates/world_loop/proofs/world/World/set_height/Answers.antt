use Rattle.std.proofs.Common.{◌≡◌, refl, ap}
use Rattle.mesh_defs.specs.Triangle.{corners_of}
use Rattle.bintree_laws.specs.Areas.{overlaps}
use Rattle.wedgie_tree.specs.Edits.{area_between}
use Rattle.page_laws.specs.Pages.{Pages}
use Rattle.view_priority.specs.Camera.{view_above}
use Rattle.view_mesh.specs.Expiry.{IsExpired}
use Rattle.world_loop.proofs.EditLemmas.{met-area, point-apart}
use Rattle.world_loop.proofs.world.World.set_height.Goals as goal

-- the expiry is that of the triangles that meet the area
met : (c : goal.After-expire_area) → IsExpired c.self.inside.mesh c.expire_area.new.mesh
    (λ a. overlaps (corners_of c.self.inside.store.large a) (area_between c.args.p.x c.args.p.y c.args.p.x c.args.p.y))
met c = met-area c.self.invariant.0.n c.new.ensures c.expire_area.ensures

pub invariant_of-self : goal.invariant_of-self
invariant_of-self c =
    let same : c.set_height.new.self ≡ c.self.inside.store = c.if-not-set_height.ensures.none refl in rw same c.self.invariant

pub invariant_of-self-2 : goal.invariant_of-self-2
invariant_of-self-2 c =
    let i = c.self.inside in
    let pages = c.set_height.ensures.pages in
    c.change_laws.ensures.again _ _ _ _ c.set_height.new.self (view_above i.threshold i.camera i.spacing i.planes)
    c.expire_area.new.mesh _ c.self.invariant c.pool-only.ensures.only (ap (λ (w : Pages). w.large) pages) refl refl
    (met c) (λ a address apart. c.change_laws.ensures.heights i.store c.set_height.new.self
    (area_between c.args.p.x c.args.p.y c.args.p.x c.args.p.y) (view_above i.threshold i.camera i.spacing i.planes) pages
    (λ r out. c.set_height.ensures.others r (point-apart c.args.p r _ refl out)) a address.low apart)

pub returns-clause-mesh : goal.returns-clause-mesh
returns-clause-mesh c = λ _. rw (← c.self.view_is) (met c)
