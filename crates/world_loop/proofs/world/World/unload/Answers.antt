use Rattle.std.proofs.Common.{◌≡◌, refl, sym, ◌∙◌, subst, arith}
use Rattle.mesh_defs.specs.Triangle.{corners_of}
use Rattle.bintree_laws.specs.Areas.{overlaps}
use Rattle.page_laws.specs.Pages.{page_area}
use Rattle.page_store.specs.Store.{pages_of}
use Rattle.page_store.specs.Change.{AreOthersSame}
use Rattle.page_store.specs.Unload.{IsUnloadFault}
use Rattle.view_priority.specs.Camera.{view_above}
use Rattle.view_mesh.specs.Expiry.{IsExpired}
use Rattle.world_loop.specs.World.{WorldState}
use Rattle.world_loop.proofs.EditLemmas.{met-area}
use Rattle.world_loop.proofs.PagingLemmas.{page_area-same, loaded-tile, tile-same}
use Rattle.world_loop.proofs.world.World.unload.Goals as goal

pub area_of-requires-clause-in_square : goal.area_of-requires-clause-in_square
area_of-requires-clause-in_square c =
    let i = c.self.inside in
    tile-same i.store c.unload.new.self c.args.q c.args.square c.unload.ensures.size.0 c.unload.ensures.size.1
    (loaded-tile i.store c.args.q c.args.square c.in-Ok.page c.in-Ok.ensures.page)

-- the expiry is that of the triangles that meet the page's square
met : (c : goal.After-expire_area) → IsExpired c.self.inside.mesh c.expire_area.new.mesh
    (λ a. overlaps (corners_of c.self.inside.store.large a) (page_area (pages_of c.self.inside.store) c.args.q c.args.square))
met c = met-area c.self.invariant.0.n
    (c.area_of.ensures ∙ page_area-same c.self.inside.store c.unload.new.self c.args.q c.args.square c.unload.ensures.size.1)
    c.expire_area.ensures

pub invariant_of-self : goal.invariant_of-self
invariant_of-self c =
    let i = c.self.inside in
    let large = c.unload.ensures.size.0 in
    let n = c.unload.ensures.size.1 in
    let coarse = c.in-Ok.ensures.ok.0 in
    c.change_laws.ensures.again _ _ _ _ c.unload.new.self (view_above i.threshold i.camera i.spacing i.planes)
    c.expire_area.new.mesh _ c.self.invariant c.pool-only.ensures.only large refl refl (met c) (λ a address apart to. sym
    (c.change_laws.ensures.page c.unload.new.self i.store c.args.q c.args.square
    (view_above i.threshold i.camera i.spacing i.planes) (sym large) (sym n)
    (λ r u not. sym (c.in-Ok.ensures.others r u not)) (omega arith) c.large-after.ensures.valid.table.pyramid
    (λ p there. sym (c.in-Ok.ensures.heights p there)) a address.low (rw (large, n) apart) to))

pub invariant_of-self-in-Err : goal.invariant_of-self-in-Err
invariant_of-self-in-Err c =
    let same : c.unload.new.self ≡ c.self.inside.store = c.in-Err.ensures.err in rw same c.self.invariant

pub returns-in-Ok-clause-others : goal.returns-in-Ok-clause-others
returns-in-Ok-clause-others c =
    subst (λ (w : WorldState). AreOthersSame w.store c.unload.new.self c.args.q c.args.square) c.self.view_is
    c.in-Ok.ensures.others

pub returns-in-Ok-clause-mesh : goal.returns-in-Ok-clause-mesh
returns-in-Ok-clause-mesh c = rw (← c.self.view_is) (met c)

pub returns-in-Err-clause-fault : goal.returns-in-Err-clause-fault
returns-in-Err-clause-fault c =
    subst (λ (w : WorldState). IsUnloadFault w.store c.args.q c.args.square c.in-Err.fault)
    c.self.view_is c.in-Err.ensures.fault
