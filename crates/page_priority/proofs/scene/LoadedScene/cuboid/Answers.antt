use Rattle.std.proofs.Common.{◌≡◌, ◌≤◌, ap, sym, subst, ◌∙◌, arith}
use Rattle.mesh_defs.specs.Triangle.{corners_of}
use Rattle.bintree_laws.proofs.CornerLemmas.{IsWithin-largest}
use Rattle.cull_marks.specs.Cuboid.{as_box}
use Rattle.page_laws.specs.declared.wedge.KnownWedge.{KnownWedge}
use Rattle.page_priority.specs.Loaded.{loaded_box}
use Rattle.page_priority.specs.Scene.{TerrainState, loaded_in}
use Rattle.page_priority.proofs.PartLemmas.{loaded_box-by_parts}
use Rattle.page_priority.proofs.scene.LoadedScene.cuboid.Goals as goal

pub cuboid-requires-clause-within : goal.cuboid-requires-clause-within
cuboid-requires-clause-within c =
    let small = c.large.ensures.valid.table.small in
    let large = c.large.ensures.value in
    IsWithin-largest c.large.result c.corners-corners.result (omega arith) c.corners-corners.ensures.within

pub cuboid-requires-clause-ordered : goal.cuboid-requires-clause-ordered
cuboid-requires-clause-ordered c =
    let s : TerrainState = record { store = c.self.inside.store.now; view = c.self.inside.viewpoint } in
    subst (λ (w : KnownWedge). w.low ≤ w.high) (sym c.in_ok-wedge.ensures.value)
    (c.nesting_laws.ensures.wedge (loaded_in s) c.args.t)

pub returns-clause-value : goal.returns-clause-value
returns-clause-value c =
    let s : TerrainState = record { store = c.self.inside.store.now; view = c.self.inside.viewpoint } in
    subst (λ (s : TerrainState). as_box c.cuboid.result ≡ loaded_box (loaded_in s) c.args.t) c.self.view_is
    (c.cuboid.ensures.value ∙ loaded_box-by_parts (loaded_in s) c.args.t c.corners-corners.result c.in_ok-wedge.wedge
    (c.corners-corners.ensures.value ∙ ap (λ k. corners_of k c.args.t) c.large.ensures.value)
    c.in_ok-wedge.ensures.value)
