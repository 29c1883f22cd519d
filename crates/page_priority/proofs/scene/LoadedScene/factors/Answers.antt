use Rattle.std.proofs.Common.{◌≡◌, ◌≤◌, sym, subst, ap, ◌∙◌, arith}
use Rattle.mesh_defs.specs.BoundingBox.{distance_of}
use Rattle.mesh_defs.specs.Triangle.{corners_of}
use Rattle.mesh_defs.specs.View.{mark_of}
use Rattle.bintree_laws.proofs.CornerLemmas.{IsWithin-largest}
use Rattle.page_laws.specs.declared.wedge.KnownWedge.{KnownWedge}
use Rattle.page_priority.specs.Loaded.{loaded_mark, loaded_distance, loaded_box}
use Rattle.page_priority.specs.Scene.{TerrainState, loaded_in}
use Rattle.page_priority.proofs.PartLemmas.{loaded_box-by_parts}
use Rattle.view_priority.specs.Bounds.{box_over}
use Rattle.page_priority.proofs.scene.LoadedScene.factors.Goals.{After-factors}
use Rattle.page_priority.proofs.scene.LoadedScene.factors.Goals as goal

pub factors-requires-clause-within : goal.factors-requires-clause-within
factors-requires-clause-within c =
    let small = c.large.ensures.valid.table.small in
    let large = c.large.ensures.value in
    IsWithin-largest c.large.result c.corners-corners.result (omega arith) c.corners-corners.ensures.within

pub factors-requires-clause-ordered : goal.factors-requires-clause-ordered
factors-requires-clause-ordered c =
    let s : TerrainState = record { store = c.self.inside.store.now; view = c.self.inside.viewpoint } in
    subst (λ (w : KnownWedge). w.low ≤ w.high) (sym c.in_ok-wedge.ensures.value)
    (c.nesting_laws.ensures.wedge (loaded_in s) c.args.t)

-- the box that is looked at is the triangle's
box-is : (c : After-factors) →
    let s : TerrainState = record { store = c.self.inside.store.now; view = c.self.inside.viewpoint } in
    box_over s.view.spacing c.corners-corners.result c.in_ok-wedge.wedge.low c.in_ok-wedge.wedge.high
    ≡ loaded_box (loaded_in s) c.args.t
box-is c =
    let s : TerrainState = record { store = c.self.inside.store.now; view = c.self.inside.viewpoint } in
    loaded_box-by_parts (loaded_in s) c.args.t c.corners-corners.result c.in_ok-wedge.wedge
    (c.corners-corners.ensures.value ∙ ap (λ k. corners_of k c.args.t) c.large.ensures.value)
    c.in_ok-wedge.ensures.value

pub returns-clause-mark : goal.returns-clause-mark
returns-clause-mark c =
    let s : TerrainState = record { store = c.self.inside.store.now; view = c.self.inside.viewpoint } in
    subst (λ (s : TerrainState). c.factors.result.mark ≡ loaded_mark (loaded_in s) s.view.planes c.args.t)
    c.self.view_is
    (c.factors.ensures.mark ∙ ap (mark_of s.view.planes) (box-is (goal.at.returns-clause-mark c).After-factors))

pub returns-clause-distance : goal.returns-clause-distance
returns-clause-distance c =
    let s : TerrainState = record { store = c.self.inside.store.now; view = c.self.inside.viewpoint } in
    subst (λ (s : TerrainState). c.factors.result.distance ≡ loaded_distance (loaded_in s) c.args.t) c.self.view_is
    (c.factors.ensures.distance
    ∙ ap (λ box. distance_of box s.view.camera) (box-is (goal.at.returns-clause-distance c).After-factors))
