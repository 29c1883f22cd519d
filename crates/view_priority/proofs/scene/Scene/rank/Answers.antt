use Rattle.std.proofs.Common.{◌≡◌, sym, ap, ◌∙◌, subst, arith}
use Rattle.mesh_defs.specs.HeightField.{HeightField}
use Rattle.mesh_defs.specs.BoundingBox.{box_of, distance_of}
use Rattle.mesh_defs.specs.View.{View, mark_of}
use Rattle.mesh_defs.specs.State.{SceneState, priority_seen}
use Rattle.cull_marks.specs.Cuboid.{as_box}
use Rattle.view_priority.specs.Camera.{view_above}
use Rattle.view_priority.proofs.PriorityLemmas.{priority_seen-by_parts, priority_of-none, as_box-is}
use Rattle.view_priority.proofs.PriorityLemmas.{as_box-within_reach}
use Rattle.view_priority.proofs.NestLemmas.{box_of-ordered}
use Rattle.view_priority.proofs.scene.Scene.rank.Goals as goal

pub returns-then-level-n-clause-value : goal.returns-then-level-n-clause-value
returns-then-level-n-clause-value c =
    let i = c.self.inside in
    let view : View = view_above i.threshold i.camera.now i.spacing i.planes.now in
    subst (λ (s : SceneState). 0 ≡ priority_seen s c.args.t) c.self.view_is
    (sym (priority_of-none i.wedges.now.n i.wedges.now.heights view c.args.t
    (c.wedge_laws.ensures.finest_thickness i.wedges.now.n i.wedges.now.heights c.args.t
    (omega (arith, ap (λ (g : HeightField). g.n) c.grid.ensures.value)))))

pub returns-then-thickness-eq0-clause-value : goal.returns-then-thickness-eq0-clause-value
returns-then-thickness-eq0-clause-value c =
    let i = c.self.inside in
    let view : View = view_above i.threshold i.camera.now i.spacing i.planes.now in
    subst (λ (s : SceneState). 0 ≡ priority_seen s c.args.t) c.self.view_is
    (sym (priority_of-none i.wedges.now.n i.wedges.now.heights view c.args.t
    (sym c.thickness_and_cuboid-thickness.ensures.thickness ∙ c.if-thickness-eq0.true)))

pub distance-requires : goal.distance-requires
distance-requires c =
    let i = c.self.inside in
    let is = c.thickness_and_cuboid-thickness.ensures in
    record {
      reach = as_box-within_reach c.thickness_and_cuboid-thickness.result.1 _
          (as_box-is c.thickness_and_cuboid-thickness.result.1 _ is.x0 is.x1 is.y0 is.y1 is.z0 is.z1)
          (box_of-ordered i.wedges.now.n i.wedges.now.heights i.spacing c.args.t) is.x_from_0
          is.y_from_0 is.z_from_0 is.x_small
          is.y_small is.z_small;
    }

pub returns-clause-value : goal.returns-clause-value
returns-clause-value c =
    let i = c.self.inside in
    let scene : SceneState = record {
      grid = i.wedges.now;
      view = view_above i.threshold i.camera.now i.spacing i.planes.now;
    } in
    let look = c.thickness_and_cuboid-thickness in
    let box : as_box look.result.1 ≡ box_of i.wedges.now.n i.wedges.now.heights i.spacing c.args.t =
    as_box-is look.result.1 _ look.ensures.x0 look.ensures.x1 look.ensures.y0 look.ensures.y1
    look.ensures.z0 look.ensures.z1 in
    subst (λ (s : SceneState). c.seen_priority.result ≡ priority_seen s c.args.t) c.self.view_is
    (priority_seen-by_parts scene c.args.t c.seen_priority.result _ _ _ c.seen_priority.ensures
    (c.mark.ensures ∙ ap (mark_of i.planes.now) box) look.ensures.thickness
    (c.distance.ensures.value ∙ ap (λ b. distance_of b i.camera.now) box))

pub returns-clause-parent : goal.returns-clause-parent
returns-clause-parent c = λ four.
    let s = c.args.self.now in
    let value = returns-clause-value c in
    let le = c.priority_laws.ensures.parent s.grid.n s.grid.heights s.view c.args.t four c.requires.level in
    omega arith
