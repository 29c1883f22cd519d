use Rattle.std.proofs.Common.{ap, ◌∙◌, arith}
use Rattle.mesh_defs.specs.View.{View}
use Rattle.view_priority.specs.Bounds.{box_over}
use Rattle.page_priority.proofs.CuboidLemmas.{HasEnds, as_box-over, cuboid-within}
use Rattle.page_priority.proofs.viewpoint.Viewpoint.cuboid.Goals as goal

pub returns-clause-value : goal.returns-clause-value
returns-clause-value c =
    let is = c.box_around.ensures in
    let ends : HasEnds c.box_around.result c.self.inside.spacing c.args.corners c.args.low c.args.high =
    record { x0 = is.x0; x1 = is.x1; y0 = is.y0; y1 = is.y1; z0 = is.z0; z1 = is.z1 } in
    as_box-over c.box_around.result c.self.inside.spacing c.args.corners c.args.low c.args.high ends
    ∙ ap (λ (v : View). box_over v.spacing c.args.corners c.args.low c.args.high) c.self.view_is

pub returns-clause-reach : goal.returns-clause-reach
returns-clause-reach c =
    let is = c.box_around.ensures in
    let fits = c.ranges.high.fits in
    let ends : HasEnds c.box_around.result c.self.inside.spacing c.args.corners c.args.low c.args.high =
    record { x0 = is.x0; x1 = is.x1; y0 = is.y0; y1 = is.y1; z0 = is.z0; z1 = is.z1 } in
    cuboid-within c.box_around.result c.self.inside.spacing c.args.corners c.args.low c.args.high ends
    is.x_small is.y_small c.requires.ordered (omega arith)
