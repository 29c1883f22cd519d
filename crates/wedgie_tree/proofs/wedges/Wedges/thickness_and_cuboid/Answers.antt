use Rattle.std.proofs.Common.{◌≡◌, ap, ◌∙◌}
use Rattle.mesh_defs.specs.HeightField.{HeightField}
use Rattle.mesh_defs.specs.Triangle.{corners_of}
use Rattle.mesh_defs.specs.BoundingBox.{BoundingBox, box_of}
use Rattle.wedgie_tree.proofs.BoxLemmas.{box_by, box_by-triangle}
use Rattle.bintree_laws.proofs.CornerLemmas.{IsWithin-largest}
use Rattle.wedgie_tree.proofs.wedges.Wedges.thickness_and_cuboid.Goals as goal

-- the corners are those in the grid that clauses see
corners_is : (c : goal.After-box_around-cuboid) → c.corners-corners.result ≡ corners_of c.args.self.now.n c.args.t
corners_is c = c.corners-corners.ensures.value ∙ ap (λ k. corners_of k c.args.t)
    (c.n.ensures.value ∙ ap (λ (g : HeightField). g.n) c.self.view_is)

-- so the box around them is that of the triangle
box_is : (c : goal.After-box_around-cuboid) →
    box_by c.args.spacing c.corners-corners.result c.wedge_at-wedge.result.low c.wedge_at-wedge.result.high
    ≡ box_of c.args.self.now.n c.args.self.now.heights c.args.spacing c.args.t
box_is c =
    box_by-triangle c.args.self.now.n c.args.self.now.heights c.args.spacing c.args.t c.wedge_at-wedge.result.low
    c.wedge_at-wedge.result.high
    c.corners-corners.result (corners_is c) c.wedge_at-wedge.ensures.low c.wedge_at-wedge.ensures.high

pub box_around-cuboid-requires-clause-within : goal.box_around-cuboid-requires-clause-within
box_around-cuboid-requires-clause-within c = IsWithin-largest c.n.result c.corners-corners.result c.n.ensures.high
    c.corners-corners.ensures.within

pub returns-clause-x0 : goal.returns-clause-x0
returns-clause-x0 c = c.box_around-cuboid.ensures.x0 ∙ ap (λ (b : BoundingBox). b.x0) (box_is c)

pub returns-clause-x1 : goal.returns-clause-x1
returns-clause-x1 c = c.box_around-cuboid.ensures.x1 ∙ ap (λ (b : BoundingBox). b.x1) (box_is c)

pub returns-clause-y0 : goal.returns-clause-y0
returns-clause-y0 c = c.box_around-cuboid.ensures.y0 ∙ ap (λ (b : BoundingBox). b.y0) (box_is c)

pub returns-clause-y1 : goal.returns-clause-y1
returns-clause-y1 c = c.box_around-cuboid.ensures.y1 ∙ ap (λ (b : BoundingBox). b.y1) (box_is c)

pub returns-clause-z0 : goal.returns-clause-z0
returns-clause-z0 c = c.box_around-cuboid.ensures.z0 ∙ ap (λ (b : BoundingBox). b.z0) (box_is c)

pub returns-clause-z1 : goal.returns-clause-z1
returns-clause-z1 c = c.box_around-cuboid.ensures.z1 ∙ ap (λ (b : BoundingBox). b.z1) (box_is c)
