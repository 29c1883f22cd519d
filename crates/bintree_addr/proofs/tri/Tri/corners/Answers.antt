use Rattle.std.proofs.Common.{◌-◌, ◌/◌, ◌^◌, ◌∙◌, ap, arith}
use Rattle.mesh_defs.specs.Triangle.{corners_of}
use Rattle.bintree_laws.proofs.CornerLemmas.{IsWithin-reached, IsWithin-corners_at, corners_at-start, corners_at-next}
use Rattle.bintree_laws.proofs.CornerLemmas.{corners_at-end}
use Rattle.bintree_addr.proofs.tri.Tri.corners.Goals as goal

pub child_corners-corners-requires : goal.child_corners-corners-requires
child_corners-corners-requires c = record {
  within = IsWithin-reached
      (c.level-level.result - c.loop-below.below) c.args.n
      (c.self.inside.number / 2 ^ c.loop-below.below) c.loop-below.corners (omega arith) c.loop-below.invariant;
}

pub loop-below-init : goal.loop-below-init
loop-below-init c = corners_at-start c.level-level.result c.args.n c.self.inside.number c.half_square-corners.result
    (omega arith) c.half_square-corners.ensures.value

pub loop-below-preserved : goal.loop-below-preserved
loop-below-preserved c =
    corners_at-next c.level-level.result c.loop-below.below
    (2 ^ c.args.n) c.self.inside.number c.loop-below.corners c.child_corners-corners.result (omega arith)
    (omega arith) c.loop-below.invariant c.child_corners-corners.ensures

pub returns-clause-value : goal.returns-clause-value
returns-clause-value c =
    c.loop-below.invariant ∙ corners_at-end c.level-level.result c.loop-below.below c.args.n c.self.inside.number
    (omega arith) (rw c.self.view_is c.level-level.ensures.value) ∙ ap (corners_of c.args.n) c.self.view_is

pub returns-clause-within : goal.returns-clause-within
returns-clause-within c =
    rw c.loop-below.invariant (IsWithin-corners_at (c.level-level.result - c.loop-below.below) (2 ^ c.args.n)
    (c.self.inside.number / 2 ^ c.loop-below.below))
