-- Each child's corners are those of the definition.
use Rattle.std.proofs.Common.{◌≡◌, ◌≤◌, ◌∙◌, ◌^◌, ℕ, sym, ap, subst, arith}
use Rattle.mesh_defs.specs.declared.point.Corners.{Corners}
use Rattle.mesh_defs.specs.Triangle.{child, corners_of}
use Rattle.bintree_laws.specs.Corners.{IsWithin}
use Rattle.bintree_laws.proofs.CornerLemmas.{corners_of-left, corners_of-right, IsWithin-corners_of, IsWithin-largest}
use Rattle.fit_mesh.proofs.pair.corners_below.Goals as goal

-- the corners of a triangle of the grid lie in the largest square
within : (n t : ℕ) (d : Corners) → n ≤ 14 → d ≡ corners_of n t → IsWithin (2 ^ 14) d
within n t d few is = IsWithin-largest n d few (subst (IsWithin (2 ^ n)) (sym is) (IsWithin-corners_of n t))

pub child_corners-requires : goal.child_corners-requires
child_corners-requires c = record {
  within = within c.args.grid.now.n c.args.t c.corners_in-corners.result
      (omega (arith, c.n-level.ensures.high, c.n-level.ensures.value)) c.corners_in-corners.ensures;
}

pub child_corners-requires-2 : goal.child_corners-requires-2
child_corners-requires-2 c = record {
  within = within c.args.grid.now.n c.args.t c.corners_in-corners.result
      (omega (arith, c.n-level.ensures.high, c.n-level.ensures.value)) c.corners_in-corners.ensures;
}

pub returns-clause-left : goal.returns-clause-left
returns-clause-left c =
    c.child_corners.ensures ∙ ap (λ (d : Corners). child 0 d) c.corners_in-corners.ensures
    ∙ sym (corners_of-left c.args.grid.now.n c.args.t c.requires.splittable.low)

pub returns-clause-right : goal.returns-clause-right
returns-clause-right c =
    c.child_corners-2.ensures ∙ ap (λ (d : Corners). child 1 d) c.corners_in-corners.ensures
    ∙ sym (corners_of-right c.args.grid.now.n c.args.t c.requires.splittable.low)
