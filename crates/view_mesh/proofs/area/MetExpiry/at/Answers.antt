use Rattle.std.proofs.Common.{◌≡◌, true, sym, ◌∙◌, ap, subst}
use Rattle.std.proofs.lemmas.Bool.{both_ways, false_from_ne_true}
use Rattle.mesh_defs.specs.declared.point.Corners.{Corners}
use Rattle.mesh_defs.specs.declared.point.Point.{Point}
use Rattle.mesh_defs.specs.State.{is_in_area}
use Rattle.mesh_defs.specs.Triangle.{corners_of}
use Rattle.bintree_laws.specs.Areas.{IsInRectangle, overlaps}
use Rattle.mesh_laws.proofs.SizeLemmas.{under-true}
use Rattle.view_mesh.proofs.BelowLemmas.{overlaps_is, under_overlaps, within_overlaps}
use Rattle.view_mesh.proofs.area.MetExpiry.at.Goals as goal

pub returns-then-not-itself-clause-itself : goal.returns-then-not-itself-clause-itself
returns-then-not-itself-clause-itself c =
    let m = c.args.self.now in
    overlaps_is c.corners-corners.result m.area c.meets-itself.result m.columns m.rows c.meets-itself.ensures
    ∙ ap (λ (z : Corners). overlaps z m.area) c.corners-corners.ensures.value

pub returns-then-not-itself-clause-nothing : goal.returns-then-not-itself-clause-nothing
returns-then-not-itself-clause-nothing c none a under level =
    let m = c.args.self.now in
    false_from_ne_true (overlaps (corners_of m.n a) m.area) (λ over.
    both_ways (overlaps (corners_of m.n c.args.t) m.area)
    (sym (returns-then-not-itself-clause-itself c) ∙ c.if-not-itself.true)
    (under_overlaps m.n c.args.t a m.area m.columns m.rows (under-true c.args.t a under) over))

pub returns-then-has_all-clause-everything : goal.returns-then-has_all-clause-everything
returns-then-has_all-clause-everything c all a under level =
    let m = c.args.self.now in
    within_overlaps m.n c.args.t a m.area
    (subst (λ (z : Corners). (p : Point) → IsInRectangle z p → is_in_area m.area p.x p.y ≡ true)
    c.corners-corners.ensures.value (c.has_all.ensures c.if-has_all.true)) (under-true c.args.t a under)
