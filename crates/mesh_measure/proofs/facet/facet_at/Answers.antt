-- The corners lie in the largest square, and the heights and the area are those of the definitions.
use Rattle.std.proofs.Common.{◌≡◌, ◌-◌, ◌*◌, ◌^◌, ◌≤◌, ◌∙◌, ℕ, sym, subst, arith}
use Rattle.mesh_defs.specs.declared.point.Corners.{Corners}
use Rattle.mesh_defs.specs.Triangle.{corners_of}
use Rattle.bintree_laws.specs.Corners.{IsWithin}
use Rattle.bintree_laws.proofs.CornerLemmas.{IsWithin-corners_of, IsWithin-largest}
use Rattle.mesh_measure.proofs.AreaLemmas.{area-across, area-power}
use Rattle.mesh_measure.specs.Edges.{HasStraightEdges}
use Rattle.mesh_measure.proofs.EdgeLemmas.{HasStraightEdges-corners_of}
use Rattle.mesh_measure.proofs.facet.facet_at.Goals as goal

-- within the grid, and within the largest
inside : (n t : ℕ) (d : Corners) → d ≡ corners_of n t → IsWithin (2 ^ n) d
inside n t d is = subst (IsWithin (2 ^ n)) (sym is) (IsWithin-corners_of n t)

widely : (n t : ℕ) (d : Corners) → n ≤ 14 → d ≡ corners_of n t → IsWithin (2 ^ 14) d
widely n t d few is = IsWithin-largest n d few (inside n t d is)

pub of-requires-clause-r_in_grid : goal.of-requires-clause-r_in_grid
of-requires-clause-r_in_grid c =
    let few : c.args.grid.now.n ≤ 14 = omega (arith, c.n-level.ensures.high, c.n-level.ensures.value) in
    let w = widely c.args.grid.now.n c.args.t c.args.corners few c.requires.corners in
    record { x = w.apex_x; y = w.apex_y }

pub of-requires-clause-p_in_grid : goal.of-requires-clause-p_in_grid
of-requires-clause-p_in_grid c =
    let few : c.args.grid.now.n ≤ 14 = omega (arith, c.n-level.ensures.high, c.n-level.ensures.value) in
    let w = widely c.args.grid.now.n c.args.t c.args.corners few c.requires.corners in
    record { x = w.v0_x; y = w.v0_y }

pub of-requires-clause-q_in_grid : goal.of-requires-clause-q_in_grid
of-requires-clause-q_in_grid c =
    let few : c.args.grid.now.n ≤ 14 = omega (arith, c.n-level.ensures.high, c.n-level.ensures.value) in
    let w = widely c.args.grid.now.n c.args.t c.args.corners few c.requires.corners in
    record { x = w.v1_x; y = w.v1_y }

pub returns-clause-valid : goal.returns-clause-valid
returns-clause-valid c =
    let n : ℕ = c.args.grid.now.n in
    let d : Corners = c.args.corners in
    let few : n ≤ 14 = omega (arith, c.n-level.ensures.high, c.n-level.ensures.value) in
    record {
      in_grid = few;
      within = widely n c.args.t d few c.requires.corners;
      straight = subst HasStraightEdges (sym c.requires.corners) (HasStraightEdges-corners_of n c.args.t c.requires.level);
      apex = c.height.ensures.value;
      v0 = c.height-2.ensures.value;
      v1 = c.height-3.ensures.value;
      area = c.from.ensures ∙ c.area.ensures.value ∙ area-across d.apex d.v0 d.v1 c.of.result c.of.ensures.value;
      small = let less = c.area.ensures.small in let high = c.of.ensures.high in omega arith;
      power = area-power n c.args.t d c.from.result (2 * c.n.result - c.level.result) c.requires.level c.requires.corners
          (c.from.ensures ∙ c.area.ensures.value ∙ area-across d.apex d.v0 d.v1 c.of.result c.of.ensures.value)
          (let same = c.n.ensures.value in let level = c.level.ensures.value in omega arith);
      few = let high = c.n.ensures.high in omega arith;
    }

pub height-requires : goal.height-requires
height-requires c =
    let w = inside c.args.grid.now.n c.args.t c.args.corners c.requires.corners in
    record { in_columns = w.apex_x; in_rows = w.apex_y }

pub height-requires-2 : goal.height-requires-2
height-requires-2 c =
    let w = inside c.args.grid.now.n c.args.t c.args.corners c.requires.corners in
    record { in_columns = w.v0_x; in_rows = w.v0_y }

pub height-requires-3 : goal.height-requires-3
height-requires-3 c =
    let w = inside c.args.grid.now.n c.args.t c.args.corners c.requires.corners in
    record { in_columns = w.v1_x; in_rows = w.v1_y }
