-- The six sums are those of the three edges.
use Rattle.mesh_measure.proofs.AreaLemmas.{product}
use Rattle.mesh_measure.proofs.LineLemmas.{plane-lines}
use Rattle.mesh_measure.proofs.line.plane_of.Goals as goal

pub returns-clause-line : goal.returns-clause-line
returns-clause-line c f y h =
    plane-lines c.args.facet.corners f c.args.facet.apex c.args.facet.v0 c.args.facet.v1
    record {
      high = c.weigh.result;
      low = c.weigh-2.result;
      rise = c.weigh_coordinates.result;
      fall = c.weigh_coordinates-2.result;
      up = c.weigh_coordinates-3.result;
      down = c.weigh_coordinates-4.result;
    }
    h.apex h.v0 h.v1
    c.weigh.ensures.value c.weigh-2.ensures.value c.weigh_coordinates.ensures.value c.weigh_coordinates-2.ensures.value
    c.weigh_coordinates-3.ensures.value c.weigh_coordinates-4.ensures.value y

pub returns-clause-small : goal.returns-clause-small
returns-clause-small c =
    let d = c.args.facet.corners in
    let w = c.requires.in_grid in
    record {
      high = c.weigh.ensures.small 268435456 (product d.v0.x d.v1.y 16384 16384 w.v0_x w.v1_y)
          (product d.v1.x d.apex.y 16384 16384 w.v1_x w.apex_y) (product d.apex.x d.v0.y 16384 16384 w.apex_x w.v0_y);
      low = c.weigh-2.ensures.small 268435456 (product d.v0.y d.v1.x 16384 16384 w.v0_y w.v1_x)
          (product d.v1.y d.apex.x 16384 16384 w.v1_y w.apex_x) (product d.apex.y d.v0.x 16384 16384 w.apex_y w.v0_x);
      rise = c.weigh_coordinates.ensures.small;
      fall = c.weigh_coordinates-2.ensures.small;
      up = c.weigh_coordinates-3.ensures.small;
      down = c.weigh_coordinates-4.ensures.small;
    }
