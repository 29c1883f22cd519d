-- Each is at most the greatest side.
use Rattle.mesh_measure.proofs.line.weigh_coordinates.Goals as goal

pub returns-clause-small : goal.returns-clause-small
returns-clause-small c =
    c.weigh.ensures.small 16384 c.requires.apex_in_grid c.requires.v0_in_grid c.requires.v1_in_grid
