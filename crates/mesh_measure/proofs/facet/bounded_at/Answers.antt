-- The rectangle lies in the grid, as the corners do.
use Rattle.mesh_measure.proofs.ErrorLemmas.{bounds-in_grid}
use Rattle.mesh_measure.proofs.facet.bounded_at.Goals as goal

pub returns-clause-right_in_grid : goal.returns-clause-right_in_grid
returns-clause-right_in_grid c =
    (bounds-in_grid c.args.grid.now.n c.args.t c.facet_at-facet.result.corners c.bounds_of-bounds.result
    c.facet_at-facet.ensures.corners c.bounds_of-bounds.ensures).0

pub returns-clause-high_in_grid : goal.returns-clause-high_in_grid
returns-clause-high_in_grid c =
    (bounds-in_grid c.args.grid.now.n c.args.t c.facet_at-facet.result.corners c.bounds_of-bounds.result
    c.facet_at-facet.ensures.corners c.bounds_of-bounds.ensures).1
