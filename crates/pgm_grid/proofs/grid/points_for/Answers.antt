use Rattle.std.proofs.Common.{arith}
use Rattle.pgm_grid.proofs.GridLemmas.{points_small}
use Rattle.pgm_grid.proofs.grid.points_for.Goals as goal

pub returns-clause-high : goal.returns-clause-high
returns-clause-high c = rw c.side_for-side.ensures.value (omega (arith, points_small c.args.n c.requires))
