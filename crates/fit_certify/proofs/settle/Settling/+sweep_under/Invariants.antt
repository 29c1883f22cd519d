use Rattle.std.proofs.Common.{◌-◌, ◌*◌}
use Rattle.mesh_defs.specs.Triangle.{level_of}
use Rattle.fit_certify.proofs.settle.Settling.+sweep_under.Given as goal

abbrev pub decreases-sweep_under : goal.decreases-sweep_under
decreases-sweep_under l = 2 * l.bounds.now.grid.now.n - level_of l.t
