use Rattle.std.proofs.Common.{◌+◌, ◌*◌}
use Rattle.mesh_defs.specs.Triangle.{level_of}
use Rattle.fit_certify.proofs.force.+force.Given as goal

abbrev pub decreases-force : goal.decreases-force
decreases-force l = 2 * level_of l.t + 1

abbrev pub decreases-force_parent : goal.decreases-force_parent
decreases-force_parent l = 2 * level_of l.t
