use Rattle.std.proofs.Common.{◌-◌}
use Rattle.mesh_defs.specs.Triangle.{level_of}
use Rattle.strip_order.proofs.order.+arrange.Given as goal

abbrev pub decreases-arrange : goal.decreases-arrange
decreases-arrange l = 28 - level_of l.t
