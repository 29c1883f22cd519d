use Rattle.std.proofs.Common.{◌-◌, ◌*◌}
use Rattle.mesh_defs.specs.Triangle.{level_of}
use Rattle.mesh_laws.specs.Slots.{address_at}
use Rattle.view_mesh.proofs.walk.+expire_all_under.Given as goal

abbrev pub decreases-expire_all_under : goal.decreases-expire_all_under
decreases-expire_all_under l = 2 * l.mesh.now.pool.n - level_of (address_at l.mesh.now.pool.pairs l.s.0)
