use Rattle.std.proofs.Common.{◌-◌, ◌*◌}
use Rattle.mesh_defs.specs.Triangle.{level_of}
use Rattle.wedgie_tree.proofs.table.+mend_under.Given as goal

abbrev pub decreases-mend_under : goal.decreases-mend_under
decreases-mend_under l = 2 * l.grid.now.n - level_of l.tri
