use Rattle.std.proofs.Common.{◌-◌, ◌*◌}
use Rattle.mesh_defs.specs.Triangle.{level_of}
use Rattle.wedgie_tree.proofs.table.+fill_under.Given as goal

abbrev pub decreases-fill_under : goal.decreases-fill_under
decreases-fill_under l = 2 * l.grid.now.n - level_of l.tri
