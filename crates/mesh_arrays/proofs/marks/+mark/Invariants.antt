use Rattle.mesh_defs.specs.Triangle.{level_of}
use Rattle.mesh_arrays.proofs.marks.+mark.Given as goal

abbrev pub decreases-mark : goal.decreases-mark
decreases-mark l = level_of l.t
