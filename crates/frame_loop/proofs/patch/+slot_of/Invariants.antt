use Rattle.mesh_defs.specs.Triangle.{level_of}
use Rattle.frame_loop.proofs.patch.+slot_of.Given as goal

abbrev pub decreases-slot_of : goal.decreases-slot_of
decreases-slot_of l = level_of l.t
