use Rattle.std.proofs.Common.{All, take}
use Rattle.mesh_defs.specs.Triangle.{IsSplittable}
use Rattle.frame_loop.proofs.patch.are_mendable.Given as goal

-- the triangles so far are splittable
abbrev pub invariant-loop-t : goal.invariant-loop-t
invariant-loop-t l = All (IsSplittable l.n) (take l.t-index l.changed)
