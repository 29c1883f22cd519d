use Rattle.std.proofs.Common.{◌≡◌, take}
use Rattle.mesh_defs.specs.Priority.{worst_of}
use Rattle.fit_laws.specs.Error.{error_of}
use Rattle.fit_mesh.proofs.error.worst_error.Given as goal

abbrev pub invariant-loop-leaf : goal.invariant-loop-leaf
invariant-loop-leaf l = l.worst ≡ worst_of (error_of l.grid.n l.grid.heights) (take l.leaf-index l.leaves)
