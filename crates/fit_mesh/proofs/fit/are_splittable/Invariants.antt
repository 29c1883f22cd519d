use Rattle.std.proofs.Common.{All, take}
use Rattle.mesh_defs.specs.Triangle.{IsSplittable}
use Rattle.fit_mesh.proofs.fit.are_splittable.Given as goal

abbrev pub invariant-loop-t : goal.invariant-loop-t
invariant-loop-t l = All (λ a. IsSplittable l.n a) (take l.t-index l.triangles)
