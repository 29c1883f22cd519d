use Rattle.std.proofs.Common.{◌≡◌, take}
use Rattle.fit_laws.specs.PlaneHeight.{deviation_of}
use Rattle.mesh_measure.proofs.mesh.deviation.Given as goal

abbrev pub invariant-loop-t : goal.invariant-loop-t
invariant-loop-t l = l.most ≡ deviation_of l.fn.w.n l.fn.w.heights (take l.t-index l.fn.leaves)
