use Rattle.std.proofs.Common.{take}
use Rattle.mesh_defs.specs.ClosedSet.{among}
use Rattle.view_mesh.specs.Expiry.{IsExpired}
use Rattle.view_mesh.proofs.listed.expire_listed.Given as goal

abbrev pub invariant-loop-t : goal.invariant-loop-t
invariant-loop-t l = IsExpired l.fn.mesh l.mesh (among (take l.t-index l.triangles))
