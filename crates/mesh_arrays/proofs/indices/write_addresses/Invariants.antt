-- The addresses of the triangles so far stand in the first places.
use Rattle.std.proofs.Common.{◌≡◌, ◌++◌, take, drop}
use Rattle.mesh_arrays.proofs.indices.write_addresses.Given as goal

abbrev pub invariant-loop-k : goal.invariant-loop-k
invariant-loop-k l = l.out ≡ take l.k l.triangles ++ drop l.k l.initial.out
