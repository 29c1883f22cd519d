-- The indices of the triangles so far stand in the first places.
use Rattle.std.proofs.Common.{◌≡◌, ◌*◌, ◌++◌, take, drop}
use Rattle.mesh_arrays.specs.Indices.{indices_of}
use Rattle.mesh_arrays.proofs.indices.write_indices.Given as goal

abbrev pub invariant-loop-t : goal.invariant-loop-t
invariant-loop-t l = record {
  place : l.at ≡ 3 * l.t-index;
  so_far : l.out ≡ indices_of l.n (take l.t-index l.triangles) ++ drop l.at l.initial.out;
}
