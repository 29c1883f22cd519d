-- What the triangles so far have alone is counted and written.
use Rattle.std.proofs.Common.{◌≤◌, length}
use Rattle.mesh_arrays.specs.Changes.{IsDepthFirst}
use Rattle.mesh_arrays.proofs.ChangeLemmas.{IsAloneSoFar}
use Rattle.mesh_arrays.proofs.changes.list_alone.Given as goal

abbrev pub invariant-loop-t : goal.invariant-loop-t
invariant-loop-t l = record {
  within : l.passed ≤ length l.those;
  few : l.count ≤ l.t-index;
  so_far : IsDepthFirst l.these → IsDepthFirst l.those →
      IsAloneSoFar l.these l.those l.initial.out l.t-index l.passed l.count l.out;
}
