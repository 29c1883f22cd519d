use Rattle.std.proofs.Common.{◌+◌, ◌-◌, ◌*◌, ◌≤◌, drop, length}
use Rattle.std.specs.BinaryHeap.{heap_items, heap_len, heap_capacity}
use Rattle.mesh_laws.specs.Sweep.{is_flagged}
use Rattle.fit_laws.specs.Error.{error_of}
use Rattle.fit_mesh.specs.Waiting.{IsPending}
use Rattle.fit_mesh.proofs.grow.push_children.Given as goal

abbrev pub invariant-loop-place : goal.invariant-loop-place
invariant-loop-place l = record {
  capacity : heap_capacity l.fn.heap ≤ heap_capacity l.heap;
  len : heap_len l.heap + 2 * (length l.log - l.place) ≤ heap_len l.fn.heap + 2 * (length l.log - l.fn.before);
  pending : IsPending l.grid.n (error_of l.grid.n l.grid.heights) (is_flagged l.flags)
      (drop l.place l.log) (heap_items l.heap);
}
