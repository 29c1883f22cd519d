use Rattle.std.proofs.Common.{◌≡◌, ◌≤◌}
use Rattle.std.specs.BinaryHeap.{IsHeap, heap_items, heap_len, heap_capacity}
use Rattle.mesh_laws.specs.Sweep.{is_flagged}
use Rattle.fit_mesh.specs.Waiting.{pair_cmp, AreKept, AreLeft}
use Rattle.fit_mesh.proofs.leaves.next_leaf.Given as goal

abbrev pub invariant-loop-first : goal.invariant-loop-first
invariant-loop-first l = record {
  capacity : heap_capacity l.heap ≡ heap_capacity l.fn.heap;
  len : heap_len l.heap ≤ heap_len l.fn.heap;
  ordered : IsHeap pair_cmp (heap_items l.heap);
  left : AreLeft (is_flagged l.flags) (heap_items l.fn.heap) (heap_items l.heap);
  only : AreKept (heap_items l.heap) (heap_items l.fn.heap);
}

abbrev pub decreases-loop-first : goal.decreases-loop-first
decreases-loop-first l = heap_len l.heap
