use Rattle.std.proofs.Common.{◌+◌, ◌-◌, ◌*◌, ◌≡◌, ◌≤◌, length, vec_capacity}
use Rattle.std.specs.BinaryHeap.{heap_items, heap_len, heap_capacity}
use Rattle.mesh_laws.specs.Sweep.{is_flagged}
use Rattle.fit_laws.specs.Error.{error_of}
use Rattle.fit_mesh.specs.Log.{HasLog}
use Rattle.fit_mesh.specs.Waiting.{IsWaiting}
use Rattle.fit_mesh.specs.Grown.{IsNeededBelow, IsBest}
use Rattle.fit_mesh.proofs.grow.refine.Given as goal

abbrev pub invariant-loop-low : goal.invariant-loop-low
invariant-loop-low l = record {
  capacity : heap_capacity l.fn.heap ≤ heap_capacity l.heap;
  len : heap_len l.heap ≤ 2 * length l.log.items + 2;
  room : vec_capacity l.log ≡ vec_capacity l.fn.log;
  grown : HasLog l.grid.n l.flags l.log.items;
  waiting : IsWaiting l.grid.n (error_of l.grid.n l.grid.heights) (is_flagged l.flags) (heap_items l.heap);
  needed : IsNeededBelow l.grid.n (error_of l.grid.n l.grid.heights) l.low (is_flagged l.flags);
  best : IsBest l.grid.n (error_of l.grid.n l.grid.heights) l.tolerance l.budget l.low l.log.items l.mark;
  few : length l.log.items + 2 ≤ l.budget;
}

abbrev pub decreases-loop-low : goal.decreases-loop-low
decreases-loop-low l = l.low + (vec_capacity l.fn.log - length l.log.items)
