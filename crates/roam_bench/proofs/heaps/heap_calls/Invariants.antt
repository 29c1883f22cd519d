use Rattle.std.proofs.Common.{◌≡◌, length}
use Rattle.roam_bench.proofs.heaps.heap_calls.Given as goal

-- the heap keeps its slots
abbrev pub invariant-loop : goal.invariant-loop
invariant-loop l = length l.heap ≡ 262144
