use Rattle.std.proofs.Common.{◌≡◌, length}
use Rattle.mesh_tests.proofs.heap.calls_that_agree.Given as goal

-- the heap keeps its slots
abbrev pub invariant-loop-place : goal.invariant-loop-place
invariant-loop-place g l = length l.heap ≡ 40
