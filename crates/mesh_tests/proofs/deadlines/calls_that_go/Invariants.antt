use Rattle.std.proofs.Common.{◌≡◌, length}
use Rattle.mesh_tests.proofs.deadlines.calls_that_go.Given as goal

-- the deadlines keep their slots
abbrev pub invariant-loop-call : goal.invariant-loop-call
invariant-loop-call l = length l.lazy ≡ 3
