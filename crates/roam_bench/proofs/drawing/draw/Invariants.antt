use Rattle.engine_uses.specs.Step.{IsInStep}
use Rattle.roam_bench.proofs.drawing.draw.Given as goal

-- the buffer is in step after each frame
abbrev pub invariant-loop-k : goal.invariant-loop-k
invariant-loop-k l = IsInStep l.engine l.buffer
