use Rattle.std.proofs.Common.{◌*◌, ◌≤◌, take, All}
use Rattle.roam_lanes.proofs.above.blocks_within.Given as goal

-- no sample of the first k blocks is above
abbrev pub invariant-loop-k : goal.invariant-loop-k
invariant-loop-k l = All (λ h. h ≤ l.max) (take (16 * l.k) l.samples)
