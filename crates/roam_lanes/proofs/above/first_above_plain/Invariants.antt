use Rattle.std.proofs.Common.{◌≤◌, take, All}
use Rattle.roam_lanes.proofs.above.first_above_plain.Given as goal

-- none of the first i samples is above
abbrev pub invariant-loop-i : goal.invariant-loop-i
invariant-loop-i l = All (λ h. h ≤ l.max) (take l.i l.samples)
