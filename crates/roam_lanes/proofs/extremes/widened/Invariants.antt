use Rattle.std.proofs.Common.{◌∷◌, take}
use Rattle.roam_lanes.specs.Extremes.{IsLeast, IsGreatest}
use Rattle.roam_lanes.proofs.extremes.widened.Given as goal

-- the least and the greatest of the start and the first i samples
abbrev pub invariant-loop-i : goal.invariant-loop-i
invariant-loop-i l = IsLeast (l.low ∷ take l.i l.samples) l.least × IsGreatest (l.high ∷ take l.i l.samples) l.greatest
