use Rattle.std.proofs.Common.{◌*◌, take}
use Rattle.roam_lanes.proofs.LaneLemmas.{HaveLeast, HaveGreatest}
use Rattle.roam_lanes.proofs.extremes.range_of_blocks.Given as goal

-- the lanes have the least and the greatest of the first k blocks
abbrev pub invariant-loop-k : goal.invariant-loop-k
invariant-loop-k l = HaveLeast (take (8 * l.k) l.samples) l.lows × HaveGreatest (take (8 * l.k) l.samples) l.highs
