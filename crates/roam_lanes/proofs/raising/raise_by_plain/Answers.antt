use Rattle.std.proofs.Common.{◌+◌, min, ℕ, arith}
use Rattle.roam_lanes.proofs.LaneLemmas.{map_sample}
use Rattle.roam_lanes.proofs.raising.raise_by_plain.Goals as goal

pub loop-i-preserved : goal.loop-i-preserved
loop-i-preserved c =
    map_sample (λ (h : ℕ). min (h + c.args.by) c.args.maxval) c.loop-i.row c.args.row.now c.loop-i.i _ (omega arith)
    (omega arith) c.loop-i.invariant.0 c.loop-i.invariant.1 (omega arith)
