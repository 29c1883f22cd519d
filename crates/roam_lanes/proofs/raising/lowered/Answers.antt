use Rattle.std.proofs.Common.{◌-◌, ◌+◌, ◌%◌, ℕ, List, replicate, ap, ◌∙◌}
use Rattle.std.specs.Simd.Lanes.{zip2}
use Rattle.roam_lanes.proofs.LaneLemmas.{lowered_lanes}
use Rattle.roam_lanes.proofs.raising.lowered.Goals as goal

pub returns : goal.returns
returns c =
    ap (λ (xs : List ℕ). zip2 (λ (a : ℕ) (b : ℕ). (a + (65536 - b)) % 65536) xs (replicate 8 c.args.by))
    c.greater.ensures
    ∙ lowered_lanes 8 c.args.by c.args.lanes c.fits-lanes.0 c.ranges.by.fits c.fits-lanes.1
