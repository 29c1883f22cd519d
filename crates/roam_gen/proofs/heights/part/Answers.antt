use Rattle.std.proofs.Common.{◌+◌, ◌-◌, ◌^◌}
use Rattle.roam_gen.proofs.OctaveLemmas.{octave-part}
use Rattle.roam_gen.proofs.heights.part.Goals as goal

pub returns-clause-value : goal.returns-clause-value
returns-clause-value c =
    λ seed is. octave-part seed c.args.k c.args.x c.args.y c.within.result c.within-2.result c.value-value.result
    (2 ^ (c.args.n - c.args.k + 1)) c.args.cell.now is
    c.within.ensures c.within-2.ensures c.value-value.ensures.value
