use Rattle.std.proofs.Common.{◌∙◌, sym, arith}
use Rattle.roam_gen.proofs.OctaveLemmas.{octaves-none}
use Rattle.roam_gen.proofs.heights.fill_row.Goals as goal

pub loop-k-init : goal.loop-k-init
loop-k-init c = λ x below. c.clear.ensures x (omega arith) ∙ sym (octaves-none c.args.n c.args.seed x c.args.y)
