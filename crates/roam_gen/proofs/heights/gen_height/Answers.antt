use Rattle.std.proofs.Common.{◌/◌, ◌^◌, ◌∙◌, sym, ap, arith}
use Rattle.roam_gen.specs.Rows.{cell_at}
use Rattle.roam_gen.proofs.OctaveLemmas.{octaves-none, octave-added}
use Rattle.roam_gen.proofs.heights.gen_height.Goals as goal

pub loop-k-init : goal.loop-k-init
loop-k-init c = sym (octaves-none c.args.n c.args.seed c.args.x c.args.y)

pub overflow_add-height : goal.overflow_add-height
overflow_add-height c =
    let k = c.loop-k.k in
    let part = c.part-height.ensures.value c.args.seed
    (c.at-cell.ensures.value ∙ ap (λ b. cell_at b (c.args.x / 2 ^ k) (c.args.y / 2 ^ k)) c.base_of.ensures) in
    let added = octave-added k c.args.n c.args.seed c.args.x c.args.y c.loop-k.height c.part-height.result
    (omega arith) c.loop-k.invariant part in
    omega (arith, added.1)

pub loop-k-preserved : goal.loop-k-preserved
loop-k-preserved c =
    let k = c.loop-k.k in
    let part = c.part-height.ensures.value c.args.seed
    (c.at-cell.ensures.value ∙ ap (λ b. cell_at b (c.args.x / 2 ^ k) (c.args.y / 2 ^ k)) c.base_of.ensures) in
    (octave-added k c.args.n c.args.seed c.args.x c.args.y c.loop-k.height c.part-height.result
    (omega arith) c.loop-k.invariant part).0
