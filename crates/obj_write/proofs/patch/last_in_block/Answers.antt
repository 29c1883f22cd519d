use Rattle.std.proofs.Common.{◌<◌, ◌∙◌, length, sym, arith}
use Rattle.obj_write.proofs.PatchLemmas.{last-none, last-some}
use Rattle.obj_write.proofs.patch.last_in_block.Goals.{then-numbers-k-ne0, else-numbers-k-ne0}
use Rattle.obj_write.proofs.patch.last_in_block.Goals as goal

pub loop-k-preserved : goal.loop-k-preserved
loop-k-preserved c =
    let xs = c.args.numbers.now in
    let k = c.loop-k.k in
    let so_far = c.loop-k.invariant in
    let below : k < length xs = omega arith in
    elim c.if-numbers-k-ne0.branch [
      | then-numbers-k-ne0 w ↦ record {
        none = λ e. absurd (w.if-numbers-k-ne0.true (sym w.last-is ∙ e));
        some = λ _. last-some xs k below w.if-numbers-k-ne0.true ∙ sym w.last-is;
      }
      | else-numbers-k-ne0 w ↦ record {
        none = λ e. last-none xs k below w.if-numbers-k-ne0.false ∙ so_far.none (sym w.last-is ∙ e);
        some =
            λ e. last-none xs k below w.if-numbers-k-ne0.false ∙ so_far.some (λ z. e (w.last-is ∙ z)) ∙ sym w.last-is;
      }
    ]
