use Rattle.std.proofs.Common.{◌≡◌, ◌+◌, ◌-◌, ◌∙◌, ℕ, take, sym, ap, arith}
use Rattle.obj_write.specs.Table.{block_end}
use Rattle.obj_write.specs.Patch.{last_number}
use Rattle.obj_write.proofs.PatchLemmas.{last-block}
use Rattle.obj_write.proofs.patch.last_before.Goals.{then-used-at+else-last-ne0, else-used-at}
use Rattle.obj_write.proofs.patch.last_before.Goals as goal

pub loop-back-preserved : goal.loop-back-preserved
loop-back-preserved c =
    let xs = c.args.numbers.now in
    let back = c.loop-back.back in
    let at : ℕ = c.args.block - 1 - back in
    let here : c.args.block - (back + 1) ≡ at = omega arith in
    let next : at + 1 ≡ c.args.block - back = omega arith in
    let so_far = c.loop-back.invariant in
    let last = λ (k : ℕ). last_number 0 (take (block_end xs k) xs) in
    elim c.if-used-at.branch [
      | then-used-at+else-last-ne0 w ↦ ap last here
          ∙ sym (w.last_in_block-last.ensures.none w.if-last-ne0.false) ∙ ap last next ∙ so_far
      | else-used-at w ↦ ap last here ∙ sym (last-block xs c.args.used.now at c.requires.flagged w.if-used-at.false)
          ∙ ap last next ∙ so_far
    ]
