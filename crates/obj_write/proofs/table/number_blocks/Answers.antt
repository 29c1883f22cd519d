use Rattle.std.proofs.Common.{◌≡◌, ◌∙◌, ◌+◌, ◌*◌, min, sym, ap, subst}
use Rattle.obj_write.specs.Table.{IsCounted, block_end}
use Rattle.obj_write.proofs.TableLemmas.{counted-block, flagged-other}
use Rattle.obj_write.proofs.table.number_blocks.Goals.{then-used-block, else-used-block}
use Rattle.obj_write.proofs.table.number_blocks.Goals as goal

pub loop-block-preserved : goal.loop-block-preserved
loop-block-preserved c =
    let before = c.loop-block in
    let b = before.block in
    let xs = c.args.numbers.now in
    elim c.if-used-block.branch [
      | then-used-block w ↦
          let ys = w.number_block-count.new.numbers in
          let long = w.number_block-count.ensures.length in
          let counted = w.number_block-count.ensures.counted xs before.invariant.counted in
          let same : block_end before.numbers (b + 1) ≡ block_end ys (b + 1) =
          ap (λ k. min (64 * (b + 1)) k) (sym long) in
          rw w.numbers-is (rw w.count-is (record {
            places = long ∙ before.invariant.places;
            flagged = flagged-other before.numbers ys c.args.used.now b before.invariant.flagged long
                w.if-used-block.true w.number_block-count.ensures.others;
            counted = subst (IsCounted xs ys w.number_block-count.result) same counted;
          }))
      | else-used-block w ↦
          rw w.numbers-is (rw w.count-is (record {
            places = before.invariant.places;
            flagged = before.invariant.flagged;
            counted = counted-block xs before.numbers c.args.used.now before.count b before.invariant.flagged
                w.if-used-block.false before.invariant.counted;
          }))
    ]
