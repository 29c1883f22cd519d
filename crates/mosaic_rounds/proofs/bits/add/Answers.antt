-- Run by run.
use Rattle.std.proofs.Common.{◌+◌, ◌*◌, ◌/◌, ◌%◌, ◌^◌, ◌<◌, ◌∙◌, length, get_or, length-set, arith, inl}
use Rattle.std.specs.Prelude.{bit_or}
use Rattle.mosaic_rounds.proofs.RunLemmas.{run-other, run-added}
use Rattle.mosaic_rounds.proofs.bits.add.Goals as goal

pub loop-done-preserved : goal.loop-done-preserved
loop-done-preserved c =
    let most = c.run_of-run.ensures.most in
    let less = c.loop-done-test.true in
    let long = c.loop-done.invariant.room in
    let all = c.requires.room in
    let room : c.args.i + c.loop-done.done < 64 * length c.loop-done.words = omega arith in record {
      within = omega arith;
      room = length-set c.loop-done.words ((c.args.i + c.loop-done.done) / 64)
          (bit_or (get_or c.loop-done.words ((c.args.i + c.loop-done.done) / 64) 0)
          (c.run_at-bits.result * 2 ^ ((c.args.i + c.loop-done.done) % 64) % 2 ^ 64)) ∙ long;
      added = run-added c.loop-done.words c.args.words.now c.args.others.now c.args.i c.args.j c.loop-done.done
          c.run_of-run.result c.run_at-bits.result room c.run_of-run.ensures.i c.run_at-bits.ensures.beyond
          c.run_at-bits.ensures.inside c.loop-done.invariant.added;
      before = λ k below.
          run-other c.loop-done.words (c.args.i + c.loop-done.done) c.run_of-run.result c.run_at-bits.result room
          c.run_of-run.ensures.i c.run_at-bits.ensures.beyond k (inl (omega arith))
          ∙ c.loop-done.invariant.before k below;
    }
