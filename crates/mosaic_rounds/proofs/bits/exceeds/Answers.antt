-- Run by run.
use Rattle.std.proofs.Common.{◌+◌, ◌≤◌, refl, arith}
use Rattle.mosaic_rounds.proofs.RunLemmas.{run-exceeds, run-passed}
use Rattle.mosaic_rounds.proofs.bits.exceeds.Goals as goal

pub returns-then-run_at-ne0 : goal.returns-then-run_at-ne0
returns-then-run_at-ne0 c =
    let most = c.run_of-run.ensures.most in
    let less = c.loop-done-test.true in
    let one_word = c.run_of-run.ensures.i in
    let narrow : c.run_of-run.result ≤ 64 = omega arith in
    let within : c.loop-done.done + c.run_of-run.result ≤ c.args.count = omega arith in record {
      value = (
        (λ e. run-exceeds c.args.words.now c.args.others.now c.args.i c.args.j c.loop-done.done c.run_of-run.result
            c.args.count c.run_at.result c.run_at-in-loop-done.result narrow c.run_at.ensures.beyond
            c.run_at-in-loop-done.ensures.beyond c.run_at.ensures.inside c.run_at-in-loop-done.ensures.inside within
            c.if-run_at-ne0.true),
        (λ h. refl),
      );
    }

pub loop-done-preserved : goal.loop-done-preserved
loop-done-preserved c =
    let most = c.run_of-run.ensures.most in
    let less = c.loop-done-test.true in
    let one_word = c.run_of-run.ensures.i in
    let narrow : c.run_of-run.result ≤ 64 = omega arith in record {
      within = omega arith;
      none = run-passed c.args.words.now c.args.others.now c.args.i c.args.j c.loop-done.done c.run_of-run.result
          c.args.count c.run_at.result c.run_at-in-loop-done.result narrow c.run_at.ensures.beyond
          c.run_at-in-loop-done.ensures.beyond c.run_at.ensures.inside c.run_at-in-loop-done.ensures.inside
          c.if-run_at-ne0.false c.loop-done.invariant.none;
    }
