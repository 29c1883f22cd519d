use Rattle.std.proofs.Common.{arith}
use Rattle.view_priority.proofs.NewtonLemmas.{next-above, next-less, positive}
use Rattle.view_priority.proofs.root.square_root.Goals as goal

pub loop-root-preserved : goal.loop-root-preserved
loop-root-preserved c =
    let s = c.args.number in
    let less = next-less s c.loop-root.root c.loop-root-test.true in
    (omega arith, next-above s c.loop-root.root (positive s c.loop-root.root c.loop-root-test.true))
