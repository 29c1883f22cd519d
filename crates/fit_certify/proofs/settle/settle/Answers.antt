-- The passes end, and there are fewer reasons than triangles that may be split.
use Rattle.std.proofs.Common.{rules}
use Rattle.mesh_laws.specs.Sweep.{is_flagged}
use Rattle.fit_certify.proofs.SettleLemmas.{settle-falls, reasons-few}
use Rattle.fit_certify.proofs.settle.settle.Goals as goal

pub loop-again-smaller : goal.loop-again-smaller
loop-again-smaller c =
    settle-falls _ c.loop-again.settling c.sweep.new.self c.loop-again.again c.in_ok-again.again
    c.loop-again-test.true c.in_ok-again.ensures.pass

pub returns-clause-few : goal.returns-clause-few
returns-clause-few c =
    let few = reasons-few c.args.grid.now.n c.args.grid.now.heights c.args.tolerance (is_flagged c.args.flags.now) _ _
    c.requires.file_level c.requires.closed c.loop-again.invariant.leads in
    search rules
