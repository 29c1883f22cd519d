-- A shift and a mask.
use Rattle.std.proofs.Common.{◌/◌, ◌%◌, ◌^◌, get_or, arith}
use Rattle.mosaic_rounds.proofs.RunLemmas.{run-inside, run-below}
use Rattle.mosaic_rounds.proofs.bits.run_at.Goals as goal

pub returns-clause-inside : goal.returns-clause-inside
returns-clause-inside c k less = run-inside c.args.words.now c.args.i c.args.run k c.requires.run.1 less

pub returns-clause-beyond : goal.returns-clause-beyond
returns-clause-beyond c =
    let within = c.requires.run.1 in
    run-below (get_or c.args.words.now (c.args.i / 64) 0 / 2 ^ (c.args.i % 64)) c.args.run (omega arith)
