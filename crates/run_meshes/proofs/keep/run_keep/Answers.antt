use Rattle.std.proofs.Common.{sym}
use Rattle.run_words.specs.Words.{Keep}
use Rattle.run_words.specs.FitView.{keeping_seen}
use Rattle.run_meshes.proofs.keep.run_keep.Goals as goal

pub returns-in-Ok-make-clause-runs : goal.returns-in-Ok-make-clause-runs
returns-in-Ok-make-clause-runs g c =
    let read = rw (sym c.in-Ok-make.ensures.room.same_grid) at c.in-Ok.ensures.ok in
    c.keep_points.ensures.runs _ read

pub returns-in-Err-clause-runs : goal.returns-in-Err-clause-runs
returns-in-Err-clause-runs g c = c.in-Err.ensures.err (Keep (keeping_seen c.args.words.now))
