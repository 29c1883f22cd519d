use Rattle.std.proofs.Common.{ap}
use Rattle.run_words.specs.WordView.{show_for}
use Rattle.roam_run.proofs.run.run_frames.Goals as goal

pub run_least-requires-clause-shown : goal.run_least-requires-clause-shown
run_least-requires-clause-shown g c = ap show_for c.in-ByTolerance.is

pub run_engine-requires-clause-shown : goal.run_engine-requires-clause-shown
run_engine-requires-clause-shown g c = ap show_for c.in-ByEngine.is

pub returns-in-ByTolerance-clause-runs : goal.returns-in-ByTolerance-clause-runs
returns-in-ByTolerance-clause-runs g c =
    rw (c.without_engine.ensures.status, c.without_engine.ensures.engine) c.run_least.ensures.runs
