use Rattle.std.proofs.Common.{◌∙◌}
use Rattle.roam_run.proofs.TryLemmas.{made-runs, unmade-runs}
use Rattle.roam_run.proofs.run.run_try.Goals as goal

pub returns-in-Ok-clause-runs : goal.returns-in-Ok-clause-runs
returns-in-Ok-clause-runs g c =
    rw (c.of_script.ensures.status)
    (made-runs _ _ c.args.n c.args.seed c.in-Ok.sums c.in-Ok.engine c.of_script.result.engine c.as_slice.result.now
    c.end_with_text-status.result
    c.in-Ok.ensures (c.as_slice.ensures.value
    ∙ c.try_report-line.ensures) c.of_script.ensures.engine c.of_script.ensures.left
    c.end_with_text-status.ensures.tells)

pub returns-in-Err-clause-runs : goal.returns-in-Err-clause-runs
returns-in-Err-clause-runs g c =
    rw (c.without_engine.ensures.status, c.without_engine.ensures.engine)
    (unmade-runs _ c.args.n c.args.seed)
