use Rattle.roam_run.proofs.run.run_command.Goals as goal

pub returns-in-Info-clause-runs : goal.returns-in-Info-clause-runs
returns-in-Info-clause-runs g c =
    rw (c.in-Info.is, c.without_engine.ensures.status, c.without_engine.ensures.engine) c.run_info.ensures.runs

pub returns-in-Make-clause-runs : goal.returns-in-Make-clause-runs
returns-in-Make-clause-runs g c =
    rw (c.in-Make.is, c.without_engine-in-Make.ensures.status, c.without_engine-in-Make.ensures.engine)
    c.run_make.ensures.runs

pub returns-in-Check-clause-runs : goal.returns-in-Check-clause-runs
returns-in-Check-clause-runs g c =
    rw (c.in-Check.is, c.without_engine-in-Check.ensures.status, c.without_engine-in-Check.ensures.engine)
    c.run_check.ensures.runs

pub returns-in-Fit-clause-runs : goal.returns-in-Fit-clause-runs
returns-in-Fit-clause-runs g c =
    rw (c.in-Fit.is, c.without_engine-in-Fit.ensures.status, c.without_engine-in-Fit.ensures.engine)
    c.run_fit.ensures.runs

pub returns-in-MakeFit-clause-runs : goal.returns-in-MakeFit-clause-runs
returns-in-MakeFit-clause-runs g c =
    rw (c.in-MakeFit.is, c.without_engine-in-MakeFit.ensures.status, c.without_engine-in-MakeFit.ensures.engine)
    c.run_fit_make.ensures.runs

pub returns-in-CheckFit-clause-runs : goal.returns-in-CheckFit-clause-runs
returns-in-CheckFit-clause-runs g c =
    rw (c.in-CheckFit.is, c.without_engine-in-CheckFit.ensures.status, c.without_engine-in-CheckFit.ensures.engine)
    c.run_fit_check.ensures.runs

pub returns-in-Keep-clause-runs : goal.returns-in-Keep-clause-runs
returns-in-Keep-clause-runs g c =
    rw (c.in-Keep.is, c.without_engine-in-Keep.ensures.status, c.without_engine-in-Keep.ensures.engine)
    c.run_keep.ensures.runs

pub returns-in-MakeKept-clause-runs : goal.returns-in-MakeKept-clause-runs
returns-in-MakeKept-clause-runs g c =
    rw (c.in-MakeKept.is, c.without_engine-in-MakeKept.ensures.status, c.without_engine-in-MakeKept.ensures.engine)
    c.run_kept_make.ensures.runs

pub returns-in-CheckKept-clause-runs : goal.returns-in-CheckKept-clause-runs
returns-in-CheckKept-clause-runs g c =
    rw (c.in-CheckKept.is, c.without_engine-in-CheckKept.ensures.status, c.without_engine-in-CheckKept.ensures.engine)
    c.run_kept_check.ensures.runs
