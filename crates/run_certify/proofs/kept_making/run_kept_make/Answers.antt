use Rattle.run_words.specs.Words.{MakeKept}
use Rattle.run_words.specs.FitView.{kept_making_seen}
use Rattle.run_laws.proofs.KeepRunLemmas.{make-keeps}
use Rattle.run_certify.proofs.KeptJudgingLemmas.{make-runs, make-memory}
use Rattle.run_certify.proofs.kept_making.run_kept_make.Goals as goal

pub returns-in-Ok-certificate_of-clause-runs : goal.returns-in-Ok-certificate_of-clause-runs
returns-in-Ok-certificate_of-clause-runs g c =
    let made = rw c.deref.ensures.value at c.in-Ok-certificate_of.ensures in
    make-runs _ _ _ _ _ (kept_making_seen c.args.words.now) c.in-Ok.grid c.in-Ok-points_or_end.points.items
    c.in-Ok.ensures.ok c.in-Ok-points_or_end.ensures.ok c.in-Ok-certificate_of.cert _ made
    c.end_with_cert.ensures.tells

pub returns-in-Ok-points_or_end-clause-runs : goal.returns-in-Ok-points_or_end-clause-runs
returns-in-Ok-points_or_end-clause-runs g c =
    make-memory _ _ _ _ (kept_making_seen c.args.words.now) c.in-Ok.grid c.in-Ok-points_or_end.points.items
    c.in-Ok.ensures.ok c.in-Ok-points_or_end.ensures.ok

pub returns-in-Ok-clause-runs : goal.returns-in-Ok-clause-runs
returns-in-Ok-clause-runs g c =
    let m = kept_making_seen c.args.words.now in
    c.in-Err-points_or_end.ensures.err _ _ (MakeKept m) (make-keeps _ m) c.in-Ok.ensures.ok

pub returns-clause-runs : goal.returns-clause-runs
returns-clause-runs g c = c.in-Err.ensures.err (MakeKept (kept_making_seen c.args.words.now))
