use Rattle.std.proofs.Common.{Err, ◌∙◌, ap}
use Rattle.run_words.specs.Words.{Check}
use Rattle.run_words.specs.CertifyView.{checking_seen}
use Rattle.run_laws.proofs.RunLemmas.{spent-runs}
use Rattle.run_certify.proofs.JudgingLemmas.{check-runs, check-memory, check-fault}
use Rattle.run_certify.proofs.checking.run_check.Goals as goal

pub returns-in-Ok-judge-clause-runs : goal.returns-in-Ok-judge-clause-runs
returns-in-Ok-judge-clause-runs g c =
    let judged = rw c.in-Ok-build.ensures at c.in-Ok-judge.ensures.ok in
    check-runs _ _ _ _ _ (checking_seen c.args.words.now) c.in-Ok.grid c.as_slice.result.now c.status.result _
    c.in-Ok.ensures.ok c.in-Ok-judge.judgement c.in-Ok-judge.ensures.opened
    c.in-Ok-judge.ensures.ended judged
    (c.as_slice.ensures.value ∙ c.judgement_report.ensures) c.status.ensures c.end_with_text.ensures.tells

pub returns-in-Err-NoMemory-clause-runs : goal.returns-in-Err-NoMemory-clause-runs
returns-in-Err-NoMemory-clause-runs g c =
    let no_memory =
    rw c.in-Ok-build.ensures at (c.in-Err-NoMemory.ensures.no_memory (ap Err c.in-Err-NoMemory.field-0-is)) in
    check-memory _ _ _ _ (checking_seen c.args.words.now) c.in-Ok.grid c.in-Ok.ensures.ok no_memory

pub returns-in-Ok-build-clause-runs : goal.returns-in-Ok-build-clause-runs
returns-in-Ok-build-clause-runs g c =
    let fault = rw c.in-Ok-build.ensures at (c.in-Err-Failed.ensures.failed (ap Err c.in-Err-Failed.field-0-is)) in
    check-fault _ _ _ _ (checking_seen c.args.words.now) c.in-Ok.grid c.in-Ok.ensures.ok fault

pub returns-in-Ok-clause-runs : goal.returns-in-Ok-clause-runs
returns-in-Ok-clause-runs g c =
    spent-runs _ _ _ (Check (checking_seen c.args.words.now)) c.in-Ok.grid c.in-Ok.ensures.ok

pub returns-clause-runs : goal.returns-clause-runs
returns-clause-runs g c = c.in-Err.ensures.err (Check (checking_seen c.args.words.now))
