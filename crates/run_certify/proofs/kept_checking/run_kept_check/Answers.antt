use Rattle.std.proofs.Common.{ℕ, refl, ◌∙◌, ap}
use Rattle.run_words.specs.Words.{CheckKept}
use Rattle.run_words.specs.FitView.{kept_checking_seen}
use Rattle.run_laws.specs.Fit.{tolerance_of}
use Rattle.run_laws.proofs.KeepRunLemmas.{check-keeps}
use Rattle.run_certify.proofs.FitJudgingLemmas.{check-ends}
use Rattle.run_certify.proofs.KeptJudgingLemmas.{check-runs, check-memory, check-fault}
use Rattle.run_certify.proofs.kept_checking.run_kept_check.Goals as goal

pub returns-clause-runs : goal.returns-clause-runs
returns-clause-runs g c =
    let w = kept_checking_seen c.args.words.now in
    let grid = c.in-Ok.grid in
    let points = c.in-Ok-points_or_end.points.items in
    let read = c.in-Ok.ensures.ok in
    let behind = c.in-Ok-points_or_end.ensures.ok in
    let own = c.tolerance.ensures ∙ ap (λ (n : ℕ). tolerance_of n w.thousandths) c.n-n.ensures.value in
    check-ends _ _ _ _ _ _ _ (rw c.n-n.ensures.value at c.end_check.ensures.ends)
    c.judge-judged.ensures.opened c.judge-judged.ensures.ended (rw (c.deref.ensures.value, own) at c.judge-judged.ensures.ok)
    (λ j opened ended judged tells. check-runs _ _ _ _ _ _ w grid points _ _ _ read behind j opened ended
    (λ files told. judged files told 3) refl refl tells)
    (λ is. check-memory _ _ _ _ _ w grid points read behind
    (rw (c.deref.ensures.value, own) at (c.judge-judged.ensures.no_memory is)))
    (λ is. check-fault _ _ _ _ _ w grid points read behind
    (rw (c.deref.ensures.value, own) at (c.judge-judged.ensures.failed is)))

pub returns-in-Err-points_or_end-clause-runs : goal.returns-in-Err-points_or_end-clause-runs
returns-in-Err-points_or_end-clause-runs g c =
    let w = kept_checking_seen c.args.words.now in
    c.in-Err-points_or_end.ensures.err _ _ (CheckKept w) (check-keeps _ w) c.in-Ok.ensures.ok

pub returns-in-Err-clause-runs : goal.returns-in-Err-clause-runs
returns-in-Err-clause-runs g c = c.in-Err.ensures.err (CheckKept (kept_checking_seen c.args.words.now))
