use Rattle.std.proofs.Common.{Result, Err, IfOk, refl, arith}
use Rattle.run_words.specs.Words.{CheckFit}
use Rattle.run_words.specs.FitView.{fit_checking_seen}
use Rattle.run_certify.proofs.FitJudgingLemmas.{check-ends, judged-runs, check-memory, check-fault}
use Rattle.run_certify.proofs.fit_checking.run_fit_check.Goals as goal

pub returns-clause-runs : goal.returns-clause-runs
returns-clause-runs g c =
    let w = fit_checking_seen c.args.words.now in
    let own = rw c.n-n.ensures.value at c.target_in-target.ensures.value in
    check-ends _ _ _ _ _ _ _ (rw c.n-n.ensures.value at c.end_check.ensures.ends)
    c.judge-judged.ensures.opened c.judge-judged.ensures.ended (rw own at c.judge-judged.ensures.ok)
    (λ j opened ended judged tells. judged-runs _ _ _ _ _ (CheckFit w) 1 c.in-Ok.grid _ _ _ c.in-Ok.ensures.ok
    refl refl refl refl j opened (omega arith) ended (λ files told. judged files told 2) refl refl tells)
    (λ is. check-memory _ _ _ _ w c.in-Ok.grid c.in-Ok.ensures.ok (rw own at (c.judge-judged.ensures.no_memory is)))
    (λ is. check-fault _ _ _ _ w c.in-Ok.grid c.in-Ok.ensures.ok (rw own at (c.judge-judged.ensures.failed is)))

pub returns-in-Err-clause-runs : goal.returns-in-Err-clause-runs
returns-in-Err-clause-runs g c = c.in-Err.ensures.err (CheckFit (fit_checking_seen c.args.words.now))
