use Rattle.std.proofs.Common.{inr, arith}
use Rattle.run_laws.proofs.RunLemmas.{opens-one, fails-then}
use Rattle.run_certify.proofs.fit_judging.judge.Goals as goal

pub returns-in-Ok-clause-failed : goal.returns-in-Ok-clause-failed
returns-in-Ok-clause-failed g c is =
    let read = c.in-Ok.ensures in
    let found = rw c.n.ensures.value at read.ok in
    let behind = c.judge_cert.ensures.failed is in
    let opened =
    opens-one _ _ (omega (arith, c.requires.opens)) read.only read.opens (read.no_fault (λ e. cc)) read.in_time in
    inr (_, behind.0, found, behind.1, fails-then _ _ _ 1 1 _ _ opened behind.2)
