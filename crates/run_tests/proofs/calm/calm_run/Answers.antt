use Rattle.std.proofs.Common.{map, string_bytes, refl}
use Rattle.run_tests.proofs.CalmLemmas.{calm-complete, calm-read, calm-write}
use Rattle.run_tests.proofs.calm.calm_run.Goals as goal

pub returns-clause-complete : goal.returns-clause-complete
returns-clause-complete c accepted =
    let cause = c.roam.ensures.causes in
    let faults = c.statement_laws.ensures.faults _ _ _ _ cause in
    calm-complete _ _ _ (calm-read _ cause.read) faults.writes
    (λ same. c.statement_laws.ensures.complete _ _ (map string_bytes c.args.words.now) _ _ _ c.roam.ensures.ends
    cause
    (λ named. refl) accepted refl refl same)

pub returns-clause-read : goal.returns-clause-read
returns-clause-read c = calm-read _ c.roam.ensures.causes.read

pub returns-clause-write_cause : goal.returns-clause-write_cause
returns-clause-write_cause c = calm-write _ _ _ c.roam.ensures.causes.write
