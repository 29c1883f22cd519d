use Rattle.std.proofs.Common.{refl}
use Rattle.run_words.specs.Words.{Make}
use Rattle.run_words.specs.CertifyView.{making_seen}
use Rattle.run_laws.proofs.RunLemmas.{line-runs, spent-runs}
use Rattle.run_engine.proofs.certify.run_make.Goals as goal

pub returns-in-Ok-certificate_of-clause-runs : goal.returns-in-Ok-certificate_of-clause-runs
returns-in-Ok-certificate_of-clause-runs g c =
    line-runs _ _ _ _
    (Make (making_seen c.args.words.now)) c.in-Ok.grid _ _ c.in-Ok.ensures.ok refl refl
    (λ files. (c.in-Ok-certificate_of.cert, c.in-Ok-certificate_of.ensures, refl)) c.end_with_cert.ensures.tells

pub returns-in-Err-certificate_of-clause-runs : goal.returns-in-Err-certificate_of-clause-runs
returns-in-Err-certificate_of-clause-runs g c =
    spent-runs _ _ _ (Make (making_seen c.args.words.now)) c.in-Ok.grid c.in-Ok.ensures.ok

pub returns-in-Err-clause-runs : goal.returns-in-Err-clause-runs
returns-in-Err-clause-runs g c = c.in-Err.ensures.err (Make (making_seen c.args.words.now))
