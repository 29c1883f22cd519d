use Rattle.std.proofs.Common.{refl}
use Rattle.run_words.specs.Words.{MakeFit}
use Rattle.run_words.specs.FitView.{fit_making_seen}
use Rattle.run_laws.proofs.RunLemmas.{line-runs, spent-runs}
use Rattle.run_certify.proofs.fit_making.run_fit_make.Goals as goal

pub returns-in-Ok-certificate_of-clause-runs : goal.returns-in-Ok-certificate_of-clause-runs
returns-in-Ok-certificate_of-clause-runs g c =
    line-runs _ _ _ _
    (MakeFit (fit_making_seen c.args.words.now)) c.in-Ok.grid _ _ c.in-Ok.ensures.ok refl refl
    (λ files. (c.in-Ok-certificate_of.cert, c.in-Ok-certificate_of.ensures, refl)) c.end_with_cert.ensures.tells

pub returns-in-Ok-clause-runs : goal.returns-in-Ok-clause-runs
returns-in-Ok-clause-runs g c =
    spent-runs _ _ _ (MakeFit (fit_making_seen c.args.words.now)) c.in-Ok.grid c.in-Ok.ensures.ok

pub returns-clause-runs : goal.returns-clause-runs
returns-clause-runs g c = c.in-Err.ensures.err (MakeFit (fit_making_seen c.args.words.now))
