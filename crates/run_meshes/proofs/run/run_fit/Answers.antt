use Rattle.std.proofs.Common.{refl}
use Rattle.run_words.specs.Words.{Fit}
use Rattle.run_words.specs.FitView.{fitting_seen}
use Rattle.run_laws.proofs.DoesLemmas.{ends-done, ends-cut}
use Rattle.run_laws.proofs.RunLemmas.{spent-runs}
use Rattle.run_meshes.proofs.FittedLemmas.{fitted-runs}
use Rattle.run_meshes.proofs.run.run_fit.Goals as goal

pub returns-in-Ok-show-clause-runs : goal.returns-in-Ok-show-clause-runs
returns-in-Ok-show-clause-runs g c =
    fitted-runs _ _ _ _
    (fitting_seen c.args.words.now) c.in-Ok.grid c.in-Ok-make.fitted _ c.in-Ok.ensures.ok
    c.in-Ok-make.ensures.fitted (ends-done _ _ _ _ _ refl c.in-Ok-show.ensures.does)

pub returns-in-Ok-make-clause-runs : goal.returns-in-Ok-make-clause-runs
returns-in-Ok-make-clause-runs g c =
    fitted-runs _ _ _ _
    (fitting_seen c.args.words.now) c.in-Ok.grid c.in-Ok-make.fitted _ c.in-Ok.ensures.ok
    c.in-Ok-make.ensures.fitted (ends-cut _ _ _ _ _ c.in-Err-show.ensures.does)

pub returns-in-Ok-clause-runs : goal.returns-in-Ok-clause-runs
returns-in-Ok-clause-runs g c =
    spent-runs _ _ _ (Fit (fitting_seen c.args.words.now)) c.in-Ok.grid c.in-Ok.ensures.ok

pub returns-clause-runs : goal.returns-clause-runs
returns-clause-runs g c = c.in-Err.ensures.err (Fit (fitting_seen c.args.words.now))
