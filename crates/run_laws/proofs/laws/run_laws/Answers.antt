use Rattle.run_laws.proofs.PictureLemmas.{BudgetFramesAreBest, frame-best, frame-least, pictures-certified}
use Rattle.run_laws.proofs.CertifyLemmas.{certificates-exist}
use Rattle.run_laws.proofs.OutcomeLemmas.{outcome-done, outcome-unique, outcome-engine, outcome-exists}
use Rattle.run_laws.proofs.OutcomeLemmas.{outcome-certified}
use Rattle.run_laws.proofs.BestLemmas.{run-keeps, mesh-certified}
use Rattle.run_laws.proofs.laws.run_laws.Goals as goal

pub returns-clause-one_outcome : goal.returns-clause-one_outcome
returns-clause-one_outcome c =
    outcome-unique c.frame_laws.ensures.unique c.member_laws.ensures.same c.state_laws.ensures.runs

pub returns-clause-some_outcome : goal.returns-clause-some_outcome
returns-clause-some_outcome c =
    let best : BudgetFramesAreBest = frame-best c.falling_laws.ensures c.frame_laws.ensures.best in
    outcome-exists c.state_laws.ensures.budgets c.state_laws.ensures.frames
    (certificates-exist c.falling_laws.ensures best c.state_laws.ensures.frames) c.state_laws.ensures.levels

pub returns-clause-one_engine : goal.returns-clause-one_engine
returns-clause-one_engine c =
    outcome-engine c.frame_laws.ensures.unique c.member_laws.ensures.same c.state_laws.ensures.runs

pub returns-clause-done : goal.returns-clause-done
returns-clause-done c = outcome-done c.grids_and_texts.ensures.texts

pub returns-clause-certificate : goal.returns-clause-certificate
returns-clause-certificate c =
    outcome-certified c.state_laws.ensures.budgets
    (pictures-certified c.falling_laws.ensures c.frame_laws.ensures.unblocked c.frame_laws.ensures.certificate)

pub returns-clause-headline : goal.returns-clause-headline
returns-clause-headline c words files s grid before now old new all status run shown told there =
    run-keeps (record {
      of_budget = frame-best c.falling_laws.ensures c.frame_laws.ensures.best;
      of_tolerance = frame-least c.falling_laws.ensures;
    }) c.state_laws.ensures.budgets c.grids_and_texts.ensures.texts words files s grid
    run shown before now old new all told there status

pub returns-clause-certified : goal.returns-clause-certified
returns-clause-certified c words files check grid before now old new status is ends done =
    mesh-certified c.falling_laws.ensures c.grids_and_texts.ensures.texts words files check grid is before now
    old new status ends done
