use Rattle.run_laws.proofs.FitLemmas.{tolerance-exact, fit-best}
use Rattle.run_laws.proofs.KeepLemmas.{kept-best}
use Rattle.run_laws.proofs.FitRunLemmas.{fit-keeps, kept-keeps}
use Rattle.run_laws.proofs.FitCertifyLemmas.{fit_mesh-certified}
use Rattle.run_laws.proofs.KeptCertifyLemmas.{kept_mesh-certified}
use Rattle.run_laws.proofs.laws.fitting_laws.Goals as goal

pub returns-clause-tolerance : goal.returns-clause-tolerance
returns-clause-tolerance c = tolerance-exact

pub returns-clause-best : goal.returns-clause-best
returns-clause-best c = fit-best

pub returns-clause-fitted : goal.returns-clause-fitted
returns-clause-fitted c words files f grid before now old new all status run there ends read memory =
    fit-keeps c.grids_and_texts.ensures.texts words files f grid run before now old new all
    there status ends read memory

pub returns-clause-certified : goal.returns-clause-certified
returns-clause-certified c words files check grid before now old new status is ends done =
    fit_mesh-certified c.grids_and_texts.ensures.texts words files check grid is before now old new status ends done

pub returns-clause-certified_kept : goal.returns-clause-certified_kept
returns-clause-certified_kept c words files check grid before now old new status is ends done =
    kept_mesh-certified c.grids_and_texts.ensures.texts c.point_laws.ensures.in_grid words files check grid is before
    now old new status ends done

pub returns-clause-best_kept : goal.returns-clause-best_kept
returns-clause-best_kept c thousandths points grid triangles inside = kept-best thousandths points grid inside triangles

pub returns-clause-kept : goal.returns-clause-kept
returns-clause-kept c words files k grid points before now old new all status run found there ends read memory =
    kept-keeps c.grids_and_texts.ensures.texts c.point_laws.ensures.in_grid words files k grid points run found before
    now old new all there status ends read memory
