-- Each clause is a lemma.
use Rattle.fit_laws.proofs.FitLemmas.{fit_found, fit_unique, fit_mesh, fit_fewer, fit_tight, least-fit, fit-least}
use Rattle.fit_laws.proofs.fits.fit_laws.Goals as goal

pub returns-clause-end : goal.returns-clause-end
returns-clause-end c n tolerance error has closed needed within =
    record { settled = record { closed = closed; within = within }; needed = needed }

pub returns-clause-found : goal.returns-clause-found
returns-clause-found c = fit_found

pub returns-clause-unique : goal.returns-clause-unique
returns-clause-unique c = fit_unique

pub returns-clause-mesh : goal.returns-clause-mesh
returns-clause-mesh c = fit_mesh

pub returns-clause-fewer : goal.returns-clause-fewer
returns-clause-fewer c = fit_fewer

pub returns-clause-tight : goal.returns-clause-tight
returns-clause-tight c = fit_tight

pub returns-clause-falling : goal.returns-clause-falling
returns-clause-falling c n tolerance priority has falling =
    (least-fit n tolerance priority has falling, fit-least n tolerance priority has falling)
