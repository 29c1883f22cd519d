-- Each clause is a lemma.
use Rattle.fit_laws.proofs.BudgetLemmas.{budget_end, budget_exact, budget_found, budget_unique, budget_fewer}
use Rattle.fit_laws.proofs.BudgetLemmas.{certificate}
use Rattle.fit_laws.proofs.fits.budget_laws.Goals as goal

pub returns-clause-end : goal.returns-clause-end
returns-clause-end c = budget_end

pub returns-clause-exact : goal.returns-clause-exact
returns-clause-exact c = budget_exact

pub returns-clause-found : goal.returns-clause-found
returns-clause-found c = budget_found

pub returns-clause-unique : goal.returns-clause-unique
returns-clause-unique c = budget_unique

pub returns-clause-fewer : goal.returns-clause-fewer
returns-clause-fewer c = budget_fewer

pub returns-clause-certificate : goal.returns-clause-certificate
returns-clause-certificate c = certificate
