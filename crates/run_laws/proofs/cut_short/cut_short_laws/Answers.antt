use Rattle.run_laws.proofs.CutShortLemmas.{cut_runs, cut_texts, write_faults, sinks-decide}
use Rattle.run_laws.proofs.cut_short.cut_short_laws.Goals as goal

pub returns-clause-runs : goal.returns-clause-runs
returns-clause-runs c = cut_runs

pub returns-clause-texts : goal.returns-clause-texts
returns-clause-texts c = cut_texts

pub returns-clause-write_faults : goal.returns-clause-write_faults
returns-clause-write_faults c = write_faults c.grids_and_texts.ensures.texts

pub returns-clause-sinks : goal.returns-clause-sinks
returns-clause-sinks c = sinks-decide
