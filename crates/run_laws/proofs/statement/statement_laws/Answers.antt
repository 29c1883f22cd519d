use Rattle.run_laws.proofs.StatementLemmas.{outcome-follows, engine-follows, run-fault-follows, text-fault-follows}
use Rattle.run_laws.proofs.StatementLemmas.{complete-follows, faults-follow}
use Rattle.run_laws.proofs.statement.statement_laws.Goals as goal

pub returns-clause-outcome : goal.returns-clause-outcome
returns-clause-outcome c = outcome-follows

pub returns-clause-engine_end : goal.returns-clause-engine_end
returns-clause-engine_end c = engine-follows c.run_laws.ensures.one_engine

pub returns-clause-write_fault : goal.returns-clause-write_fault
returns-clause-write_fault c = run-fault-follows c.cut_short_laws.ensures.write_faults

pub returns-clause-text_fault : goal.returns-clause-text_fault
returns-clause-text_fault c = text-fault-follows c.cut_short_laws.ensures.texts c.run_laws.ensures.one_outcome

pub returns-clause-complete : goal.returns-clause-complete
returns-clause-complete c = complete-follows c.run_laws.ensures.done

pub returns-clause-faults : goal.returns-clause-faults
returns-clause-faults c = faults-follow
